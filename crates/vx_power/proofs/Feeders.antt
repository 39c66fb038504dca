-- What feeds dust: listed from a device, and found from the dust.
use Rattle.std.proofs.Common.{◌≡◌, ◌⊎◌, inl, inr, Bool, true, false, ◌&&◌, ◌||◌, if◌then◌else◌, List, [], ◌∷◌, ◌++◌, refl, sym, ap, ◌∙◌, subst, arith}
use Rattle.std.specs.List.{list_any}
use Rattle.std.proofs.Math.Bool.{or-false}
use Rattle.std.proofs.lemmas.Bool.{and_parts, and_from, or_cases, or_left, or_right, false≢true}
use Rattle.std.proofs.lemmas.Int.{ints}
use Rattle.vx_geom.specs.declared.dir.Dir.{Dir}
use Rattle.vx_geom.specs.declared.dir.Dir.TheVariants.{East, West, Up, Down, South, North}
use Rattle.vx_geom.specs.declared.pos.Pos.{Pos}
use Rattle.vx_geom.specs.Dirs.{all_dirs, opposite}
use Rattle.vx_geom.specs.Neighbor.{neighbor}
use Rattle.vx_geom.proofs.Positions.{there_and_back}
use Rattle.vx_block.specs.declared.cell.Cell.{Cell}
use Rattle.vx_block.specs.declared.cell.Cell.TheVariants.{Torch, Lever, Repeater}
use Rattle.vx_block.specs.Components.{is_dust, is_device}
use Rattle.vx_block.specs.Conductors.{conducts}
use Rattle.vx_power.specs.Levels.{has}
use Rattle.vx_power.specs.Signals.{gives, drives, drives_from, is_driven, is_strong, feeds_from, has_feeder, is_fed}
use Rattle.vx_power.specs.Spreading.{dust_at, each_dir, fed_from, fed_towards}
use Rattle.vx_power.proofs.Around.{IsOff, itself, step_off}
use Rattle.vx_power.proofs.Having.{has_joined, place_is, own_place}
use Rattle.vx_power.proofs.Local.{one_of_six}
use Rattle.vx_power.proofs.Reach.{any_at, any_from}

-- back and back again is where it began
back_twice : (d : Dir) → opposite (opposite d) ≡ d
back_twice East = refl
back_twice West = refl
back_twice Up = refl
back_twice Down = refl
back_twice South = refl
back_twice North = refl

-- some direction passes the test
some_dir : (test : Dir → Bool) (d : Dir) → test d ≡ true → list_any test all_dirs ≡ true
some_dir test d passes = any_from test all_dirs d (one_of_six d) passes

-- six lists joined have what one of them has
has_each : (f : Dir → List Pos) (p : Pos) → has (each_dir f) p ≡ list_any (λ d. has (f d) p) all_dirs
has_each f p =
    has_joined (f East) (f West ++ (f Up ++ (f Down ++ (f South ++ f North)))) p
    ∙ ap (λ b. has (f East) p || b) (has_joined (f West) (f Up ++ (f Down ++ (f South ++ f North))) p
    ∙ ap (λ b. has (f West) p || b) (has_joined (f Up) (f Down ++ (f South ++ f North)) p
    ∙ ap (λ b. has (f Up) p || b) (has_joined (f Down) (f South ++ f North) p
    ∙ ap (λ b. has (f Down) p || b) (has_joined (f South) (f North) p
    ∙ ap (λ b. has (f South) p || b) (sym (or-false (has (f North) p)))))))

-- and so it is for some direction
each_at : (f : Dir → List Pos) (p : Pos) → has (each_dir f) p ≡ true → (d : Dir) × (has (f d) p ≡ true)
each_at f p is =
    let found = any_at (λ d. has (f d) p) all_dirs (sym (has_each f p) ∙ is) in
    (found.0, found.2)

-- and what one of them has, they have together
each_from : (f : Dir → List Pos) (p : Pos) (d : Dir) → has (f d) p ≡ true → has (each_dir f) p ≡ true
each_from f p d is = has_each f p ∙ some_dir (λ d. has (f d) p) d is

-- a list that is there on a condition
has_if : (b : Bool) (ps : List Pos) (p : Pos) → has (if b then ps else []) p ≡ (b && has ps p)
has_if true ps p = refl
has_if false ps p = refl

-- a neighbor has one in the opposite direction
pub back_to : (s p : Pos) (d : Dir) → neighbor s d ≡ p → neighbor p (opposite d) ≡ s
back_to s p d there = ap (λ q. neighbor q (opposite d)) (sym there) ∙ there_and_back s d

module _ (w : Pos → Cell) where
  -- what is listed beside a position is dust, and stands there
  dust_there : (p q : Pos) (d : Dir) → has (dust_at w q d) p ≡ true
      → (is_dust (w p) ≡ true) × (neighbor q d ≡ p)
  unfolding dust_at
  dust_there p q d is =
      let parts = and_parts (is_dust (w (neighbor q d))) (has (neighbor q d ∷ []) p)
      (sym (has_if (is_dust (w (neighbor q d))) (neighbor q d ∷ []) p) ∙ is) in
      let same = one_at (neighbor q d) p parts.1 in
      (subst (λ r. is_dust (w r) ≡ true) same parts.0, same)
    where
      one_at : (q p : Pos) → has (q ∷ []) p ≡ true → q ≡ p
      one_at q p is = sym (place_is p q (sym (or-false _) ∙ is))

  -- and dust that stands there is listed
  there_dust : (p q : Pos) (d : Dir) → is_dust (w p) ≡ true → neighbor q d ≡ p
      → has (dust_at w q d) p ≡ true
  unfolding dust_at
  there_dust p q d dust same =
      has_if (is_dust (w (neighbor q d))) (neighbor q d ∷ []) p
      ∙ and_from (is_dust (w (neighbor q d))) (has (neighbor q d ∷ []) p)
      (ap (λ r. is_dust (w r)) same ∙ dust)
      (ap (λ r. has (r ∷ []) p) same ∙ or_left _ _ (own_place p))

  -- what stands at s gives to dust at p
  pub record GivesTo (s p : Pos) : Type 0 where
    pub dir : Dir
    pub given : gives (w s) dir ≡ true
    pub there : neighbor s dir ≡ p

  -- what stands at s drives a conductor beside dust at p
  pub record DrivesBeside (s p : Pos) : Type 0 where
    pub dir : Dir
    pub onward : Dir
    pub driven : drives (w s) dir ≡ true
    pub conducted : conducts (w (neighbor s dir)) ≡ true
    pub there : neighbor (neighbor s dir) onward ≡ p

  -- it does one of the two
  abbrev pub Feeds : Pos → Pos → Type 0
  Feeds s p = (is_dust (w p) ≡ true) × (GivesTo s p ⊎ DrivesBeside s p)

  -- the dust that is listed is fed so
  pub feeds_at : (s p : Pos) → has (fed_from w s) p ≡ true → Feeds s p
  unfolding fed_from fed_towards
  feeds_at s p is =
      let at = each_at (fed_towards w s) p is in
      let d = at.0 in
      let given = if gives (w s) d then dust_at w s d else [] in
      let driving = drives (w s) d && conducts (w (neighbor s d)) in
      let around = each_dir (dust_at w (neighbor s d)) in
      elim (or_cases (has given p) (has (if driving then around else []) p)
      (sym (has_joined given (if driving then around else []) p) ∙ at.1)) [
        | inl first ↦
            let parts = and_parts (gives (w s) d) (has (dust_at w s d) p)
            (sym (has_if (gives (w s) d) (dust_at w s d) p) ∙ first) in
            let dust = dust_there p s d parts.1 in
            (dust.0, inl (record { dir = d; given = parts.0; there = dust.1 }))
        | inr second ↦
            let parts = and_parts driving (has around p) (sym (has_if driving around p) ∙ second) in
            let both = and_parts (drives (w s) d) (conducts (w (neighbor s d))) parts.0 in
            let next = each_at (dust_at w (neighbor s d)) p parts.1 in
            let dust = dust_there p (neighbor s d) next.0 next.1 in (
              dust.0,
              inr (record {
                dir = d;
                onward = next.0;
                driven = both.0;
                conducted = both.1;
                there = dust.1;
              }),
            )
      ]

  -- and dust that is fed so is listed
  pub from_feeds : (s p : Pos) → Feeds s p → has (fed_from w s) p ≡ true
  unfolding fed_from fed_towards
  from_feeds s p feeds = elim feeds.1 [
    | inl to ↦
        let d = to.dir in
        let driving = drives (w s) d && conducts (w (neighbor s d)) in
        each_from (fed_towards w s) p d
        (has_joined (if gives (w s) d then dust_at w s d else [])
        (if driving then each_dir (dust_at w (neighbor s d)) else []) p
        ∙ or_left _ _ (has_if (gives (w s) d) (dust_at w s d) p
        ∙ and_from (gives (w s) d) (has (dust_at w s d) p) to.given (there_dust p s d feeds.0 to.there)))
    | inr by ↦
        let d = by.dir in
        let driving = drives (w s) d && conducts (w (neighbor s d)) in
        let around = each_dir (dust_at w (neighbor s d)) in
        each_from (fed_towards w s) p d
        (has_joined (if gives (w s) d then dust_at w s d else []) (if driving then around else []) p
        ∙ or_right _ _ (has_if driving around p
        ∙ and_from driving (has around p)
        (and_from (drives (w s) d) (conducts (w (neighbor s d))) by.driven by.conducted)
        (each_from (dust_at w (neighbor s d)) p by.onward
        (there_dust p (neighbor s d) by.onward feeds.0 by.there))))
  ]

  -- dust that is fed by what stands somewhere is fed
  pub feeds_fed : (s p : Pos) → Feeds s p → is_fed w p ≡ true
  unfolding is_fed has_feeder feeds_from is_strong is_driven drives_from
  feeds_fed s p feeds = and_from (is_dust (w p)) (has_feeder w p) feeds.0 (elim feeds.1 [
    | inl to ↦
        some_dir (feeds_from w p) (opposite to.dir)
        (or_left (gives (w (neighbor p (opposite to.dir))) (opposite (opposite to.dir)))
        (is_strong w (neighbor p (opposite to.dir)))
        (ap (λ q. gives (w q) (opposite (opposite to.dir))) (back_to s p to.dir to.there)
        ∙ ap (gives (w s)) (back_twice to.dir) ∙ to.given))
    | inr by ↦
        let c = neighbor s by.dir in
        let driven = some_dir (drives_from w c) (opposite by.dir)
        (ap (λ q. drives (w q) (opposite (opposite by.dir))) (there_and_back s by.dir)
        ∙ ap (drives (w s)) (back_twice by.dir) ∙ by.driven) in
        some_dir (feeds_from w p) (opposite by.onward)
        (or_right (gives (w (neighbor p (opposite by.onward))) (opposite (opposite by.onward)))
        (is_strong w (neighbor p (opposite by.onward)))
        (ap (is_strong w) (back_to c p by.onward by.there)
        ∙ and_from (conducts (w c)) (is_driven w c) by.conducted driven))
  ])

  -- dust that is fed is fed by what stands somewhere
  pub fed_feeds : (p : Pos) → is_fed w p ≡ true → (s : Pos) × Feeds s p
  unfolding is_fed has_feeder feeds_from is_strong is_driven drives_from
  fed_feeds p fed =
      let parts = and_parts (is_dust (w p)) (has_feeder w p) fed in
      let at = any_at (feeds_from w p) all_dirs parts.1 in
      let d = at.0 in
      let c = neighbor p d in
      elim (or_cases (gives (w c) (opposite d)) (is_strong w c) at.2) [
        | inl given ↦
            let to : GivesTo c p = record { dir = opposite d; given = given; there = there_and_back p d } in
            (c, (parts.0, inl to))
        | inr strong ↦
            let both = and_parts (conducts (w c)) (is_driven w c) strong in
            let from = any_at (drives_from w c) all_dirs both.1 in
            let e = from.0 in
            let home = there_and_back c e in (
              neighbor c e,
              (
                parts.0,
                inr (record {
                  dir = opposite e;
                  onward = opposite d;
                  driven = from.2;
                  conducted = ap (λ q. conducts (w q)) home ∙ both.0;
                  there = ap (λ q. neighbor q (opposite d)) home ∙ there_and_back p d;
                }),
              ),
            )
      ]

  -- it stands at most two columns off
  pub feeds_off : (s p : Pos) → Feeds s p → IsOff 2 p s
  feeds_off s p feeds = elim feeds.1 [
    | inl to ↦ further p s (one_off p s to.dir to.there)
    | inr by ↦
        let c = neighbor s by.dir in
        let twice = step_off 1 p c (opposite by.dir) (one_off p c by.onward by.there) in
        subst (IsOff 2 p) (there_and_back s by.dir) twice
  ]
    where
      one_off : (p q : Pos) (d : Dir) → neighbor q d ≡ p → IsOff 1 p q
      one_off p q d there =
          subst (IsOff 1 p) (back_to q p d there) (step_off 0 p p (opposite d) (itself p))

      further : (p q : Pos) → IsOff 1 p q → IsOff 2 p q
      further p q off = omega (arith, ints)

-- only devices give
gives_device : (c : Cell) (d : Dir) → gives c d ≡ true → is_device c ≡ true
gives_device (Torch facing lit) d given = refl
gives_device (Lever facing on) d given = refl
gives_device (Repeater r) d given = refl
gives_device _ d given = absurd (false≢true given)

-- only devices drive
drives_device : (c : Cell) (d : Dir) → drives c d ≡ true → is_device c ≡ true
drives_device (Torch facing lit) d driven = refl
drives_device (Lever facing on) d driven = refl
drives_device (Repeater r) d driven = refl
drives_device _ d driven = absurd (false≢true driven)

-- and so what feeds dust is a device
pub feeds_device : (w : Pos → Cell) (s p : Pos) → Feeds w s p → is_device (w s) ≡ true
feeds_device w s p feeds = elim feeds.1 [
  | inl to ↦ gives_device (w s) to.dir to.given
  | inr by ↦ drives_device (w s) by.dir by.driven
]
