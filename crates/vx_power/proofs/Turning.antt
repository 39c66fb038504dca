-- What parts that are turned on and off feed, and that dust elsewhere is fed as before.
use Rattle.std.proofs.Common.{◌≡◌, Bool, true, false, not, ◌&&◌, if◌then◌else◌, List, [], ◌∷◌, ◌++◌, inl, inr, refl, sym, ap, ◌∙◌, subst}
use Rattle.std.proofs.lemmas.Bool.{and_parts, cases_Bool, false≢true}
use Rattle.std.proofs.lemmas.Bool.Decides.{same_from_decides}
use Rattle.vx_geom.specs.declared.dir.Dir.{Dir}
use Rattle.vx_geom.specs.declared.dir.Dir.TheVariants.{Up}
use Rattle.vx_geom.specs.declared.pos.Pos.{Pos}
use Rattle.vx_geom.specs.Dirs.{all_dirs, opposite, same_dir}
use Rattle.vx_geom.specs.Neighbor.{neighbor}
use Rattle.vx_geom.proofs.Positions.{there_and_back}
use Rattle.vx_block.specs.declared.cell.Cell.{Cell}
use Rattle.vx_block.specs.declared.cell.Cell.TheVariants as cell
use Rattle.vx_block.specs.Components.{is_dust}
use Rattle.vx_block.specs.Conductors.{conducts}
use Rattle.vx_block.specs.States.{mount_dir, side_dir}
use Rattle.vx_power.specs.Levels.{has}
use Rattle.vx_power.specs.Local.{around, sees, shown, within_steps}
use Rattle.vx_power.specs.Signals.{gives, drives, is_fed}
use Rattle.vx_power.specs.Spreading.{dust_at, each_dir, fed_by, fed_from, fed_towards}
use Rattle.vx_power.specs.Turning.{turned_on, all_on, built, BuiltAlike, FeedingSeesTurned}
use Rattle.vx_power.specs.Walks.{IsAmong}
use Rattle.vx_power.proofs.Feeders.{Feeds, back_to, fed_feeds, feeds_at, feeds_fed, from_feeds}
use Rattle.vx_power.proofs.Having.{all_at, all_from, has_at}
use Rattle.vx_power.proofs.Linking.{among_right}
use Rattle.vx_power.proofs.Local.{Builds, Near, among_around, builds_from, here, one_of_six}
use Rattle.vx_power.proofs.Showing.{same_build, built_conductor, built_dust, same_driver, same_giver}

-- no other cell is dust or conducts for being on
pub on_dust : (c : Cell) → is_dust (turned_on c) ≡ is_dust c
on_dust (cell.Torch facing lit) = refl
on_dust (cell.Lever facing on) = refl
on_dust (cell.Repeater r) = refl
on_dust _ = refl

pub on_conductor : (c : Cell) → conducts (turned_on c) ≡ conducts c
on_conductor (cell.Torch facing lit) = refl
on_conductor (cell.Lever facing on) = refl
on_conductor (cell.Repeater r) = refl
on_conductor _ = refl

-- so dust and conductors lie where they did on a map on which all is on
dust_at_on : (w : Pos → Cell) (p : Pos) (d : Dir) → dust_at (all_on w) p d ≡ dust_at w p d
unfolding dust_at
dust_at_on w p d = ap (λ b. if b then neighbor p d ∷ [] else []) (on_dust (w (neighbor p d)))

-- what a cell that is on feeds in one direction: what it gives to, and what lies around what it drives
pub towards_on : (w : Pos → Cell) (s : Pos) (d : Dir) (c : Cell) (b : Bool) (given : List Pos) → c ≡ turned_on (w s)
    → (drives c d && conducts (w (neighbor s d))) ≡ b → given ≡ (if gives c d then dust_at w s d else [])
    → given ++ (if b then each_dir (dust_at w (neighbor s d)) else []) ≡ fed_towards (all_on w) s d
unfolding fed_towards
towards_on w s d c b given is driven gives_is =
    ap (λ x. given ++ (if x then each_dir (dust_at w (neighbor s d)) else [])) (sym driven)
    ∙ ap (λ ps. ps ++ (if drives c d && conducts (w (neighbor s d)) then each_dir (dust_at w (neighbor s d)) else [])) gives_is
    ∙ ap (λ x. (if gives x d then dust_at w s d else [])
    ++ (if drives x d && conducts (w (neighbor s d)) then each_dir (dust_at w (neighbor s d)) else [])) is
    ∙ sym (λ i.
    (if gives (turned_on (w s)) d then dust_at_on w s d i else [])
    ++ (if drives (turned_on (w s)) d && on_conductor (w (neighbor s d)) i
    then each_dir (λ e. dust_at_on w (neighbor s d) e i)
    else []))

-- what gives or drives does so when it is on
on_gives : (c : Cell) (d : Dir) → gives c d ≡ true → gives (turned_on c) d ≡ true
on_gives (cell.Torch facing lit) d given = (and_parts lit (not (same_dir (mount_dir facing) d)) given).1
on_gives (cell.Lever facing on) d given = refl
on_gives (cell.Repeater r) d given = (and_parts r.on (same_dir (side_dir r.facing) d) given).1
on_gives _ d given = absurd (false≢true given)

on_drives : (c : Cell) (d : Dir) → drives c d ≡ true → drives (turned_on c) d ≡ true
on_drives (cell.Torch facing lit) d driven = (and_parts lit (same_dir d Up) driven).1
on_drives (cell.Lever facing on) d driven = (and_parts on (same_dir facing d) driven).1
on_drives (cell.Repeater r) d driven = (and_parts r.on (same_dir (side_dir r.facing) d) driven).1
on_drives _ d driven = absurd (false≢true driven)

-- what is built alike gives and drives alike when it is on
giver_on : (c e : Cell) (d : Dir) → built c ≡ built e → gives (turned_on c) d ≡ gives (turned_on e) d
giver_on c e d =
    same_build (λ x. gives (turned_on x) d) (λ level. refl) (λ state. refl) (λ facing lit. refl) (λ facing on. refl) (λ r. refl) c e

driver_on : (c e : Cell) (d : Dir) → built c ≡ built e → drives (turned_on c) d ≡ drives (turned_on e) d
driver_on c e d =
    same_build (λ x. drives (turned_on x) d) (λ level. refl) (λ state. refl) (λ facing lit. refl) (λ facing on. refl) (λ r. refl) c e

-- what lies beside p, and beside that, is in sight of it
pub beside_seen : (p : Pos) (d : Dir) → IsAmong (sees p) (neighbor p d)
beside_seen p d =
    among_right (within_steps 1 p) (around (within_steps 1) p all_dirs) (neighbor p d)
    (among_around (within_steps 1) p (neighbor p d) all_dirs d (one_of_six d) (inl refl))

pub through_seen : (p : Pos) (d e : Dir) → IsAmong (sees p) (neighbor (neighbor p d) e)
through_seen p d e =
    let n = neighbor p d in
    let q = neighbor n e in
    among_right (within_steps 1 p) (around (within_steps 1) p all_dirs) q
    (among_around (within_steps 1) p q all_dirs d (one_of_six d)
    (among_right (within_steps 0 n) (around (within_steps 0) n all_dirs) q
    (among_around (within_steps 0) n q all_dirs e (one_of_six e) (inl refl))))

-- so is what feeds dust there
feeder_seen : (w : Pos → Cell) (s p : Pos) → Feeds w s p → IsAmong (sees p) s
feeder_seen w s p feeds = elim feeds.1 [
  | inl to ↦ subst (IsAmong (sees p)) (back_to s p to.dir to.there) (beside_seen p (opposite to.dir))
  | inr by ↦
      let c = neighbor s by.dir in
      subst (IsAmong (sees p)) (there_and_back s by.dir)
      (subst (λ b. IsAmong (sees p) (neighbor b (opposite by.dir))) (back_to c p by.onward by.there)
      (through_seen p (opposite by.onward) (opposite by.dir)))
]

-- what feeds dust on one map feeds it on another where it gives and drives there, too
module _ (w u : Pos → Cell) (s p : Pos) (dust : is_dust (w p) ≡ is_dust (u p))
    (conductor : (c : Pos) (d : Dir) → neighbor c d ≡ p → conducts (w c) ≡ conducts (u c))
    (given : (d : Dir) → neighbor s d ≡ p → gives (w s) d ≡ true → gives (u s) d ≡ true)
    (driven : (d e : Dir) → neighbor (neighbor s d) e ≡ p → drives (w s) d ≡ true → drives (u s) d ≡ true) where
  carried : Feeds w s p → Feeds u s p
  carried feeds = (
    sym dust ∙ feeds.0,
    elim feeds.1 [
      | inl to ↦ inl (record { dir = to.dir; given = given to.dir to.there to.given; there = to.there })
      | inr by ↦ inr (record {
        dir = by.dir;
        onward = by.onward;
        driven = driven by.dir by.onward by.there by.driven;
        conducted = sym (conductor (neighbor s by.dir) by.onward by.there) ∙ by.conducted;
        there = by.there;
      })
    ],
  )

-- what is the same within two steps is so beside what stands beside p, and at it
module _ {X : Type 0} (f g : Pos → X) (p : Pos) (near : Near 2 p f g) where
  beside_same : (s : Pos) (d : Dir) → neighbor s d ≡ p → f s ≡ g s
  beside_same s d there =
      subst (λ q. f q ≡ g q) (back_to s p d there) (here f g 1 (neighbor p (opposite d)) (near.1 (opposite d)))

  through_same : (s : Pos) (d e : Dir) → neighbor (neighbor s d) e ≡ p → f s ≡ g s
  through_same s d e there =
      subst (λ q. f q ≡ g q) (there_and_back s d)
      (subst (λ c. f (neighbor c (opposite d)) ≡ g (neighbor c (opposite d))) (back_to (neighbor s d) p e there)
      ((near.1 (opposite e)).1 (opposite d)))

module _ (w v : Pos → Cell) (p : Pos) (near : Builds 2 p w v) where
  abbrev alike : (s : Pos) (d : Dir) → neighbor s d ≡ p → built (w s) ≡ built (v s)
  alike = beside_same (λ q. built (w q)) (λ q. built (v q)) p near

  abbrev alike_through : (s : Pos) (d e : Dir) → neighbor (neighbor s d) e ≡ p → built (w s) ≡ built (v s)
  alike_through = through_same (λ q. built (w q)) (λ q. built (v q)) p near

  own_alike : built (w p) ≡ built (v p)
  own_alike = here (λ q. built (w q)) (λ q. built (v q)) 2 p near

  conductor_alike : (c : Pos) (d : Dir) → neighbor c d ≡ p → conducts (w c) ≡ conducts (v c)
  conductor_alike c d there = built_conductor (w c) (v c) (alike c d there)

  -- so what shows the same feeds it on both
  feeds_too : (s : Pos) → shown (w s) ≡ shown (v s) → Feeds w s p → Feeds v s p
  feeds_too s same =
      carried w v s p (built_dust (w p) (v p) own_alike) conductor_alike
      (λ d there is. sym (same_giver (w s) (v s) d same) ∙ is) (λ d e there is. sym (same_driver (w s) (v s) d same) ∙ is)

  -- whatever does so would, were it on
  feeds_on : (s : Pos) → Feeds w s p → Feeds (all_on v) s p
  feeds_on s =
      carried w (all_on v) s p (built_dust (w p) (v p) own_alike ∙ sym (on_dust (v p)))
      (λ c d there. conductor_alike c d there ∙ sym (on_conductor (v c)))
      (λ d there is. sym (giver_on (w s) (v s) d (alike s d there)) ∙ on_gives (w s) d is)
      (λ d e there is. sym (driver_on (w s) (v s) d (alike_through s d e there)) ∙ on_drives (w s) d is)

  -- and what would on one would on the other
  on_feeds : (s : Pos) → Feeds (all_on w) s p → Feeds (all_on v) s p
  on_feeds s =
      carried (all_on w) (all_on v) s p (on_dust (w p) ∙ built_dust (w p) (v p) own_alike ∙ sym (on_dust (v p)))
      (λ c d there. on_conductor (w c) ∙ conductor_alike c d there ∙ sym (on_conductor (v c)))
      (λ d there is. sym (giver_on (w s) (v s) d (alike s d there)) ∙ is)
      (λ d e there is. sym (driver_on (w s) (v s) d (alike_through s d e there)) ∙ is)

  fed_by_too : (turned : List Pos) → has (fed_by (all_on w) turned) p ≡ true → has (fed_by (all_on v) turned) p ≡ true
  fed_by_too turned is =
      let found = all_at (fed_from (all_on w)) (fed_by (all_on w)) refl (λ _ _. refl) turned p is in
      all_from (fed_from (all_on v)) (fed_by (all_on v)) refl (λ _ _. refl) turned p found.0 found.1
      (from_feeds (all_on v) found.0 p (on_feeds found.0 (feeds_at (all_on w) found.0 p found.2)))

  module _ (turned : List Pos)
      (shows : (q : Pos) → IsAmong (sees p) q → has turned q ≡ false → shown (w q) ≡ shown (v q))
      (unfed : has (fed_by (all_on v) turned) p ≡ false) where
    fed_too : is_fed w p ≡ true → is_fed v p ≡ true
    fed_too fed =
        let found = fed_feeds w p fed in
        let s = found.0 in
        elim (cases_Bool (has turned s)) [
          | inl is ↦
              absurd (false≢true (sym unfed
              ∙ all_from (fed_from (all_on v)) (fed_by (all_on v)) refl (λ _ _. refl) turned p s (has_at turned s is)
              (from_feeds (all_on v) s p (feeds_on s found.1))))
          | inr isnt ↦ feeds_fed v s p (feeds_too s (shows s (feeder_seen w s p found.1) isnt) found.1)
        ]

-- what would feed dust among these parts is the same where cells that it sees are built alike
pub turned_feed_same : (w v : Pos → Cell) (turned : List Pos) (p : Pos) → BuiltAlike (sees p) w v
    → has (fed_by (all_on w) turned) p ≡ has (fed_by (all_on v) turned) p
turned_feed_same w v turned p cells =
    same_from_decides {P = has (fed_by (all_on v) turned) p ≡ true} (has (fed_by (all_on w) turned) p) (has (fed_by (all_on v) turned) p) (
      fed_by_too w v p (builds_from w v 2 p cells) turned,
      fed_by_too v w p (builds_from v w 2 p (λ q among. sym (cells q among))) turned,
    )
    (λ h. h, λ h. h)

pub feeding_sees_turned : FeedingSeesTurned
feeding_sees_turned w v turned p cells shows unfed =
    same_from_decides {P = is_fed v p ≡ true} (is_fed w p) (is_fed v p) (
      fed_too w v p (builds_from w v 2 p cells) turned shows unfed,
      fed_too v w p back turned (λ q among isnt. sym (shows q among isnt)) (turned_feed_same w v turned p cells ∙ unfed),
    )
    (λ h. h, λ h. h)
  where
    back : Builds 2 p v w
    back = builds_from v w 2 p (λ q among. sym (cells q among))
