-- A block of calls, matched with what comes next in each sector's window.
use Rattle.std.proofs.Common.{◌≡◌, ℕ, zero, suc, ◌+◌, ◌<◌, ◌≤◌, Bool, true, false, List, [], ◌∷◌, ◌++◌, length, map, get_or, cond, Some, refl, sym, ap, ◌∙◌, subst, inl, inr, arith, append_assoc}
use Rattle.std.specs.List.{AllByRecursion, filter}
use Rattle.std.proofs.lemmas.Bool.{cases_Bool, cases_lt, eqb-true}
use Rattle.std.proofs.lemmas.List.{map-append, length-map, get_or_past}
use Rattle.std.proofs.lemmas.List.Elements.{filter-append, recursion_from_All, All-from_recursion}
use Rattle.std.proofs.lemmas.Option.{slice_get_within}
use Rattle.vx_geom.specs.Sizes.{sector_count}
use Rattle.vx_cells.specs.SectorCells.{SectorCells}
use Rattle.vx_region.specs.Regions.{Regions}
use Rattle.vx_sector.specs.SectorData.{EntryData}
use Rattle.vx_windows.specs.Sectors.{cells_of}
use Rattle.vx_record.specs.Calls.{call_in}
use Rattle.vx_record.specs.Chronicles.{AreWindows, AreSeated, IsSeatOf}
use Rattle.vx_record.specs.Said.{is_by, calls_of}
use Rattle.vx_record.proofs.Fronts.{calls_joined}
use Rattle.vx_play.specs.Plays.{PlayData, map_of}
use Rattle.vx_audit.specs.Counts.{is_spot}
use Rattle.vx_audit.specs.Deeds.{DeedData, Together, is_from}
use Rattle.vx_audit.specs.Marks.{calls_among, said_by}
use Rattle.vx_audit.specs.Walks.{WalkData, AreParts, FollowsBlock, version_in}
use Rattle.vx_audit.proofs.Filtered.{and_first, empty_of, filter_mapped, all_back, all_front}
use Rattle.vx_audit.proofs.Matching.{Rest, later, same_seat, same_entry}
use Rattle.vx_audit.proofs.Standing.{Whole, Stands, first_windows}
use Rattle.vx_audit.proofs.Taken.{TakesBlock, IsToldOut}
use Rattle.vx_audit.proofs.Tracing.{spot_of}

-- lists of two parts, of which the first are as long
split_same : {X : Type 0} (xs ys vs ws : List X) → length xs ≡ length vs → xs ++ ys ≡ vs ++ ws → (xs ≡ vs) × (ys ≡ ws)
split_same [] ys [] ws long same = (refl, same)
split_same [] ys (v ∷ vs) ws long same = absurd (omega (arith, long))
split_same (x ∷ xs) ys [] ws long same = absurd (omega (arith, long))
split_same (x ∷ xs) ys (v ∷ vs) ws long same =
    let first : x ≡ v = cc in
    let back : xs ++ ys ≡ vs ++ ws = cc in
    let rest = split_same xs ys vs ws (omega (arith, long)) back in
    (λ i. first i ∷ rest.0 i, rest.1)

-- of seats of the world, calls of one seat are told by commands and answers
abbrev pub IsBy : List (List ℕ) → ℕ → EntryData → Type 0
IsBy names seat e = IsSeatOf names e.seat × (e.seat.number ≡ seat)

same_entries : (names : List (List ℕ)) (seat : ℕ) (xs ys : List EntryData) → AllByRecursion (IsBy names seat) xs → AllByRecursion (IsBy names seat) ys
    → map call_in xs ≡ map call_in ys → xs ≡ ys
same_entries names seat [] [] all_xs all_ys same = refl
same_entries names seat [] (y ∷ ys) all_xs all_ys same = cc
same_entries names seat (x ∷ xs) [] all_xs all_ys same = cc
same_entries names seat (x ∷ xs) (y ∷ ys) all_xs all_ys same =
    let call : call_in x ≡ call_in y = cc in
    let back : map call_in xs ≡ map call_in ys = cc in
    let one = same_entry x y (same_seat names x.seat y.seat all_xs.0.0 all_ys.0.0 (all_xs.0.1 ∙ sym all_ys.0.1)) call in
    let others = same_entries names seat xs ys all_xs.1 all_ys.1 back in
    λ i. one i ∷ others i

filtered_by : (names : List (List ℕ)) (seat : ℕ) (q : EntryData → Bool) → ((e : EntryData) → q e ≡ true → e.seat.number ≡ seat) → (xs : List EntryData)
    → AllByRecursion (λ (e : EntryData). IsSeatOf names e.seat) xs → AllByRecursion (IsBy names seat) (filter q xs)
filtered_by names seat q tells [] all = tt
filtered_by names seat q tells (x ∷ xs) all = by (filtered_by names seat q tells xs all.1) (q x) refl
  where
    by : AllByRecursion (IsBy names seat) (filter q xs) → (b : Bool) → q x ≡ b → AllByRecursion (IsBy names seat) (cond (q x) (x ∷ filter q xs) (filter q xs))
    by rest true is = subst (λ b. AllByRecursion (IsBy names seat) (cond b (x ∷ filter q xs) (filter q xs))) (sym is) ((all.0, tells x is), rest)
    by rest false is = subst (λ b. AllByRecursion (IsBy names seat) (cond b (x ∷ filter q xs) (filter q xs))) (sym is) rest

fronts_seated : (names : List (List ℕ)) (policy : Regions) (cs : List SectorCells) (lefts fronts rests : List (List EntryData)) (k : ℕ)
    → AreWindows names policy cs lefts → AreParts lefts fronts rests → AllByRecursion (λ (e : EntryData). IsSeatOf names e.seat) (get_or fronts k [])
fronts_seated names policy [] [] [] [] k are parts = tt
fronts_seated names policy [] [] [] (rest ∷ rests) k are parts = absurd parts
fronts_seated names policy [] [] (front ∷ fronts) rests k are parts = absurd parts
fronts_seated names policy [] (left ∷ lefts) fronts rests k are parts = absurd are
fronts_seated names policy (c ∷ cs) [] fronts rests k are parts = absurd are
fronts_seated names policy (c ∷ cs) (left ∷ lefts) [] rests k are parts = absurd parts
fronts_seated names policy (c ∷ cs) (left ∷ lefts) (front ∷ fronts) [] k are parts = absurd parts
fronts_seated names policy (c ∷ cs) (left ∷ lefts) (front ∷ fronts) (rest ∷ rests) zero are parts =
    all_front (λ (e : EntryData). IsSeatOf names e.seat) front rest
    (recursion_from_All (λ (e : EntryData). IsSeatOf names e.seat) (front ++ rest) (subst (AreSeated names) parts.0 are.1))
fronts_seated names policy (c ∷ cs) (left ∷ lefts) (front ∷ fronts) (rest ∷ rests) (suc k) are parts =
    fronts_seated names policy cs lefts fronts rests k are.2 parts.1

parts_at : (lefts fronts rests : List (List EntryData)) (k : ℕ) → AreParts lefts fronts rests → get_or lefts k [] ≡ get_or fronts k [] ++ get_or rests k []
parts_at [] [] [] k parts = refl
parts_at [] [] (rest ∷ rests) k parts = absurd parts
parts_at [] (front ∷ fronts) rests k parts = absurd parts
parts_at (left ∷ lefts) [] rests k parts = absurd parts
parts_at (left ∷ lefts) (front ∷ fronts) [] k parts = absurd parts
parts_at (left ∷ lefts) (front ∷ fronts) (rest ∷ rests) zero parts = parts.0
parts_at (left ∷ lefts) (front ∷ fronts) (rest ∷ rests) (suc k) parts = parts_at lefts fronts rests k parts.1

as_many : (names : List (List ℕ)) (policy : Regions) (cs : List SectorCells) (lefts fronts rests : List (List EntryData))
    → AreWindows names policy cs lefts → AreParts lefts fronts rests → length fronts ≡ length cs
as_many names policy [] [] [] [] are parts = refl
as_many names policy [] [] [] (rest ∷ rests) are parts = absurd parts
as_many names policy [] [] (front ∷ fronts) rests are parts = absurd parts
as_many names policy [] (left ∷ lefts) fronts rests are parts = absurd are
as_many names policy (c ∷ cs) [] fronts rests are parts = absurd are
as_many names policy (c ∷ cs) (left ∷ lefts) [] rests are parts = absurd parts
as_many names policy (c ∷ cs) (left ∷ lefts) (front ∷ fronts) [] are parts = absurd parts
as_many names policy (c ∷ cs) (left ∷ lefts) (front ∷ fronts) (rest ∷ rests) are parts = ap suc (as_many names policy cs lefts fronts rests are.2 parts.1)

-- no entry is of a seat past the last
none_of : (names : List (List ℕ)) (seat : ℕ) (xs : List EntryData) → length names ≤ seat → AllByRecursion (λ (e : EntryData). IsSeatOf names e.seat) xs
    → filter (is_by seat) xs ≡ []
none_of names seat [] past all = refl
none_of names seat (x ∷ xs) past all = elim (cases_Bool (is_by seat x)) [
  | inl by ↦ absurd (omega (arith, past, eqb-true x.seat.number seat by, slice_get_within names x.seat.number x.seat.name all.0))
  | inr other ↦ ap (λ b. cond b (x ∷ filter (is_by seat) xs) (filter (is_by seat) xs)) other ∙ none_of names seat xs past all.1
]

-- a block
module _ (g : Whole) (w : WalkData) (calls : List EntryData) (deeds : List DeedData) (rest_is : Rest g w (Together calls ∷ deeds))
    (fronts rests : List (List EntryData)) (parts : AreParts w.lefts fronts rests)
    (counts : (seat k : ℕ) → length (filter (is_by seat) (get_or fronts k [])) ≡ length (filter (is_spot seat k) (map (spot_of g.sizes) calls)))
    (sit : (k : ℕ) → AllByRecursion (λ (e : EntryData). IsSeatOf g.names e.seat) (get_or fronts k [])) (long : length fronts ≡ sector_count g.sizes) where
  split : (seat k : ℕ) → seat < length g.names → k < sector_count g.sizes
      → (map call_in (filter (is_from g.sizes seat (Some k)) calls) ≡ calls_of seat (get_or fronts k []))
      × (said_by g.sizes seat k deeds ≡ calls_of seat (get_or rests k []) ++ later seat k w.ticks w.pending)
  split seat k few within =
      let mine = filter (is_from g.sizes seat (Some k)) calls in
      let count : length (map call_in mine) ≡ length (calls_of seat (get_or fronts k [])) =
      omega (arith, length-map mine call_in, length-map (filter (is_by seat) (get_or fronts k [])) call_in, counts seat k, filter_mapped (is_spot seat k) (spot_of g.sizes) calls) in
      split_same (map call_in mine) (said_by g.sizes seat k deeds) (calls_of seat (get_or fronts k [])) (calls_of seat (get_or rests k []) ++ later seat k w.ticks w.pending) count
      (sym (map-append call_in mine (filter (is_from g.sizes seat (Some k)) (calls_among deeds)))
      ∙ ap (map call_in) (sym (filter-append (is_from g.sizes seat (Some k)) calls (calls_among deeds)))
      ∙ rest_is.said seat k few within
      ∙ ap (λ es. calls_of seat es ++ later seat k w.ticks w.pending) (parts_at w.lefts fronts rests k parts)
      ∙ ap (λ cs. cs ++ later seat k w.ticks w.pending) (calls_joined seat (get_or fronts k []) (get_or rests k []))
      ∙ append_assoc (calls_of seat (get_or fronts k [])) (calls_of seat (get_or rests k [])) (later seat k w.ticks w.pending))

  here_in_order : (seat k : ℕ) → seat < length g.names → k < sector_count g.sizes → filter (is_by seat) (get_or fronts k []) ≡ filter (is_from g.sizes seat (Some k)) calls
  here_in_order seat k few within =
      sym (same_entries g.names seat (filter (is_from g.sizes seat (Some k)) calls) (filter (is_by seat) (get_or fronts k []))
      (filtered_by g.names seat (is_from g.sizes seat (Some k)) (λ e is. eqb-true e.seat.number seat (and_first (is_by seat e) _ is)) calls
      (all_front (λ (e : EntryData). IsSeatOf g.names e.seat) calls (calls_among deeds) rest_is.seated))
      (filtered_by g.names seat (is_by seat) (λ e is. eqb-true e.seat.number seat is) (get_or fronts k []) (sit k))
      (split seat k few within).0)

  -- where there is no entry, there is no call
  none_in_order : (seat k : ℕ) → filter (is_by seat) (get_or fronts k []) ≡ [] → filter (is_by seat) (get_or fronts k []) ≡ filter (is_from g.sizes seat (Some k)) calls
  none_in_order seat k none =
      none ∙ sym (empty_of (filter (is_from g.sizes seat (Some k)) calls)
      (sym (filter_mapped (is_spot seat k) (spot_of g.sizes) calls) ∙ sym (counts seat k) ∙ ap length none))

  pub in_order : (seat k : ℕ) → filter (is_by seat) (get_or fronts k []) ≡ filter (is_from g.sizes seat (Some k)) calls
  in_order seat k = elim (cases_lt seat (length g.names)) [
    | inr past ↦ none_in_order seat k (none_of g.names seat (get_or fronts k []) past (sit k))
    | inl few ↦ elim (cases_lt k (sector_count g.sizes)) [
      | inr past ↦ none_in_order seat k (ap (filter (is_by seat)) (get_or_past fronts k [] (omega (arith, long, past))))
      | inl within ↦ here_in_order seat k few within
    ]
  ]

  pub rest_after_block : Rest g (record w { lefts = rests }) deeds
  rest_after_block = record {
    said = λ seat k few within. (split seat k few within).1;
    seated = all_back (λ (e : EntryData). IsSeatOf g.names e.seat) calls (calls_among deeds) rest_is.seated;
    outside = all_back (IsToldOut g.sizes) calls (calls_among deeds) rest_is.outside;
    fates = rest_is.fates;
  }

pub block_follows : (g : Whole) (play : PlayData) (w : WalkData) (calls : List EntryData) (deeds : List DeedData) (next : WalkData) → Stands g play w
    → Rest g w (Together calls ∷ deeds) → FollowsBlock w (map (spot_of g.sizes) calls) next
    → TakesBlock g.sizes w calls next × Rest g next deeds
block_follows g play w calls deeds next st rest_is is =
    let are = first_windows g.names (map_of play) w.ticks (play.ticks + 1) w.lefts w.pending w.last st.ticks st.pending in
    let sit : (k : ℕ) → AllByRecursion (λ (e : EntryData). IsSeatOf g.names e.seat) (get_or is.fronts k []) =
    λ k. fronts_seated g.names (version_in w.ticks w.last).policy (map cells_of play.sectors) w.lefts is.fronts is.rests k are is.parts in
    let long : length is.fronts ≡ sector_count g.sizes =
    as_many g.names (version_in w.ticks w.last).policy (map cells_of play.sectors) w.lefts is.fronts is.rests are is.parts ∙ st.world.all ∙ ap sector_count st.sizes in (
      record {
        fronts = is.fronts;
        rests = is.rests;
        parts = is.parts;
        order = in_order g w calls deeds rest_is is.fronts is.rests is.parts is.counts sit long;
        outside = All-from_recursion (IsToldOut g.sizes) calls
            (all_front (IsToldOut g.sizes) calls (calls_among deeds) rest_is.outside);
        after = is.after;
      },
      subst (λ v. Rest g v deeds) (sym is.after) (rest_after_block g w calls deeds rest_is is.fronts is.rests is.parts is.counts sit long),
    )
