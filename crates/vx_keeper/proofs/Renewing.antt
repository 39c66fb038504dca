-- Sectors in which something was recorded, one after another.
use Rattle.std.proofs.Common.{◌≡◌, ℕ, ◌+◌, ◌<◌, ◌≤◌, List, [], ◌∷◌, ◌++◌, Vec, Global, length, map, set, get_or, slice_get, drop, take, replicate, Some, zero-add, refl, sym, ap, ◌∙◌, subst, arith}
use Rattle.std.specs.List.{All, enumerate_from}
use Rattle.std.proofs.Math.Seq.{map-set}
use Rattle.std.proofs.lemmas.List.{drop_more, get_or-take, get_or_default, length-take-le, nil_from_length, set-get_or, take_more}
use Rattle.std.proofs.lemmas.List.FromFn.{get_or-enumerate_from, length-enumerate_from}
use Rattle.std.proofs.lemmas.List.Quantifiers.{all_pairs_push}
use Rattle.vx_cells.specs.SectorCells.{SectorCells}
use Rattle.vx_policy.specs.declared.version.Version.{Version}
use Rattle.vx_sector.specs.SectorData.{EntryData, FreshData, SectorData, entry_of}
use Rattle.vx_sector.specs.declared.entry.Entry.{Entry}
use Rattle.vx_sector.specs.Windows.{renewed}
use Rattle.vx_windows.specs.Sectors.{AreOf, IsOf, entries_in, entries_of, renewed_each}
use Rattle.vx_windows.proofs.Going.{as_many, as_many_fresh, is_of, renewed_more, still_before}
use Rattle.vx_record.specs.Kept.{AreInOrder, windows_kept}
use Rattle.vx_record.specs.declared.kept_window.KeptWindow.{KeptWindow}
use Rattle.vx_record.proofs.Keeping.{empty_at}
use Rattle.vx_keeper.specs.Busy.{AreAscending, AreKeptOf, AreNextOf, with_each}

-- what is told of the next of them is put in
pub next_put : {X Y : Type 0} (g : X → Y) (f : SectorData → Y) (xs ys : List X) (n : ℕ) (x : X) (busy : List SectorData) (i : ℕ)
    (s d : SectorData) → i < length busy → s ≡ get_or busy i d → n ≡ s.base.sector → g x ≡ f s → ys ≡ set xs n x
    → with_each f (map g ys) (drop (i + 1) busy) ≡ with_each f (map g xs) (drop i busy)
next_put g f xs ys n x busy i s d within is number told put =
    ap (λ zs. with_each f (map g zs) (drop (i + 1) busy)) put
    ∙ ap (λ zs. with_each f zs (drop (i + 1) busy)) (map-set g xs n x)
    ∙ (λ j. with_each f (set (map g xs) (number j) (told j)) (drop (i + 1) busy))
    ∙ ap (λ t. with_each f (map g xs) (t ∷ drop (i + 1) busy)) is
    ∙ sym (ap (with_each f (map g xs)) (drop_more busy i d within))

-- the last of them is put in last
last_put : {X : Type 0} (f : SectorData → X) (xs : List X) (busy : List SectorData) (s : SectorData)
    → with_each f xs (busy ++ s ∷ []) ≡ set (with_each f xs busy) s.base.sector (f s)
last_put f xs [] s = refl
last_put f xs (t ∷ busy) s = last_put f (set xs t.base.sector (f t)) busy s

-- one more is of a higher number than those so far
pub ascend_more : (ss : List SectorData) (i least : ℕ) (s : SectorData) → i < length ss → s ≡ get_or ss i s
    → AreAscending (take i ss) → All (λ (t : SectorData). t.base.sector < least) (take i ss) → least ≤ s.base.sector
    → AreAscending (take (i + 1) ss)
ascend_more ss i least s within is order below above =
    subst AreAscending (ap (λ t. take i ss ++ t ∷ []) is ∙ sym (take_more ss i s within))
    (all_pairs_push (λ (t u : SectorData). t.base.sector < u.base.sector) (take i ss) s order
    (λ k d near. omega (arith, below k d near, above)))

-- those before it are of lower numbers
pub lower_before : (ss : List SectorData) (i : ℕ) (s d : SectorData) → AreAscending ss → i < length ss → s ≡ get_or ss i d
    → All (λ (t : SectorData). t.base.sector < s.base.sector) (take i ss)
lower_before ss i s d order within is k e before =
    let early : k < i = omega (arith, before, length-take-le i ss (omega (arith, within))) in
    subst (λ (t : SectorData). t.base.sector < s.base.sector) (sym (get_or-take i ss k e early))
    (subst (λ (t : SectorData). (get_or ss k e).base.sector < t.base.sector) (get_or_default ss i e d within ∙ sym is)
    (order k i e early within))

-- of no sectors nothing is kept
pub nothing_kept : (kept : List KeptWindow) → kept ≡ [] → AreKeptOf [] kept
nothing_kept kept none =
    subst (AreKeptOf []) (sym none)
    (λ count below. ((λ i j d before within. absurd (omega (arith, within)), λ k d within. absurd (omega (arith, within))), refl))

-- a window without entries is not kept, which comes to the same
pub none_behind : (count sector : ℕ) (kept : List KeptWindow) (entries : Vec Entry Global) → AreInOrder sector kept
    → length entries.items ≡ 0 → windows_kept count kept ≡ set (windows_kept count kept) sector (entries_in entries)
none_behind count sector kept entries order none =
    let empty : get_or (windows_kept count kept) sector [] ≡ [] =
    empty_at count kept sector (λ k d within same. absurd (omega (arith, order.1 k d within, same))) in
    sym (ap (set (windows_kept count kept) sector) (ap (map entry_of) (nil_from_length entries.items none) ∙ sym empty)
    ∙ set-get_or (windows_kept count kept) sector [])

-- what is kept of one more
pub kept_next : (ss : List SectorData) (i number : ℕ) (before now : List KeptWindow) (entries : List EntryData) (s d : SectorData)
    → i < length ss → s ≡ get_or ss i d → number ≡ s.base.sector → entries ≡ s.entries → AreKeptOf (take i ss) before
    → AreInOrder (number + 1) now → ((count : ℕ) → windows_kept count now ≡ set (windows_kept count before) number entries)
    → AreKeptOf (take (i + 1) ss) now
kept_next ss i number before now entries s d within is numbered told so_far order windows count below =
    let is_below = λ (t : SectorData). t.base.sector < count in
    let many : length (take i ss) ≡ i = length-take-le i ss (omega (arith, within)) in
    let many_more : length (take (i + 1) ss) ≡ i + 1 = length-take-le (i + 1) ss (omega (arith, within)) in
    let here : s.base.sector < count =
    subst is_below (get_or-take (i + 1) ss i d (omega arith) ∙ sym is) (below i d (omega (arith, many_more))) in
    let others : All is_below (take i ss) =
    λ k e near. let early : k < i = omega (arith, near, many) in
    subst is_below (get_or-take (i + 1) ss k e (omega (arith, early)) ∙ sym (get_or-take i ss k e early))
    (below k e (omega (arith, early, many_more))) in
    let none = replicate {A = List EntryData} count [] in (
      (order.0, λ k e near. omega (arith, order.1 k e near, numbered, here)),
      windows count
          ∙ ap (λ ws. set ws number entries) (so_far count others).1
          ∙ (λ j. set (with_each entries_of none (take i ss)) (numbered j) (told j))
          ∙ sym (last_put entries_of none (take i ss) s)
          ∙ ap (λ t. with_each entries_of none (take i ss ++ t ∷ [])) is
          ∙ ap (with_each entries_of none) (sym (take_more ss i d within)),
    )

one_given : (cells : List SectorCells) (version : Version) (busy : List SectorData) (all : List FreshData) (s : SectorData) (fresh : FreshData)
    → AreNextOf cells version busy all → slice_get cells s.base.sector ≡ Some fresh.cells → fresh.version ≡ version
    → AreNextOf cells version (busy ++ s ∷ []) (all ++ fresh ∷ [])
one_given cells version [] [] s fresh are here judged = ((here, judged), tt)
one_given cells version [] (f ∷ all) s fresh are here judged = absurd are
one_given cells version (t ∷ busy) [] s fresh are here judged = absurd are
one_given cells version (t ∷ busy) (f ∷ all) s fresh are here judged =
    (are.0, one_given cells version busy all s fresh are.1 here judged)

-- the next of them is given what its window begins with
pub next_given : (cells : List SectorCells) (version : Version) (busy : List SectorData) (i : ℕ) (all : List FreshData) (s : SectorData)
    (fresh : FreshData) → i < length busy → s ≡ get_or busy i s → AreNextOf cells version (take i busy) all
    → slice_get cells s.base.sector ≡ Some fresh.cells → fresh.version ≡ version
    → AreNextOf cells version (take (i + 1) busy) (all ++ fresh ∷ [])
next_given cells version busy i all s fresh within is are here judged =
    subst (λ ss. AreNextOf cells version ss (all ++ fresh ∷ []))
    (ap (λ t. take i busy ++ t ∷ []) is ∙ sym (take_more busy i s within))
    (one_given cells version (take i busy) all s fresh are here judged)

-- what a walk over what they are given, with its places, has at its turn
pub at_turn : (fs : List FreshData) (k at : ℕ) (f : FreshData)
    → (k < length (enumerate_from 0 fs)) × ((at, f) ≡ get_or (enumerate_from 0 fs) k (at, f))
    → (k < length fs) × (at ≡ k) × (f ≡ get_or fs k f)
at_turn fs k at f turn =
    let within : k < length fs = omega (arith, turn.0, length-enumerate_from 0 fs) in
    let here = turn.1 ∙ get_or-enumerate_from 0 fs k (at, f) within in (
      within,
      ap (λ (p : ℕ × FreshData). p.0) here ∙ zero-add k,
      ap (λ (p : ℕ × FreshData). p.1) here,
    )

-- the sectors, of which the first k have begun their next windows, and what the next one is given
module _ (ss now : List SectorData) (fs : List FreshData) (k at : ℕ) (f : FreshData) (are : AreOf ss fs)
    (number : at ≡ k) (within : k < length fs) (next : f ≡ get_or fs k f) (so_far : now ≡ renewed_each ss (take k fs)) where
  so_many : length (take k fs) ≡ k
  so_many = length-take-le k fs (omega (arith, within))

  behind : at ≡ length (take k fs)
  behind = number ∙ sym so_many

  pub next_there : k < length ss
  next_there = omega (arith, within, as_many_fresh ss fs are)

  pub next_within : at < length now
  next_within = omega (arith, number, next_there, ap length so_far, as_many ss (take k fs))

  -- it is as it was
  pub next_before : (d : SectorData) → get_or now at d ≡ get_or ss k d
  next_before d = still_before ss now (take k fs) at d behind so_far ∙ ap (λ n. get_or ss n d) so_many

  pub next_is_of : (d : SectorData) → IsOf (get_or now at d) f
  next_is_of d =
      subst (λ s. IsOf s f) (sym (next_before d))
      (subst (IsOf (get_or ss k d)) (sym next) (is_of k ss fs d f are within))

  pub next_renewed : (d : SectorData) → set now at (renewed (get_or now at d) f) ≡ renewed_each ss (take (k + 1) fs)
  next_renewed d =
      renewed_more ss now (take k fs) f at d behind so_far
      ∙ ap (λ g. renewed_each ss (take k fs ++ g ∷ [])) next
      ∙ ap (renewed_each ss) (sym (take_more fs k f within))
