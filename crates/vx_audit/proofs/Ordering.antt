-- The calls of a block, taken sector by sector.
use Rattle.std.proofs.Common.{◌≡◌, ℕ, zero, suc, ◌+◌, ◌<◌, ◌≤◌, Bool, true, false, ◌&&◌, List, [], ◌∷◌, ◌++◌, length, map, set, slice_get, get_or, cond, Option, Some, None, Err, refl, sym, ap, ◌∙◌, subst, arith, append_assoc, append-nil, length-append}
use Rattle.std.specs.List.{All, AllByRecursion, filter}
use Rattle.std.proofs.lemmas.Bool.{eq-eqb}
use Rattle.std.proofs.lemmas.List.{set-set, set-get_or, set_at}
use Rattle.std.proofs.lemmas.List.Elements.{filter-append, filter_passes, All-filter, recursion_from_All}
use Rattle.std.proofs.lemmas.Option.{get_or_from_slice_get}
use Rattle.vx_geom.specs.Sizes.{Sizes, sector_of}
use Rattle.vx_cells.proofs.Indices.{sector_at}
use Rattle.vx_cells.proofs.MapLemmas.{placed_at}
use Rattle.vx_sector.specs.Commands.{place_of}
use Rattle.vx_sector.specs.SectorData.{EntryData}
use Rattle.vx_sector.specs.Windows.{most_entries}
use Rattle.vx_sector.specs.declared.refusal.Refusal.TheVariants.{OutOfWorld}
use Rattle.vx_windows.specs.Sectors.{cells_of}
use Rattle.vx_record.specs.Said.{is_by}
use Rattle.vx_play.specs.Plays.{PlayData, map_of}
use Rattle.vx_play.specs.Games.{Command, after_step}
use Rattle.vx_audit.specs.Deeds.{AnswersAll, KeepsOrder, MayAnswer, is_from, same_number}
use Rattle.vx_audit.specs.Walks.{WalkData, AreParts, version_in}
use Rattle.vx_audit.proofs.Filtered.{and_no, and_yes, unlike}
use Rattle.vx_audit.proofs.Standing.{Whole, Stands, first_windows}
use Rattle.vx_audit.proofs.Stepping.{next_called, outside_told}
use Rattle.vx_audit.proofs.Taken.{TakesBlock, IsToldOut}
use Rattle.vx_audit.proofs.Taking.{sector_there}

found_again : {X : Type 0} (xs : List X) (k : ℕ) (x y : X) → slice_get xs k ≡ Some x → slice_get (set xs k y) k ≡ Some y
found_again [] k x y found = cc
found_again (z ∷ xs) zero x y found = refl
found_again (z ∷ xs) (suc k) x y found = found_again xs k x y found

set_found : {X : Type 0} (xs : List X) (k : ℕ) (x : X) → slice_get xs k ≡ Some x → set xs k x ≡ xs
set_found xs k x found = ap (set xs k) (sym (get_or_from_slice_get xs k x x found)) ∙ set-get_or xs k x

at_seam : {X : Type 0} (xs : List X) (y : X) (ys : List X) → slice_get (xs ++ y ∷ ys) (length xs) ≡ Some y
at_seam [] y ys = refl
at_seam (x ∷ xs) y ys = at_seam xs y ys

-- lists one after another
abbrev pub joined : List (List EntryData) → List EntryData
joined [] = []
joined (front ∷ fronts) = front ++ joined fronts

pub answers_joined : (play mid last : PlayData) (xs ys : List EntryData) → AnswersAll play xs mid → AnswersAll mid ys last → AnswersAll play (xs ++ ys) last
answers_joined play mid last [] ys first then = subst (λ p. AnswersAll p ys last) first then
answers_joined play mid last (x ∷ xs) ys first then = (first.0, first.1, answers_joined first.0 mid last xs ys first.2 then)

-- each of these calls is in that sector
abbrev pub AreIn : Sizes → Option ℕ → List EntryData → Type 0
AreIn sizes at calls = AllByRecursion (λ (call : EntryData). sector_of sizes (place_of call.cmd) ≡ at) calls

-- of the sectors from number k on, each in its own
abbrev pub AreInEach : Sizes → ℕ → List (List EntryData) → Type 0
AreInEach sizes k [] = Unit {0}
AreInEach sizes k (front ∷ fronts) = AreIn sizes (Some k) front × AreInEach sizes (suc k) fronts

module _ (g : Whole) (fits : g.calls ≤ most_entries) where
  -- the next entry of a sector's window is a call in that sector
  next_in : (play : PlayData) (w : WalkData) (k : ℕ) (e : EntryData) (rest : List EntryData) → Stands g play w
      → slice_get w.lefts k ≡ Some (e ∷ rest) → sector_of g.sizes (place_of e.cmd) ≡ Some k
  next_in play w k e rest st found =
      let are = first_windows g.names (map_of play) w.ticks (play.ticks + 1) w.lefts w.pending w.last st.ticks st.pending in
      let here = sector_there g.names (version_in w.ticks w.last).policy (map cells_of play.sectors) w.lefts k e rest are found in
      let placed = placed_at play.sizes 0 k (map cells_of play.sectors) here.0 st.world.each here.1 in
      let number : here.0.sector ≡ k = omega (arith, placed.1) in
      ap (λ sizes. sector_of sizes (place_of e.cmd)) (sym st.sizes ∙ sym placed.0) ∙ sector_at here.0 (place_of e.cmd) here.2.0 ∙ ap Some number

  -- the entries that come next in one sector
  pub front_taken : (play : PlayData) (w : WalkData) (k : ℕ) (front rest : List EntryData) → Stands g play w
      → slice_get w.lefts k ≡ Some (front ++ rest)
      → (last : PlayData) × AnswersAll play front last × Stands g last (record w { lefts = set w.lefts k rest }) × AreIn g.sizes (Some k) front
  front_taken play w k [] rest st found =
      (play, refl, subst (λ lefts. Stands g play (record w { lefts = lefts })) (sym (set_found w.lefts k rest found)) st, tt)
  front_taken play w k (e ∷ front) rest st found =
      let at = next_in play w k e (front ++ rest) st found in
      let one = next_called g play w st fits e k (front ++ rest) at found in
      let next = after_step play (Command e.seat e.cmd) in
      let more = front_taken next (record w { lefts = set w.lefts k (front ++ rest) }) k front rest one.1 (found_again w.lefts k _ (front ++ rest) found) in
      (more.0, (next, one.0, more.1), subst (λ lefts. Stands g more.0 (record w { lefts = lefts })) (set-set w.lefts k (front ++ rest) rest) more.2, (at, more.3))

  -- the entries that come next in all sectors, one sector after another
  pub fronts_taken : (done lefts fronts rests : List (List EntryData)) (play : PlayData) (w : WalkData) → AreParts lefts fronts rests
      → w.lefts ≡ done ++ lefts → Stands g play w
      → (last : PlayData) × AnswersAll play (joined fronts) last × Stands g last (record w { lefts = done ++ rests }) × AreInEach g.sizes (length done) fronts
  fronts_taken done [] [] [] play w parts is st = (play, refl, subst (λ lefts. Stands g play (record w { lefts = lefts })) is st, tt)
  fronts_taken done (left ∷ lefts) (front ∷ fronts) (rest ∷ rests) play w parts is st =
      let found : slice_get w.lefts (length done) ≡ Some (front ++ rest) =
      ap (λ ls. slice_get ls (length done)) is ∙ at_seam done left lefts ∙ ap Some parts.0 in
      let one = front_taken play w (length done) front rest st found in
      let here : set w.lefts (length done) rest ≡ (done ++ rest ∷ []) ++ lefts =
      ap (λ ls. set ls (length done) rest) is ∙ set_at done left lefts rest (length done) refl ∙ sym (append_assoc done (rest ∷ []) lefts) in
      let more = fronts_taken (done ++ rest ∷ []) lefts fronts rests one.0 (record w { lefts = set w.lefts (length done) rest }) parts.1 here one.2 in
      let longer : length (done ++ rest ∷ []) ≡ suc (length done) = omega (arith, length-append done (rest ∷ [])) in (
        more.0,
        answers_joined play one.0 more.0 front (joined fronts) one.1 more.1,
        subst (λ ls. Stands g more.0 (record w { lefts = ls })) (append_assoc done (rest ∷ []) rests) more.2,
        (one.3, subst (λ k. AreInEach g.sizes k fronts) longer more.3),
      )
  fronts_taken done [] [] (rest ∷ rests) play w parts is st = absurd parts
  fronts_taken done [] (front ∷ fronts) rests play w parts is st = absurd parts
  fronts_taken done (left ∷ lefts) [] rests play w parts is st = absurd parts
  fronts_taken done (left ∷ lefts) (front ∷ fronts) [] play w parts is st = absurd parts

-- a call out of the world, refused so
abbrev pub IsOut : Sizes → EntryData → Type 0
IsOut sizes call = (sector_of sizes (place_of call.cmd) ≡ None) × (call.answer ≡ Err OutOfWorld)

-- such calls leave all as it was
pub outside_taken : (play : PlayData) (calls : List EntryData) → AllByRecursion (IsOut play.sizes) calls → AnswersAll play calls play
outside_taken play [] each = refl
outside_taken play (call ∷ calls) each =
    let told = outside_told play call.seat call.cmd each.0.0 in
    (play, record { told = each.0.1 ∙ sym (ap (λ a. a.0) told); after = λ i. record play { sectors = (sym told i).1 } }, outside_taken play calls each.1)

abbrev pub is_out : Sizes → EntryData → Bool
is_out sizes call = same_number (sector_of sizes (place_of call.cmd)) None

module _ (sizes : Sizes) (seat : ℕ) where
  -- calls in another sector are not among those
  elsewhere : (at here : Option ℕ) (calls : List EntryData) → same_number at here ≡ false → AreIn sizes at calls
      → filter (is_from sizes seat here) calls ≡ []
  elsewhere at here [] other are = refl
  elsewhere at here (call ∷ calls) other are =
      let no : is_from sizes seat here call ≡ false =
      ap (λ o. is_by seat call && same_number o here) are.0 ∙ ap (λ b. is_by seat call && b) other ∙ and_no (is_by seat call) in
      ap (λ b. cond b (call ∷ filter (is_from sizes seat here) calls) (filter (is_from sizes seat here) calls)) no
      ∙ elsewhere at here calls other are.1

  -- of calls in that sector, those from the seat
  there : (k : ℕ) (calls : List EntryData) → AreIn sizes (Some k) calls
      → filter (is_from sizes seat (Some k)) calls ≡ filter (is_by seat) calls
  there k [] are = refl
  there k (call ∷ calls) are =
      let yes : is_from sizes seat (Some k) call ≡ is_by seat call =
      ap (λ o. is_by seat call && same_number o (Some k)) are.0 ∙ ap (λ b. is_by seat call && b) (eq-eqb k k refl) ∙ and_yes (is_by seat call) in
      λ i. cond (yes i) (call ∷ there k calls are.1 i) (there k calls are.1 i)

  none_in_none : (j : ℕ) (fronts : List (List EntryData)) → AreInEach sizes j fronts → filter (is_from sizes seat None) (joined fronts) ≡ []
  none_in_none j [] are = refl
  none_in_none j (front ∷ fronts) are =
      filter-append (is_from sizes seat None) front (joined fronts)
      ∙ (λ i. elsewhere (Some j) None front refl are.0 i ++ none_in_none (suc j) fronts are.1 i)

  none_before : (k j : ℕ) (fronts : List (List EntryData)) → k < j → AreInEach sizes j fronts → filter (is_from sizes seat (Some k)) (joined fronts) ≡ []
  none_before k j [] below are = refl
  none_before k j (front ∷ fronts) below are =
      filter-append (is_from sizes seat (Some k)) front (joined fronts)
      ∙ (λ i. elsewhere (Some j) (Some k) front (unlike j k (λ same. omega (arith, same, below))) are.0 i ++ none_before k (suc j) fronts (omega (arith, below)) are.1 i)

  those_in : (k j i : ℕ) (fronts : List (List EntryData)) → k ≡ j + i → AreInEach sizes j fronts
      → filter (is_from sizes seat (Some k)) (joined fronts) ≡ filter (is_by seat) (get_or fronts i [])
  those_in k j i [] at are = refl
  those_in k j zero (front ∷ fronts) at are =
      let same : j ≡ k = omega (arith, at) in
      filter-append (is_from sizes seat (Some k)) front (joined fronts)
      ∙ (λ i. there k front (subst (λ n. AreIn sizes (Some n) front) same are.0) i ++ none_before k (suc j) fronts (omega (arith, same)) are.1 i)
      ∙ append-nil (filter (is_by seat) front)
  those_in k j (suc i) (front ∷ fronts) at are =
      filter-append (is_from sizes seat (Some k)) front (joined fronts)
      ∙ (λ n. elsewhere (Some j) (Some k) front (unlike j k (λ same. omega (arith, same, at))) are.0 n ++ those_in k (suc j) i fronts (omega (arith, at)) are.1 n)

  -- those out of the world are among all calls that are
  out_none : (calls : List EntryData) → filter (is_from sizes seat None) (filter (is_out sizes) calls) ≡ filter (is_from sizes seat None) calls
  out_none [] = refl
  out_none (call ∷ calls) = by (out_none calls) (is_out sizes call) refl
    where
      by : filter (is_from sizes seat None) (filter (is_out sizes) calls) ≡ filter (is_from sizes seat None) calls
          → (b : Bool) → is_out sizes call ≡ b → filter (is_from sizes seat None) (cond (is_out sizes call) (call ∷ filter (is_out sizes) calls) (filter (is_out sizes) calls))
          ≡ cond (is_from sizes seat None call) (call ∷ filter (is_from sizes seat None) calls) (filter (is_from sizes seat None) calls)
      by rest true out =
          ap (λ b. filter (is_from sizes seat None) (cond b (call ∷ filter (is_out sizes) calls) (filter (is_out sizes) calls))) out
          ∙ (λ i. cond (is_from sizes seat None call) (call ∷ rest i) (rest i))
      by rest false out =
          let no : is_from sizes seat None call ≡ false = ap (λ b. is_by seat call && b) out ∙ and_no (is_by seat call) in
          ap (λ b. filter (is_from sizes seat None) (cond b (call ∷ filter (is_out sizes) calls) (filter (is_out sizes) calls))) out
          ∙ rest
          ∙ sym (ap (λ b. cond b (call ∷ filter (is_from sizes seat None) calls) (filter (is_from sizes seat None) calls)) no)

same_none : (o : Option ℕ) → same_number o None ≡ true → o ≡ None
same_none None same = refl
same_none (Some k) same = cc

outs_are : (sizes : Sizes) (calls : List EntryData) → All (IsToldOut sizes) calls → All (IsOut sizes) (filter (is_out sizes) calls)
outs_are sizes calls told k d within =
    let none = same_none _ (filter_passes (is_out sizes) calls k d within) in
    (none, All-filter (is_out sizes) (IsToldOut sizes) calls told k d within none)

outs_in : (sizes : Sizes) (calls : List EntryData) → AllByRecursion (IsOut sizes) calls → AreIn sizes None calls
outs_in sizes [] each = tt
outs_in sizes (call ∷ calls) each = (each.0.0, outs_in sizes calls each.1)

-- the order of the record, those out of the world last, keeps each seat's order in each sector
module _ (sizes : Sizes) (calls : List EntryData) (fronts : List (List EntryData)) (outs : List EntryData)
    (out : outs ≡ filter (is_out sizes) calls) (out_in : AreIn sizes None outs)
    (are : AreInEach sizes 0 fronts)
    (order : (seat k : ℕ) → filter (is_by seat) (get_or fronts k []) ≡ filter (is_from sizes seat (Some k)) calls) where
  pub keeps : KeepsOrder sizes calls (joined fronts ++ outs)
  keeps seat None =
      filter-append (is_from sizes seat None) (joined fronts) outs
      ∙ (λ i. none_in_none sizes seat 0 fronts are i ++ filter (is_from sizes seat None) (out i))
      ∙ out_none sizes seat calls
  keeps seat (Some k) =
      filter-append (is_from sizes seat (Some k)) (joined fronts) outs
      ∙ (λ i. those_in sizes seat k 0 k fronts (omega arith) are i ++ elsewhere sizes seat None (Some k) outs refl out_in i)
      ∙ append-nil (filter (is_by seat) (get_or fronts k [])) ∙ order seat k

-- calls accept no edit
pub no_edit : (play : PlayData) (calls : List EntryData) (last : PlayData) → AnswersAll play calls last → last.accepted ≡ play.accepted
no_edit play [] last all = ap (λ p. p.accepted) all
no_edit play (call ∷ calls) last all = no_edit all.0 calls last all.2 ∙ ap (λ p. p.accepted) all.1.after

-- a block
pub block : (g : Whole) (play : PlayData) (w : WalkData) (calls : List EntryData) (next : WalkData) → Stands g play w → g.calls ≤ most_entries
    → TakesBlock g.sizes w calls next → (last : PlayData) × MayAnswer play calls last × Stands g last next
block g play w calls next st fits takes =
    let taken = fronts_taken g fits [] w.lefts takes.fronts takes.rests play w takes.parts refl st in
    let outs = filter (is_out g.sizes) calls in
    let each = recursion_from_All (IsOut g.sizes) outs (outs_are g.sizes calls takes.outside) in
    let left = outside_taken taken.0 outs (subst (λ sizes. AllByRecursion (IsOut sizes) outs) (sym taken.2.sizes) each) in (
      taken.0,
      record {
        order = joined takes.fronts ++ outs;
        keeps = subst (λ sizes. KeepsOrder sizes calls (joined takes.fronts ++ outs)) (sym st.sizes)
            (keeps g.sizes calls takes.fronts outs refl (outs_in g.sizes outs each) taken.3 takes.order);
        answered = answers_joined play taken.0 taken.0 (joined takes.fronts) outs taken.1 left;
      },
      subst (Stands g taken.0) (sym takes.after) taken.2,
    )
