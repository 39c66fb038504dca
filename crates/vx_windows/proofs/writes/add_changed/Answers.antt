use Rattle.std.proofs.Common.{◌≡◌, ℕ, ◌+◌, ◌<◌, true, List, ◌∷◌, [], drop, get_or, length, map, sym, ap, subst, ◌∙◌, add-one, drop-cons, rules}
use Rattle.std.proofs.lemmas.Bool.{or_parts}
use Rattle.std.proofs.Math.ListN.{drop_of_length-le}
use Rattle.vx_cells.specs.CellsLaws.{cell_decided}
use Rattle.vx_cells.specs.SectorCells.{cell_at, holds}
use Rattle.vx_power.specs.Levels.{has}
use Rattle.vx_power.proofs.Having.{has_joined}
use Rattle.vx_sector.specs.Commands.{place_of}
use Rattle.vx_sector.specs.SectorData.{entry_of}
use Rattle.vx_sector.specs.Windows.{HoldsPlaces}
use Rattle.vx_windows.specs.Writing.{AreSpared}
use Rattle.vx_windows.proofs.Sparing.{spared_not}
use Rattle.vx_windows.proofs.writes.add_changed.Goals as goal
use Rattle.vx_windows.proofs.writes.add_changed.Goals.{then-not-is_same+in_ok-push, else-not-is_same}

-- the next one is the first of those that are left
next_left : {X : Type 0} (xs : List X) (i : ℕ) (x : X) → i < length xs → x ≡ get_or xs i x → drop i xs ≡ x ∷ drop (i + 1) xs
next_left xs i x within is =
    let parts : drop i xs ≡ get_or xs i x ∷ drop (i + 1) xs = rw add-one (drop-cons xs i x within) in
    parts ∙ ap (λ y. y ∷ drop (i + 1) xs) (sym is)

pub get-requires : goal.get-requires
get-requires c =
    let left = ap (map entry_of) (next_left c.args.entries.now c.loop-entry.entry-index c.entry-item.result c.loop-entry-test.true c.entry-item.is) in
    ap (holds c.args.cells.now) c.place-p.ensures ∙ (subst (HoldsPlaces c.args.cells.now) left c.loop-entry.invariant.in_cells).0

pub get-requires-in-loop-entry : goal.get-requires-in-loop-entry
get-requires-in-loop-entry c =
    let left = ap (map entry_of) (next_left c.args.entries.now c.loop-entry.entry-index c.entry-item.result c.loop-entry-test.true c.entry-item.is) in
    ap (holds c.args.base.now) c.place-p.ensures ∙ (subst (HoldsPlaces c.args.base.now) left c.loop-entry.invariant.in_base).0

pub returns : goal.returns
returns c = λ p none.
    let before = c.loop-entry.invariant.all p none in
    let nothing : drop c.loop-entry.entry-index c.args.entries.now ≡ [] = drop_of_length-le c.args.entries.now c.loop-entry-test.false in
    (before.0, before.1 (subst (λ es. AreSpared p c.args.base.now c.args.cells.now (map entry_of es)) (sym nothing) tt))

pub loop-entry-preserved : goal.loop-entry-preserved
loop-entry-preserved c =
    let kept = c.loop-entry.invariant in
    let base = c.args.base.now in
    let cells = c.args.cells.now in
    let entries = c.args.entries.now in
    let index = c.loop-entry.entry-index in
    let entry = c.entry-item.result in
    let q = place_of entry.cmd in
    let rest = map entry_of (drop (index + 1) entries) in
    let left : map entry_of (drop index entries) ≡ entry_of entry ∷ rest
    = ap (map entry_of) (next_left entries index entry c.loop-entry-test.true c.entry-item.is) in
    record {
      in_base = (subst (HoldsPlaces base) left kept.in_base).1;
      in_cells = (subst (HoldsPlaces cells) left kept.in_cells).1;
      all = λ p none. elim c.if-not-is_same.branch [
        | then-not-is_same+in_ok-push w ↦
            let parts = or_parts (has c.loop-entry.places.items p) (has (c.place-p.result ∷ []) p)
            (sym (ap (λ ps. has ps p) (ap (λ v. v.items) w.places-is ∙ w.in_ok-push.ensures.items)
            ∙ has_joined c.loop-entry.places.items (c.place-p.result ∷ []) p) ∙ none) in
            let before = kept.all p parts.0 in (
              before.0,
              λ spared. before.1 (subst (AreSpared p base cells) (sym left)
                  ((λ at. absurd (spared_not p q at c.place-p.result c.place-p.ensures parts.1)), spared)),
            )
        | else-not-is_same w ↦
            let alike : c.is_same.result ≡ true = search rules in
            let stays : cell_at cells q ≡ cell_at base q =
            ap (cell_at cells) (sym c.place-p.ensures) ∙ sym c.get.ensures
            ∙ (cell_decided c.get.result c.get-in-loop-entry.result).0 (sym c.is_same.ensures ∙ alike)
            ∙ c.get-in-loop-entry.ensures ∙ ap (cell_at base) c.place-p.ensures in
            let before = kept.all p (ap (λ v. has v.items p) (sym w.places-is) ∙ none) in (
              before.0,
              λ spared. before.1 (subst (AreSpared p base cells) (sym left)
                  ((λ at. subst (λ r. cell_at cells r ≡ cell_at base r) at stays), spared)),
            )
      ];
    }
