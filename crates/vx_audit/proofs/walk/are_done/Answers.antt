use Rattle.std.proofs.Common.{◌≡◌, List, [], length, map, take, sym, ap, ◌∙◌, subst}
use Rattle.std.proofs.lemmas.Bool.{eqb-true}
use Rattle.std.proofs.lemmas.List.{take_all}
use Rattle.std.proofs.lemmas.List.Elements.{All-same, All-push}
use Rattle.vx_sector.specs.SectorData.{EntryData, entry_of}
use Rattle.vx_record.proofs.Fronts.{taken_to}
use Rattle.vx_audit.specs.Walks.{AreDone}
use Rattle.vx_audit.proofs.Filtered.{empty_of}
use Rattle.vx_audit.proofs.walk.are_done.Goals as goal

pub loop-left-preserved : goal.loop-left-preserved
loop-left-preserved c =
    let lefts = c.args.lefts.now in
    let k = c.loop-left.left-index in
    let left = c.left-item.result in
    All-same (λ (es : List EntryData). es ≡ []) _ _ (taken_to (λ left. map entry_of left.now) lefts k left c.loop-left-test.true c.left-item.is)
    (All-push (λ (es : List EntryData). es ≡ []) (map (λ left. map entry_of left.now) (take k lefts)) (map entry_of left.now) c.loop-left.invariant (ap (map entry_of) (empty_of left.now (eqb-true (length left.now) 0 (sym c.is_empty.ensures ∙ c.if-not-is_empty.false)))))

pub returns : goal.returns
returns c = λ yes.
    subst (λ lefts. AreDone (map (λ left. map entry_of left.now) lefts)) (take_all c.loop-left.left-index c.args.lefts.now c.loop-left-test.false) c.loop-left.invariant
