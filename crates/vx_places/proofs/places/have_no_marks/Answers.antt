use Rattle.std.proofs.Common.{◌≡◌, None, sym, ◌∙◌, subst}
use Rattle.std.specs.List.{All}
use Rattle.std.proofs.lemmas.List.{take_all}
use Rattle.std.proofs.lemmas.List.Elements.{All-more}
use Rattle.vx_places.proofs.places.have_no_marks.Goals as goal

pub loop-marks-preserved : goal.loop-marks-preserved
loop-marks-preserved c =
    All-more (λ marks. marks ≡ None) c.args.sectors.now c.loop-marks.marks-index c.marks-item.result
    c.loop-marks-test.true c.loop-marks.invariant (sym c.marks-item.is ∙ c.in_default.is)

pub returns : goal.returns
returns c = λ yes.
    subst (All (λ marks. marks ≡ None)) (take_all c.loop-marks.marks-index c.args.sectors.now c.loop-marks-test.false) c.loop-marks.invariant
