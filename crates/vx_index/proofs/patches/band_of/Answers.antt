use Rattle.std.proofs.Common.{inl, inr, arith, subst}
use Rattle.vx_index.specs.Patches.{HoldsThere}
use Rattle.vx_index.proofs.Squares.{no_rows, row_or_before, all_of_band}
use Rattle.vx_index.proofs.patches.band_of.Goals as goal

pub loop-row-init : goal.loop-row-init
loop-row-init c p within inside = absurd (no_rows c.args.west c.args.z p within)

pub loop-row-preserved : goal.loop-row-preserved
loop-row-preserved c p within inside = elim (row_or_before c.args.west c.args.z c.loop-row.row p within) [
  | inl before ↦ c.joined-columns.ensures.these p (c.loop-row.invariant p before inside)
  | inr here ↦ c.joined-columns.ensures.others p (c.row_of.ensures p here inside)
]

pub returns : goal.returns
returns c =
    subst (λ e. HoldsThere c.args.shape.now e c.loop-row.columns) (all_of_band c.args.west c.args.z c.loop-row.row (omega (arith, c.loop-row-test.false)))
    c.loop-row.invariant
