use Rattle.std.proofs.Common.{sym, subst}
use Rattle.vx_cells.specs.Maps.{AreSectors}
use Rattle.vx_cells.proofs.Setting.{air_is_map}
use Rattle.vx_cells.proofs.whole.Whole.new.Goals as goal

pub invariant_of-result : goal.invariant_of-result
invariant_of-result c = subst (AreSectors c.args.bounds) (sym c.in_ok-all_air.ensures.cells) (air_is_map c.args.bounds c.in_ok-all_air.ensures.valid)
