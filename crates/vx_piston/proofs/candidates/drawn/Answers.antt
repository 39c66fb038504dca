use Rattle.vx_piston.proofs.Ends.{drawn_alone}
use Rattle.vx_piston.proofs.candidates.drawn.Goals as goal

pub returns-in_default : goal.returns-in_default
returns-in_default c =
    rw c.push.ensures.items (rw c.new-cells.ensures
    (drawn_alone c.args.map.now c.args.facing c.args.sticky c.args.p c.requires c.in_default.ensures.value))
