use Rattle.vx_piston.proofs.Ends.{piston_inside}
use Rattle.vx_piston.proofs.candidates.asked_by.Goals as goal

pub drawing-requires : goal.drawing-requires
drawing-requires c =
    let out = c.in-Piston-default-default-true in
    piston_inside c.args.map.now c.args.p out.facing out.sticky out.extended out.ensures
