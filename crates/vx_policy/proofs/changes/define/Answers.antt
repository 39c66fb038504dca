use Rattle.std.proofs.Common.{sym, ◌∙◌}
use Rattle.vx_policy.proofs.Accepted.{new_id, room_left, id_spelled, shape_there}
use Rattle.vx_policy.proofs.changes.define.Goals as goal

pub unreachable-requires : goal.unreachable-requires
unreachable-requires c = id_spelled _ _ _ c.requires c.in_default.ensures

pub define-requires-clause-free : goal.define-requires-clause-free
define-requires-clause-free c = new_id _ _ _ c.requires _ c.in-Ok.ensures

pub define-requires-clause-room : goal.define-requires-clause-room
define-requires-clause-room c = room_left _ _ _ c.requires

pub unreachable-requires-in_default-2 : goal.unreachable-requires-in_default-2
unreachable-requires-in_default-2 c = shape_there _ _ _ c.requires (sym c.in_ok-shape.ensures ∙ c.in_default-2.is)
