use Rattle.std.proofs.Common.{◌≡◌, map, take}
use Rattle.vx_policy.specs.Asked.{asked}
use Rattle.vx_core.proofs.machine.copies.Given as goal

-- the edits so far
abbrev pub invariant-loop-edit : goal.invariant-loop-edit
invariant-loop-edit l = map asked l.copies.items ≡ map asked (take l.edit-index l.edits)
