use Rattle.std.proofs.Common.{◌≡◌, length, map}
use Rattle.std.specs.Vec.Iter.{into_iter_items, into_iter_len}
use Rattle.vx_policy.specs.Asked.{asked}
use Rattle.vx_file.specs.FileReads.{applied}
use Rattle.vx_file.proofs.edits.apply_all.Given as goal

-- what is left, applied to the policy now, is all applied to the policy before
abbrev pub invariant-loop-edit : goal.invariant-loop-edit
invariant-loop-edit l =
    (applied l.policy (map asked (into_iter_items l.edit-iterator)) ≡ applied l.initial.policy (map asked l.fn.edits.items))
    × (into_iter_len l.edit-iterator ≡ length (into_iter_items l.edit-iterator))
