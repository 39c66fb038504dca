use Rattle.std.specs.List.{AllWithin}
use Rattle.std.proofs.Common.{◌≡◌}
use Rattle.vx_index.proofs.tile.end_of_run.Given as goal

-- all patches so far are of the number
abbrev pub invariant-loop-index : goal.invariant-loop-index
invariant-loop-index l = AllWithin (λ d. d.number ≡ l.number) l.patches l.start l.index
