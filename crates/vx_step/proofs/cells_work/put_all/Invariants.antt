use Rattle.std.proofs.Common.{◌≡◌, drop}
use Rattle.vx_step.specs.Shares.{with_own}
use Rattle.vx_step.proofs.cells_work.put_all.Given as goal

-- what was put down, and with it what is left
abbrev pub invariant-loop-p : goal.invariant-loop-p
invariant-loop-p l = with_own l.cells (drop l.p-index l.puts) ≡ with_own l.fn.cells l.puts
