use Rattle.std.proofs.Common.{◌≡◌, ◌++◌, drop}
use Rattle.vx_tick.specs.Leaving.{places_of}
use Rattle.vx_tick.proofs.leaving.places_of.Given as goal

-- what was found, and what is left to find
abbrev pub invariant-loop-p : goal.invariant-loop-p
invariant-loop-p l =
    l.found.items ++ places_of (drop l.p-index l.puts) ≡ places_of l.puts
