use Rattle.std.proofs.Common.{◌≡◌, [], map, replicate}
use Rattle.vx_store.proofs.parted.copies.Given as goal

-- so many parts, each without a chest
abbrev pub invariant-loop : goal.invariant-loop
invariant-loop g l = map g.P.HasChests.chests l.parts.items ≡ replicate l.counter []
