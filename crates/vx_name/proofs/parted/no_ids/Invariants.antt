use Rattle.std.proofs.Common.{◌≡◌, [], map, replicate}
use Rattle.vx_name.proofs.parted.no_ids.Given as goal

-- so many parts, each without an id
abbrev pub invariant-loop : goal.invariant-loop
invariant-loop g l = map g.P.HasIds.ids l.parts.items ≡ replicate l.counter []
