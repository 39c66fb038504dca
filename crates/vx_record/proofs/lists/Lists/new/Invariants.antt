use Rattle.std.proofs.Common.{◌≡◌, [], map, replicate}
use Rattle.std.specs.Vec.{vec_len, vec_capacity}
use Rattle.vx_record.proofs.lists.Lists.new.Given as goal

-- so many empty lists, and room for the others
abbrev pub invariant-loop : goal.invariant-loop
invariant-loop l =
    (map (λ row. row.items) l.rows.items ≡ replicate l.counter [])
    × (vec_len l.rows ≡ l.counter) × (vec_capacity l.rows ≡ l.sectors)
