use Rattle.std.proofs.Common.{◌≡◌, ◌+◌, length}
use Rattle.std.specs.List.{All}
use Rattle.std.specs.Vec.{vec_len, vec_capacity}
use Rattle.vx_sector.specs.SectorData.{SectorData}
use Rattle.vx_sector.specs.Windows.{count_of}
use Rattle.vx_keeper.specs.Marks.{IsPartOf}
use Rattle.vx_world.proofs.opening.locked.Given as goal

-- what is left has as many parts as sectors
abbrev pub invariant-loop-sector : goal.invariant-loop-sector
invariant-loop-sector g l =
    All (λ (s : SectorData). count_of s ≡ 0) l.sector-iterator.rest.items
    × All (IsPartOf l.keeper.world) l.sector-iterator.rest.items
    × (l.rest.parts ≡ length l.sector-iterator.rest.items)
    × (l.rest.amount ≡ 0)
    × (vec_len l.slots + l.rest.parts ≡ vec_len l.fn.sectors)
    × (vec_capacity l.slots ≡ vec_len l.fn.sectors)
