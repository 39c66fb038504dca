-- What a block ends as, once a `&mut` to a region in it has ended.
use Rattle.std.specs.Prelude.{◌≡◌, ℕ, ◌-◌, Result}
use Rattle.std.specs.Borrow.{Fml, MutBor, LendsSoOk}
use Rattle.vx_region.specs.Blocks.{BlockData, with_entries, written_at}
use Rattle.vx_region.specs.Regions.{RegionData}
use Rattle.vx_region.specs.contracts.region.Region.{the_row as region_row}
use Rattle.vx_region.specs.contracts.block.Block.{the_row}

-- the region at the place is the last one written through r, and nothing is changed at `Err`
abbrev pub lends_in_block : {E : Type 0} → MutBor BlockData → ℕ → Result (MutBor RegionData) E
    → Fml
lends_in_block s place r = LendsSoOk the_row region_row s r
    (λ n w. n ≡ with_entries s.now (written_at s.now.entries (place - s.now.start) w))
    (λ n. n ≡ s.now)
