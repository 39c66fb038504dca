-- What a region that copies share ends as, once a `&mut` to it has ended.
use Rattle.std.specs.Prelude.{◌≡◌, Result}
use Rattle.std.specs.Borrow.{Fml, MutBor, LendsSoOk}
use Rattle.vx_region.specs.Regions.{RegionData}
use Rattle.vx_region.specs.contracts.region.Region.{the_row as region_row}
use Rattle.vx_region.specs.contracts.shared_region.SharedRegion.{the_row}

-- it is the last one written through r, and is unchanged at `Err`
abbrev pub lends_region : {E : Type 0} → MutBor RegionData → Result (MutBor RegionData) E → Fml
lends_region s r = LendsSoOk the_row region_row s r (λ n w. n ≡ w) (λ n. n ≡ s.now)
