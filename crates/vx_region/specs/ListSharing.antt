-- What a list of regions ends as, once a `&mut` to one of them has ended.
use Rattle.std.specs.Prelude.{◌≡◌, ℕ, nat_eq, List, Result}
use Rattle.std.specs.Borrow.{Fml, MutBor, LendsSoOk}
use Rattle.std.specs.Map.{set_value}
use Rattle.vx_region.specs.Regions.{RegionData, Entry}
use Rattle.vx_region.specs.contracts.region.Region.{the_row as region_row}
use Rattle.vx_region.specs.contracts.region_list.RegionList.{the_row}

-- the region of the number is the last one written through r, and nothing is changed at `Err`
abbrev pub lends_in_list : {E : Type 0} → MutBor (List Entry) → ℕ → Result (MutBor RegionData) E
    → Fml
lends_in_list s number r = LendsSoOk the_row region_row s r
    (λ n w. n ≡ set_value (nat_eq number) s.now w) (λ n. n ≡ s.now)
