use Rattle.std.specs.Prelude.{◌≡◌, ℕ, ◌<◌, true, slice_get, List, Option, Some, None, IsSome, option_map, Contains}
use Rattle.std.specs.List.{filter, filter_map, AllPairs}
use Rattle.std.specs.List.Sorted.{IsStrictlyIncreasing}
use Rattle.vx_geom.specs.declared.pos.Pos.{Pos}
use Rattle.vx_geom.specs.Outline.{is_in}
use Rattle.vx_region.specs.Regions.{Entry, RegionData, Regions, region_at}

-- each of these is the number of a region
abbrev pub AreNumbers : Regions → List ℕ → Type 0
AreNumbers rs numbers = (n : ℕ) → Contains numbers n → IsSome (region_at rs n)

-- the numbers of regions ascend, and each region that contains the position has its number among
-- them
pub record HoldCandidates (rs : Regions) (p : Pos) (numbers : List ℕ) : Type 0 where
  pub ascending : IsStrictlyIncreasing numbers
  pub named : AreNumbers rs numbers
  pub whole : (n : ℕ) (r : RegionData) → region_at rs n ≡ Some r → is_in r.shape p ≡ true
      → Contains numbers n

-- the region of a number, with the number
abbrev pub entry_at : Regions → ℕ → Option Entry
entry_at rs n = option_map (λ r. (n, r)) (region_at rs n)

-- each of these is a region with its number
abbrev pub AreOf : Regions → List Entry → Type 0
AreOf rs these = (i : ℕ) (e : Entry) → slice_get these i ≡ Some e → region_at rs e.0 ≡ Some e.1

-- the regions of these numbers
abbrev pub regions_at : Regions → List ℕ → List Entry
regions_at rs numbers = filter_map (entry_at rs) numbers

-- the regions of some numbers, or all
abbrev pub candidates_of : Regions → Option (List ℕ) → List Entry
candidates_of rs None = rs.entries
candidates_of rs (Some numbers) = regions_at rs numbers

-- each number is below all later ones
abbrev pub Ascend : List Entry → Type 0
Ascend es = AllPairs (λ d e. d.0 < e.0) es

-- these regions stand in order of their numbers, and those of them that contain the position are
-- those of all
pub record Suffice (es : List Entry) (p : Pos) (these : List Entry) : Type 0 where
  pub ascending : Ascend these
  pub same : filter (λ e. is_in e.1.shape p) these ≡ filter (λ e. is_in e.1.shape p) es
