use Rattle.std.specs.Prelude.{ℕ, ◌≡◌, ◌<◌, ◌≤◌, List, [], ◌∷◌, Some, IsSome}
use Rattle.std.specs.Option.{MatchOption}
use Rattle.vx_region.specs.Regions.{Entry, Regions, region_at, parent_of}

-- numbers ascend, each above n
abbrev pub IsAscending : ℕ → List Entry → Type 0
IsAscending n [] = Unit {0}
IsAscending n (e ∷ es) = (n < e.0) × IsAscending e.0 es

-- no number is above n
abbrev pub IsBelow : ℕ → List Entry → Type 0
IsBelow n [] = Unit {0}
IsBelow n (e ∷ es) = (e.0 ≤ n) × IsBelow n es

-- the regions stand in order of their numbers, which are from 1 to the last one given
pub record IsNumbered (rs : Regions) : Type 0 where
  pub ascending : IsAscending 0 rs.entries
  pub given : IsBelow rs.last rs.entries

-- a list is the chain of a region: the region, its parent, the parent's parent, and so on to one
-- without a parent
abbrev pub IsChain : Regions → ℕ → List ℕ → Type 0
IsChain rs r [] = ⊥
IsChain rs r (a ∷ l) = (a ≡ r) × MatchOption (parent_of rs r) (l ≡ []) (λ q. IsChain rs q l)

-- what holds of every set of regions
pub record IsForest (rs : Regions) : Type 0 where
  pub numbered : IsNumbered rs
  -- each parent is there
  pub parents : (r q : ℕ) → parent_of rs r ≡ Some q → IsSome (region_at rs q)
  -- each chain of parents ends: there is no cycle
  pub ends : (r : ℕ) → (l : List ℕ) × IsChain rs r l
