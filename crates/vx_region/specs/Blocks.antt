-- Regions with their numbers in blocks, one after another.
use Rattle.std.specs.Prelude.{ℕ, zero, suc, ◌+◌, ◌-◌, ◌≡◌, ◌<◌, ◌≤◌, nat_lt, if◌then◌else◌, List, [], ◌∷◌, ◌++◌, length, slice_get, Option, Some, None}
use Rattle.std.specs.List.{flat_map}
use Rattle.vx_region.specs.Regions.{RegionData, Entry}

-- the regions of a block, and the place of the first one among those of all blocks
pub record BlockData : Type 0 where
  pub start : ℕ
  pub entries : List Entry

-- a block with other regions
abbrev pub with_entries : BlockData → List Entry → BlockData
with_entries b entries = record b { entries = entries }

-- the regions of all blocks
abbrev pub joined : List BlockData → List Entry
joined blocks = flat_map (λ b. b.entries) blocks

-- the first block starts at this place, and each other one where the one before it ends
abbrev pub AreInPlace : ℕ → List BlockData → Type 0
AreInPlace at [] = Unit {0}
AreInPlace at (b ∷ bs) = (b.start ≡ at) × AreInPlace (at + length b.entries) bs

-- these blocks have the regions of those, and behind them some more
pub record HaveMore (old new : List BlockData) (more : List Entry) : Type 0 where
  pub in_place : AreInPlace 0 new
  pub regions : joined new ≡ joined old ++ more

-- the place lies in the block
abbrev pub Holds : ℕ → BlockData → Type 0
Holds place b = (b.start ≤ place) × (place - b.start < length b.entries)

-- the region at a place, if that lies in the block
abbrev pub entry_at : BlockData → ℕ → Option Entry
entry_at b place = if nat_lt place b.start then None else slice_get b.entries (place - b.start)

-- the regions before a place have lower numbers
abbrev pub AreBefore : ℕ → ℕ → List Entry → Type 0
AreBefore place number entries =
    (i : ℕ) (e : Entry) → slice_get entries i ≡ Some e → i < place → e.0 < number

-- the regions from a place on have higher numbers
abbrev pub AreBehind : ℕ → ℕ → List Entry → Type 0
AreBehind place number entries =
    (i : ℕ) (e : Entry) → slice_get entries i ≡ Some e → place ≤ i → number < e.0

-- the region at a place written over
abbrev pub written_at : List Entry → ℕ → RegionData → List Entry
written_at [] place region = []
written_at (e ∷ es) zero region = (e.0, region) ∷ es
written_at (e ∷ es) (suc place) region = e ∷ written_at es place region
