use Rattle.std.specs.Prelude.{ℕ, zero, suc, Bool, false, nat_eq, List, [], ◌∷◌, Option, Some, None}
use Rattle.std.specs.List.{list_any}
use Rattle.vx_region.specs.Regions.{RegionData, Regions, parent_of}

-- what a parent leads to, and nothing without a parent
abbrev pub from_parent : (ℕ → List ℕ) → Option ℕ → List ℕ
from_parent f None = []
from_parent f (Some q) = f q

-- a region, its parent, the parent's parent, and so on, for so many steps
abbrev pub chain : ℕ → Regions → ℕ → List ℕ
chain zero rs r = []
chain (suc n) rs r = r ∷ from_parent (chain n rs) (parent_of rs r)

-- the ancestry of a region: itself, its parent, the parent's parent, to the end; no chain of
-- parents is longer than the numbers that were given
unfoldable pub ancestors : Regions → ℕ → List ℕ
ancestors rs r = chain (suc rs.last) rs r

-- a is r or one of its ancestors
unfoldable pub is_under : Regions → ℕ → ℕ → Bool
is_under rs r a = list_any (nat_eq a) (ancestors rs r)

-- the ancestors of a region, itself left out: the ancestry of its parent
abbrev pub proper_ancestors : Regions → RegionData → List ℕ
proper_ancestors rs r = from_parent (ancestors rs) r.parent

-- a is an ancestor of the region, and not that region itself
unfoldable pub is_above : Regions → ℕ → RegionData → Bool
is_above rs a r = list_any (nat_eq a) (proper_ancestors rs r)

-- the parent is this number
abbrev pub is_number : ℕ → Option ℕ → Bool
is_number n None = false
is_number n (Some q) = nat_eq n q

-- some region has the region of this number as its parent
unfoldable pub has_child : Regions → ℕ → Bool
has_child rs n = list_any (λ e. is_number n e.1.parent) rs.entries
