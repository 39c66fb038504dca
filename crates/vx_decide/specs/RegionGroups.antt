use Rattle.std.specs.Prelude.{ℕ, ℤ, Bool, not, ◌&&◌, ◌||◌, int_le, if◌then◌else◌, min, List, [], ◌∷◌, Option, Some, None}
use Rattle.std.specs.List.{list_any, list_all}
use Rattle.vx_region.specs.Regions.{Entry, Regions}
use Rattle.vx_region.specs.Ancestry.{is_above}

-- some of the regions, given by the test that they pass
abbrev pub Members : Type 0
Members = Entry → Bool

-- no member has a priority above this one
unfoldable pub none_higher : Members → List Entry → ℤ → Bool
none_higher members es priority = list_all (λ d. int_le d.1.priority priority || not (members d)) es

-- a member, and no other has a higher priority
unfoldable pub is_highest : Members → List Entry → Entry → Bool
is_highest members es e = none_higher members es e.1.priority && members e

-- the region of this number is an ancestor of a member
unfoldable pub is_above_one : Members → Regions → ℕ → Bool
is_above_one members rs n = list_any (λ d. is_above rs n d.1 && members d) rs.entries

-- a member, and no ancestor of another
unfoldable pub is_lowest : Members → Regions → Entry → Bool
is_lowest members rs e = members e && not (is_above_one members rs e.0)

-- the lesser of a number and one that may be missing
abbrev pub lesser : ℕ → Option ℕ → ℕ
lesser n None = n
lesser n (Some m) = min n m

-- the least number of a member
abbrev pub least : Members → List Entry → Option ℕ
least members [] = None
least members (e ∷ es) =
    if members e then Some (lesser e.0 (least members es)) else least members es
