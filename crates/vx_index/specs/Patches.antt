-- The regions of a tile, kept as patches of columns.
use Rattle.std.specs.Prelude.{◌≡◌, ℕ, pos, ◌+◌, ◌<◌, ◌≤◌, Bool, true, false, ◌&&◌, nat_eq, List, [], ◌∷◌, ◌++◌, Contains, Option, Some, None}
use Rattle.std.specs.List.{list_any, AllByRecursion}
use Rattle.std.specs.List.Sorted.{IsStrictlyIncreasing}
use Rattle.vx_geom.specs.declared.extent.Extent.{Extent}
use Rattle.vx_geom.specs.declared.pos.Pos.{Pos}
use Rattle.vx_geom.specs.Extent.{is_within, extent_of, meets}
use Rattle.vx_geom.specs.Outline.{Outline, is_in}
use Rattle.vx_index.specs.Shapes.{Shapes}
use Rattle.vx_index.specs.declared.patch.Patch.{Patch}

-- 32 by 32 columns, from this one to the east and to the south
abbrev pub square : ℕ → ℕ → Extent
square west north = record {
  west = pos west;
  east = pos (west + 31);
  north = pos north;
  south = pos (north + 31);
}

-- 32 columns of the row z
abbrev pub row_of_square : ℕ → ℕ → Extent
row_of_square west z = record {
  west = pos west;
  east = pos (west + 31);
  north = pos z;
  south = pos z;
}

-- 32 columns of each of eight rows, from the row z to the south
abbrev pub band_of_square : ℕ → ℕ → Extent
band_of_square west z = record {
  west = pos west;
  east = pos (west + 31);
  north = pos z;
  south = pos (z + 7);
}

-- these columns, if there are any, have that of the position
abbrev pub is_in_any : Option Extent → Pos → Bool
is_in_any None p = false
is_in_any (Some columns) p = is_within columns p

-- each position of the shape in these columns lies in one of the others
abbrev pub HoldsThere : Outline → Extent → Option Extent → Type 0
HoldsThere shape columns others = (p : Pos) → is_within columns p ≡ true
    → is_in shape p ≡ true → is_in_any others p ≡ true

-- some patch of the region of that number passes the test
abbrev pub has_such : (Patch → Bool) → List Patch → ℕ → Bool
has_such test patches n = list_any (λ d. test d && nat_eq n d.number) patches

-- some patch of that number has the column of the position
abbrev pub are_near : List Patch → ℕ → Pos → Bool
are_near patches n p = has_such (λ d. is_within d.columns p) patches n

-- some patch is of that number
abbrev pub has_number : List Patch → ℕ → Bool
has_number patches n = has_such (λ d. true) patches n

-- patches stand in the order of their regions, the first of which has the number n or a later one
abbrev pub AreInOrder : ℕ → List Patch → Type 0
AreInOrder n [] = Unit {0}
AreInOrder n (patch ∷ rest) = (n ≤ patch.number) × AreInOrder patch.number rest

-- the numbers of these patches, each once and in order: those from 1 on of all that pass the test,
-- and perhaps others
pub record AreNumbersOf (test : Patch → Bool) (patches : List Patch) (numbers : List ℕ) : Type 0 where
  pub ascending : IsStrictlyIncreasing numbers
  pub whole : (n : ℕ) → 0 < n → has_such test patches n ≡ true → Contains numbers n
  pub own : (n : ℕ) → Contains numbers n → has_number patches n ≡ true

-- where a shape contains a position of these columns, a patch of it is near
abbrev pub AreTold : Shapes → Extent → List Patch → Type 0
AreTold shapes columns patches = (n : ℕ) (o : Outline) (p : Pos) → shapes n ≡ Some o
    → is_within columns p ≡ true → is_in o p ≡ true → are_near patches n p ≡ true

-- it is a shape that lies in columns that meet these
abbrev pub IsMet : Option Outline → Extent → Type 0
IsMet shape columns = (o : Outline) × (shape ≡ Some o) × (meets (extent_of o) columns ≡ true)

-- all these shapes, as they lie in these columns, and no others
pub record AreOf (shapes : Shapes) (columns : Extent) (patches : List Patch) : Type 0 where
  pub ordered : AreInOrder 0 patches
  pub told : AreTold shapes columns patches
  pub met : AllByRecursion (λ patch. IsMet (shapes patch.number) columns) patches

-- patches of that number were added, so that one is near wherever the shape contains a position of
-- these columns
pub record Adds (number : ℕ) (shape : Outline) (columns : Extent) (old new : List Patch) : Type 0 where
  pub added : List Patch
  pub after : new ≡ old ++ added
  pub own : AllByRecursion (λ patch. patch.number ≡ number) added
  pub whole : (p : Pos) → is_within columns p ≡ true → is_in shape p ≡ true
      → are_near added number p ≡ true

-- patches of that number were added for a shape where there is one, and none where it lies in no
-- columns that meet these
pub record AddsAny (number : ℕ) (shape : Option Outline) (columns : Extent) (old new : List Patch) : Type 0 where
  pub added : List Patch
  pub after : new ≡ old ++ added
  pub own : AllByRecursion (λ patch. patch.number ≡ number) added
  pub whole : (o : Outline) (p : Pos) → shape ≡ Some o → is_within columns p ≡ true
      → is_in o p ≡ true → are_near added number p ≡ true
  pub met : AllByRecursion (λ patch. IsMet shape columns) added
