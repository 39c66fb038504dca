-- Sets of positions of a world, kept as marks by sector.
use Rattle.std.specs.Prelude.{◌≡◌, ◌⊎◌, ℕ, ◌+◌, ◌*◌, Bool, false, ◌&&◌, nat_eq, List, [], length, slice_index_or, Option, Some, None, ◌-ℤ◌, unsigned_abs}
use Rattle.std.specs.List.{filter}
use Rattle.vx_geom.specs.declared.pos.Pos.{Pos}
use Rattle.vx_geom.specs.Places.{positions}
use Rattle.vx_geom.specs.Sizes.{Sizes, AreSizes, sector_count, sector_cells, sector_number, sector_of, index_in_sector}
use Rattle.vx_marks.specs.Marks.{is_marked, in_run}

-- positions of a world: its size, and the marks of each sector by the indices of its places; none
-- where nothing was ever marked
pub record PlacesData : Type 0 where
  pub sizes : Sizes
  pub marks : List (Option (List ℕ))

-- the index is marked
abbrev pub marked_in : Option (List ℕ) → ℕ → Bool
marked_in None index = false
marked_in (Some words) index = is_marked words index

-- the marks of a sector; outside the world there are none
abbrev pub marks_at : List (Option (List ℕ)) → Option ℕ → Option (List ℕ)
marks_at marks None = None
marks_at marks (Some sector) = slice_index_or marks sector None

-- the position is one of them
unfoldable pub is_at : PlacesData → Pos → Bool
is_at d p = marked_in (marks_at d.marks (sector_of d.sizes p)) (index_in_sector d.sizes p)

-- the position lies in the sector of another, and its index is of a run that begins with that one's
abbrev pub in_run_from : Sizes → Pos → ℕ → Pos → Bool
in_run_from v p bits q =
    nat_eq (sector_number v q) (sector_number v p)
    && in_run (index_in_sector v p) bits (index_in_sector v q)

-- how many steps lead from one position to another
abbrev pub steps_between : Pos → Pos → ℕ
steps_between p q =
    unsigned_abs (p.x -ℤ q.x) + (unsigned_abs (p.y -ℤ q.y) + unsigned_abs (p.z -ℤ q.z))

-- the positions of a sector that its marks tell, in order
abbrev pub marked_places : Sizes → ℕ → Option (List ℕ) → List Pos
marked_places v sector marks =
    filter (λ p. marked_in marks (index_in_sector v p)) (positions v sector)

-- marks have a bit for each of so many places
abbrev pub HasRoom : ℕ → Option (List ℕ) → Type 0
HasRoom count None = Unit {0}
HasRoom count (Some words) = 64 * length words ≡ count

-- what holds of every such set: its size is one that a world may have, no sector has an entry or
-- each has one, and marks have a bit for each place of their sector
pub record ArePlaces (sizes : Sizes) (marks : List (Option (List ℕ))) : Type 0 where
  pub valid : AreSizes sizes
  pub all : (marks ≡ []) ⊎ (length marks ≡ sector_count sizes)
  pub each : (sector : ℕ) → HasRoom (sector_cells sizes) (slice_index_or marks sector None)
