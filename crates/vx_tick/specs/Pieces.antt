-- A tick in pieces, one for each sector.
use Rattle.std.specs.Prelude.{◌≡◌, ℕ, zero, suc, List, [], ◌++◌}
use Rattle.std.specs.List.{filter}
use Rattle.vx_block.specs.declared.cell.Cell.{Cell}
use Rattle.vx_geom.specs.declared.pos.Pos.{Pos}
use Rattle.vx_geom.specs.Places.{positions}
use Rattle.vx_cells.specs.Maps.{MapData, cell_on}
use Rattle.vx_power.specs.Laws.{dust_level}
use Rattle.vx_part.specs.Changes.{changes}
use Rattle.vx_piston.specs.Moves.{Moving, is_restless}
use Rattle.vx_places.specs.Places.{PlacesData, is_at}
use Rattle.vx_still.specs.Waking.{IsSettled}
use Rattle.vx_tick.specs.Ticks.{asked}

-- what becomes another cell in the sector of number k
abbrev pub changed_in : MapData → ℕ → List (Pos × Cell)
changed_in m k = changes (cell_on m) (dust_level (cell_on m)) (positions m.sizes k)

-- what pistons of the sector of number k ask for
abbrev pub asked_in : MapData → ℕ → List Moving
asked_in m k = asked m (dust_level (cell_on m)) (positions m.sizes k)

-- the pistons of the sector of number k that would move
abbrev pub restless_in : MapData → ℕ → List Pos
restless_in m k =
    filter (is_restless (cell_on m) (dust_level (cell_on m))) (positions m.sizes k)

-- those of the first n sectors
abbrev pub restless_up_to : MapData → ℕ → List Pos
restless_up_to m zero = []
restless_up_to m (suc n) = restless_up_to m n ++ restless_in m n

-- a map rests outside these places, which are some of its world
abbrev pub RestsOutside : MapData → PlacesData → Type 0
RestsOutside m places = (places.sizes ≡ m.sizes) × IsSettled m (is_at places)
