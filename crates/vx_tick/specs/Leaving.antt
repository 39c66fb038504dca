-- What a tick finds and does, step by step, and what it leaves to be looked at.
use Rattle.std.specs.Prelude.{◌≡◌, Bool, false, not, ◌&&◌, ◌++◌, if◌then◌else◌, List, [], ◌∷◌, map}
use Rattle.std.specs.List.{All}
use Rattle.vx_geom.specs.declared.pos.Pos.{Pos}
use Rattle.vx_geom.specs.Sizes.{sector_count}
use Rattle.vx_block.specs.declared.cell.Cell.{Cell}
use Rattle.vx_block.specs.Components.{is_dust}
use Rattle.vx_cells.specs.Maps.{MapData}
use Rattle.vx_cells.specs.SameCells.{same_cell}
use Rattle.vx_store.specs.Codes.{is_chest}
use Rattle.vx_cells.specs.Wholes.{with_cells_on}
use Rattle.vx_power.specs.Local.{shown}
use Rattle.vx_region.specs.Regions.{Regions}
use Rattle.vx_still.specs.Stillness.{LeavesStill}
use Rattle.vx_still.specs.Waking.{WakingData}
use Rattle.vx_still.specs.Watching.{IsWatch, WatchData}
use Rattle.vx_tick.specs.declared.fate.Fate.{Fate}
use Rattle.vx_tick.specs.declared.planned.Plan.{Plan}
use Rattle.vx_tick.specs.Ticks.{advanced, changed_up_to, fates_on, stepped}

-- what a tick does: what components become, what the moves that are made put down then, and what
-- became of the moves; no chest is put down
pub record IsWorked (rs : Regions) (m : MapData) (changes moved : List (Pos × Cell))
    (fates : List (Pos × Fate)) : Type 0 where
  pub parts : changes ≡ changed_up_to m (sector_count m.sizes)
  pub after : stepped rs m ≡ with_cells_on (advanced m) moved
  pub told : fates ≡ fates_on rs m
  pub chests : All (λ (put : Pos × Cell). is_chest put.1 ≡ false) (changes ++ moved)

-- what a tick does, told as a plan, and what it leaves to be looked at
pub record IsEnded (rs : Regions) (m : MapData) (done : Plan × WakingData) : Type 0 where
  pub puts : stepped rs m ≡ with_cells_on m done.0.puts.items
  pub fates : done.0.fates.items ≡ fates_on rs m
  pub chests : All (λ (put : Pos × Cell). is_chest put.1 ≡ false) done.0.puts.items
  pub left : LeavesStill m (stepped rs m) done.1

-- what a tick does, told as a plan, and what is kept of the map after it
pub record IsPlanned (rs : Regions) (m : MapData) (done : Plan × WatchData) : Type 0 where
  pub puts : stepped rs m ≡ with_cells_on m done.0.puts.items
  pub fates : done.0.fates.items ≡ fates_on rs m
  pub chests : All (λ (put : Pos × Cell). is_chest put.1 ≡ false) done.0.puts.items
  pub watch : IsWatch (stepped rs m) done.1

-- a change puts dust down where dust stood, and nowhere else
abbrev pub StaysDust : (Pos → Cell) → Pos × Cell → Type 0
StaysDust w put = is_dust put.1 ≡ is_dust (w put.0)

-- two cells show the same
abbrev pub shows_same : Cell → Cell → Bool
shows_same a b = same_cell (shown a) (shown b)

-- the positions of what shows other than what stood there
abbrev pub shown_changes : (Pos → Cell) → List (Pos × Cell) → List Pos
shown_changes w [] = []
shown_changes w (put ∷ puts) =
    if shows_same put.1 (w put.0)
    then shown_changes w puts
    else put.0 ∷ shown_changes w puts

-- those of what shows the same, and is no dust
abbrev pub hidden_changes : (Pos → Cell) → List (Pos × Cell) → List Pos
hidden_changes w [] = []
hidden_changes w (put ∷ puts) =
    if shows_same put.1 (w put.0) && not (is_dust put.1)
    then put.0 ∷ hidden_changes w puts
    else hidden_changes w puts

-- the positions of what is put down
abbrev pub places_of : List (Pos × Cell) → List Pos
places_of puts = map (λ (put : Pos × Cell). put.0) puts
