-- What rests on a map, and where a tick has to look.
use Rattle.std.specs.Prelude.{◌≡◌, Bool, false, List, [], ◌++◌}
use Rattle.std.specs.List.{list_any}
use Rattle.vx_geom.specs.declared.pos.Pos.{Pos}
use Rattle.vx_cells.specs.Maps.{MapData, cell_on}
use Rattle.vx_power.specs.Laws.{dust_level}
use Rattle.vx_power.specs.Levels.{has}
use Rattle.vx_power.specs.Local.{is_touched}
use Rattle.vx_power.specs.Spreading.{fed_by}
use Rattle.vx_power.specs.Turning.{all_on, EachHeeded}
use Rattle.vx_part.specs.Laws.{reads}
use Rattle.vx_part.specs.Parts.{next_part}
use Rattle.vx_piston.specs.Moves.{is_restless}

-- what stands at p is the same after a tick, and no piston that would move
pub record Rests (m : MapData) (p : Pos) : Type 0 where
  pub part : next_part (cell_on m) (dust_level (cell_on m)) p ≡ cell_on m p
  pub piston : is_restless (cell_on m) (dust_level (cell_on m)) p ≡ false

-- all rests outside this set of positions
abbrev pub IsSettled : MapData → (Pos → Bool) → Type 0
IsSettled m unsettled = (p : Pos) → unsettled p ≡ false → Rests m p

-- where a map is not still: where it was rebuilt, where parts were only turned on or off, and those
-- positions that are looked at besides
pub record WakingData : Type 0 where
  pub rebuilt : List Pos
  pub turned : List Pos
  pub besides : List Pos

-- nowhere
abbrev pub nowhere : WakingData
nowhere = record { rebuilt = []; turned = []; besides = [] }

-- with more positions that were rebuilt
abbrev pub with_rebuilt : WakingData → List Pos → WakingData
with_rebuilt waking written =
    record waking { rebuilt = waking.rebuilt ++ written }

-- dust at p sees nothing that was rebuilt, and no part that was turned would feed it, were it on
pub record SeesNone (m : MapData) (waking : WakingData) (p : Pos) : Type 0 where
  pub rebuilt : is_touched (has waking.rebuilt) p ≡ false
  pub turned : has (fed_by (all_on (cell_on m)) waking.turned) p ≡ false

-- a part at p reads nothing that was rebuilt, and heeds no part that was turned
pub record ReadsNone (m : MapData) (waking : WakingData) (p : Pos) : Type 0 where
  pub rebuilt : list_any (has waking.rebuilt) (reads p) ≡ false
  pub turned : EachHeeded (cell_on m) p (λ q. has waking.turned q ≡ false)
