-- How a tick begins, by what was kept of a map.
use Rattle.std.specs.Prelude.{Some, IfSome}
use Rattle.vx_cells.specs.Maps.{MapData}
use Rattle.vx_power.specs.Levels.{level_in, AreAllLevels}
use Rattle.vx_still.specs.Unheeded.{IsKept}
use Rattle.vx_still.specs.Waking.{nowhere}
use Rattle.vx_still.specs.Watching.{IsWatch}
use Rattle.vx_tick.specs.declared.start.Start.{Start}
use Rattle.vx_tick.specs.declared.start.Start.TheVariants.{AtRest, Awake, Anew}
use Rattle.vx_tick.specs.Pieces.{RestsOutside}

-- nothing is told where the map is not still; or the levels and links are those of the map, and it
-- rests outside the places; or the levels are those of the map
abbrev pub IsStart : MapData → Start → Type 0
IsStart m (AtRest dust) =
    IsWatch m (record { waking = nowhere; dust = Some dust })
IsStart m (Awake dust places) = IsKept m dust × IfSome places (RestsOutside m)
IsStart m (Anew levels calm) = AreAllLevels m (level_in levels)
