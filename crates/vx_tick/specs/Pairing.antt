-- Pistons that are out, and their heads.
use Rattle.std.specs.Prelude.{◌≡◌, true, List}
use Rattle.vx_geom.specs.declared.pos.Pos.{Pos}
use Rattle.vx_geom.specs.Dirs.{opposite}
use Rattle.vx_geom.specs.Neighbor.{neighbor}
use Rattle.vx_block.specs.declared.cell.Cell.{Cell}
use Rattle.vx_block.specs.declared.cell.Cell.TheVariants.{Piston, Head}
use Rattle.vx_cells.specs.Maps.{MapData, cell_on}
use Rattle.vx_region.specs.Regions.{Regions}
use Rattle.vx_tick.specs.declared.fate.Fate.{Fate}
use Rattle.vx_tick.specs.Ticks.{IsTick}

-- a piston that is out has its head before it, and a head its piston behind it
abbrev pub IsPairedAt : (Pos → Cell) → Pos → Cell → Type 0
IsPairedAt w p (Piston d sticky true) = w (neighbor p d) ≡ Head d sticky
IsPairedAt w p (Head d sticky) = w (neighbor p (opposite d)) ≡ Piston d sticky true
IsPairedAt w p other = Unit {0}

-- each has
abbrev pub IsPaired : MapData → Type 0
IsPaired m = (p : Pos) → IsPairedAt (cell_on m) p (cell_on m p)

-- then each has after the tick
abbrev pub StaysPaired : (rs : Regions) (m next : MapData) (fates : List (Pos × Fate))
    → IsTick rs m next fates → Type 0
StaysPaired rs m next fates tick = IsPaired m → IsPaired next
