-- What decisions by a set of regions are found by.
use Rattle.std.specs.List.{All}
use Rattle.vx_decide.specs.Unset.{IsUnset}
use Rattle.vx_index.specs.Lands.{IsLandOf}
use Rattle.vx_index.specs.Shapes.{shape_at}
use Rattle.vx_region.specs.Regions.{Regions}
use Rattle.vx_policy.specs.declared.chart.Chart.{Chart}

-- its land is that of these regions, and its flags are set nowhere in them
abbrev pub IsChartOf : Regions → Chart → Type 0
IsChartOf rs chart = IsLandOf (shape_at rs) chart.land × All (IsUnset rs) chart.unset.items
