-- Dust that no device heeds, and what is kept of the dust of a map.
use Rattle.std.specs.Prelude.{◌≡◌, true, false, List, []}
use Rattle.vx_geom.specs.declared.pos.Pos.{Pos}
use Rattle.vx_geom.specs.declared.dir.Dir.{Dir}
use Rattle.vx_geom.specs.Neighbor.{neighbor}
use Rattle.vx_block.specs.Components.{is_device, is_dust}
use Rattle.vx_block.specs.Conductors.{conducts}
use Rattle.vx_cells.specs.Maps.{MapData, cell_on}
use Rattle.vx_levels.specs.Repairs.{IsRight}
use Rattle.vx_places.specs.Places.{PlacesData, is_at}
use Rattle.vx_power.specs.Levels.{has}
use Rattle.vx_power.specs.Local.{is_touched}
use Rattle.vx_power.specs.Turning.{EachHeeded}
use Rattle.vx_still.specs.declared.kept_dust.KeptDust.{KeptDust}

-- no device heeds what stands at p
abbrev pub IsUnheeded : MapData → Pos → Type 0
IsUnheeded m p = EachHeeded (cell_on m) p (λ q. is_device (cell_on m q) ≡ false)

-- none does in one direction
abbrev pub NoneBeside : MapData → Pos → Dir → Type 0
NoneBeside m p d =
    (is_device (cell_on m (neighbor p d)) ≡ false)
    × ((e : Dir) → conducts (cell_on m (neighbor p d)) ≡ true
    → is_device (cell_on m (neighbor (neighbor p d) e)) ≡ false)

-- these positions have dust that no device heeds, but where something was rebuilt, or is seen that was
pub record AreUnheeded (m : MapData) (rebuilt : List Pos) (places : PlacesData) : Type 0 where
  pub dust : (p : Pos) → is_at places p ≡ true → has rebuilt p ≡ false
      → is_dust (cell_on m p) ≡ true
  pub each : (p : Pos) → is_at places p ≡ true → is_touched (has rebuilt) p ≡ false
      → IsUnheeded m p

-- levels with their links, and dust that no device heeds, are those of a map
pub record IsKept (m : MapData) (dust : KeptDust) : Type 0 where
  pub right : IsRight (cell_on m) dust.levels
  pub unheeded : AreUnheeded m [] dust.unheeded
