-- How a world opens.
use Rattle.std.specs.Prelude.{◌≡◌, ℕ, List, Option, None, true, option_map}
use Rattle.vx_geom.specs.declared.pos.Pos.{Pos}
use Rattle.vx_geom.specs.Sizes.{Sizes, is_inside}
use Rattle.vx_block.specs.declared.part.Part.{Part}
use Rattle.vx_block.specs.Part.{part_cell}
use Rattle.vx_cells.specs.Maps.{MapData}
use Rattle.vx_cells.specs.Wholes.{bare, with_cell_on}
use Rattle.vx_region.specs.Regions.{Regions}
use Rattle.vx_sector.specs.declared.refusal.Refusal.{Refusal}
use Rattle.vx_sector.specs.declared.refusal.Refusal.TheVariants.{OutOfWorld, NoMemory}

-- its terrain, its players' names in order of their seats, and its policy
pub record OpeningData : Type 0 where
  pub terrain : MapData
  pub names : List (List ℕ)
  pub policy : Regions

-- nothing but air
abbrev pub bare_opening : Sizes → List (List ℕ) → Regions → OpeningData
bare_opening sizes names policy =
    record { terrain = bare sizes; names = names; policy = policy }

-- with a part at a position of its terrain, in place of what was there; none outside the world
abbrev pub with_part : OpeningData → Pos → Part → Option OpeningData
with_part o p part =
    option_map (λ (m : MapData). record o { terrain = m })
    (with_cell_on o.terrain p (part_cell part))

-- why a part was not put there: outside the world, or for want of memory, which is told inside it
-- alone
abbrev pub IsUnset : OpeningData → Pos → Part → Refusal → Type 0
IsUnset o p part OutOfWorld = with_part o p part ≡ None
IsUnset o p part NoMemory = is_inside o.terrain.sizes p ≡ true
IsUnset o p part other = ⊥
