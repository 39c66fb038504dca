-- A table that has for each place the level of dust there, and which places that dust links to.
use Rattle.std.specs.Prelude.{◌≡◌, ℕ, ◌/◌, ◌%◌, ◌==◌, true, if◌then◌else◌, List, [], ◌∷◌, ◌++◌}
use Rattle.vx_geom.specs.declared.pos.Pos.{Pos}
use Rattle.vx_block.specs.declared.cell.Cell.{Cell}
use Rattle.vx_block.specs.Components.{is_dust}
use Rattle.vx_block.specs.declared.side.Side.{Side}
use Rattle.vx_block.specs.declared.side.Side.TheVariants.{East, West, South, North}
use Rattle.vx_power.specs.Dust.{beside, over, under, links}
use Rattle.vx_power.specs.Levels.{LevelTable, level_in}

-- a word has the level in its lowest 4 bits
abbrev pub level_at : LevelTable → Pos → ℕ
level_at table p = level_in table p % 16

-- and above them 3 bits for each side, in the order east, west, south, north
abbrev pub links_at : LevelTable → Pos → ℕ
links_at table p = level_in table p / 16

-- the 3 bits of a side: a link to the dust beside, to the one over that, and to the one under it
abbrev pub linked_on : ℕ → Pos → Side → List Pos
linked_on bits p side =
    (if bits % 2 == 1 then beside p side ∷ [] else [])
    ++ ((if bits / 2 % 2 == 1 then over (beside p side) ∷ [] else [])
    ++ (if bits / 4 % 2 == 1 then under (beside p side) ∷ [] else []))

-- the places that dust at p links to by these 12 bits
abbrev pub linked : ℕ → Pos → List Pos
linked bits p =
    linked_on (bits % 8) p East
    ++ (linked_on (bits / 8 % 8) p West
    ++ (linked_on (bits / 64 % 8) p South ++ linked_on (bits / 512 % 8) p North))

-- the table has the links of dust at p
abbrev pub KnowsLinks : (Pos → Cell) → LevelTable → Pos → Type 0
KnowsLinks w table p = is_dust (w p) ≡ true → linked (links_at table p) p ≡ links w p
