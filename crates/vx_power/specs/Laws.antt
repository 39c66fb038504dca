use Rattle.std.specs.Prelude.{◌≡◌, ℕ, ◌+◌, ◌≤◌, Bool, true, false, ◌||◌}
use Rattle.vx_geom.specs.declared.pos.Pos.{Pos}
use Rattle.vx_block.specs.declared.cell.Cell.{Cell}
use Rattle.vx_block.specs.declared.side.Side.{Side}
use Rattle.vx_block.specs.Sides.{side_back, side_right}
use Rattle.vx_power.specs.Dust.{links, joins, points}
use Rattle.vx_power.specs.Signals.{is_fed}
use Rattle.vx_power.specs.Walks.{level_of, IsAmong, IsLevel}

-- the level of dust on a map
abbrev pub dust_level : (Pos → Cell) → Pos → ℕ
dust_level w p = level_of (is_fed w) (links w) p

-- it is 15 less the length of the shortest walk of links to fed dust, where that is less than 15;
-- else 0
abbrev pub LevelsAreWalks : Type 0
LevelsAreWalks = (w : Pos → Cell) (p : Pos) → IsLevel (is_fed w) (links w) p (dust_level w p)

-- it falls by at most one with each link
abbrev pub LevelsFallByOne : Type 0
LevelsFallByOne = (w : Pos → Cell) (p q : Pos)
    → IsAmong (links w p) q → dust_level w q ≤ dust_level w p + 1

-- a link leads back as well
abbrev pub LinksLeadBack : Type 0
LinksLeadBack = (w : Pos → Cell) (p q : Pos) → IsAmong (links w p) q → IsAmong (links w q) p

-- dust joins something on the axis of that side
abbrev pub joins_along : (Pos → Cell) → Pos → Side → Bool
joins_along w p side = joins w p side || joins w p (side_back side)

-- dust that joins nothing points to all four sides
abbrev pub PointsToAll : Type 0
PointsToAll = (w : Pos → Cell) (p : Pos)
    → ((side : Side) → joins w p side ≡ false) → (side : Side) → points w p side ≡ true

-- dust that joins something on one axis only points to both ends of it, and to no other side
abbrev pub PointsAlong : Type 0
PointsAlong = (w : Pos → Cell) (p : Pos) (side : Side)
    → joins_along w p side ≡ true → joins_along w p (side_right side) ≡ false
    → (points w p side ≡ true) × (points w p (side_back side) ≡ true)
    × (points w p (side_right side) ≡ false) × (points w p (side_back (side_right side)) ≡ false)

-- dust that joins something on both axes points to what it joins
abbrev pub PointsToJoins : Type 0
PointsToJoins = (w : Pos → Cell) (p : Pos) (side : Side)
    → joins_along w p (side_right side) ≡ true → points w p side ≡ joins w p side
