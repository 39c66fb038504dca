-- What is known of moves by which claims beat them.
use Rattle.std.specs.Prelude.{◌≡◌, ◌≢◌, true, false, List, Option, None}
use Rattle.vx_geom.specs.declared.pos.Pos.{Pos}
use Rattle.vx_geom.specs.Order.{comes_before}
use Rattle.vx_power.specs.Levels.{has}
use Rattle.vx_power.specs.Walks.{IsAmong}
use Rattle.vx_piston.specs.Claims.{shares, IsBeatenBy}
use Rattle.vx_piston.specs.Moves.{Moving}

-- a move that shares a cell with a claim that comes before it is beaten
abbrev pub LaterIsBeaten : Type 0
LaterIsBeaten = (claims : List Moving) (claim m : Moving) (beaten : Option Pos)
    → IsAmong claims claim → comes_before claim.at m.at ≡ true → shares claim m ≡ true
    → IsBeatenBy claims m beaten → beaten ≢ None

-- a move that no claim beats shares no cell with a claim that comes before it
abbrev pub UnbeatenIsFirst : Type 0
UnbeatenIsFirst = (claims : List Moving) (claim m : Moving)
    → IsBeatenBy claims m None → IsAmong claims claim → comes_before claim.at m.at ≡ true
    → shares claim m ≡ false

-- two moves of different pistons that claim cells, and that no claim beats, have no cell in common
abbrev pub UnbeatenAreApart : Type 0
UnbeatenAreApart = (claims : List Moving) (a b : Moving) (p : Pos)
    → IsAmong claims a → IsAmong claims b → a.at ≢ b.at
    → IsBeatenBy claims a None → IsBeatenBy claims b None
    → has a.cells p ≡ true → has b.cells p ≡ false
