-- Which piston has the cells that two want.
use Rattle.std.specs.Prelude.{◌≡◌, Bool, true, false, ◌&&◌, List, [], ◌∷◌, if◌then◌else◌, Option, Some, None}
use Rattle.std.specs.List.{list_any}
use Rattle.std.specs.Map.{lookup}
use Rattle.vx_geom.specs.declared.pos.Pos.{Pos}
use Rattle.vx_geom.specs.Order.{comes_before}
use Rattle.vx_power.specs.Levels.{has, same_place}
use Rattle.vx_power.specs.Walks.{IsAmong}
use Rattle.vx_piston.specs.Moves.{Moving}

-- the two moves take a cell both
unfoldable pub shares : Moving → Moving → Bool
shares a b = list_any (has a.cells) b.cells

-- a claim beats a move where its piston comes before the move's, and they share a cell; whether the
-- claim is beaten itself plays no part
unfoldable pub beats : Moving → Moving → Bool
beats claim m = comes_before claim.at m.at && shares claim m

-- the piston that beats a move is the first of those whose claims beat it; none does where no
-- claim beats it
abbrev pub IsBeatenBy : List Moving → Moving → Option Pos → Type 0
IsBeatenBy claims m None = (claim : Moving) → IsAmong claims claim → beats claim m ≡ false
IsBeatenBy claims m (Some q) =
    ((claim : Moving) × IsAmong claims claim × (beats claim m ≡ true) × (claim.at ≡ q))
    × ((claim : Moving) → IsAmong claims claim → beats claim m ≡ true
    → comes_before claim.at q ≡ false)

-- the first of two pistons
abbrev pub first_of : Pos → Option Pos → Option Pos
first_of p None = Some p
first_of p (Some q) = if comes_before q p then Some q else Some p

-- the first of two pistons, or the one that there is
abbrev pub first_found : Option Pos → Option Pos → Option Pos
first_found None other = other
first_found (Some p) other = first_of p other

-- a piston, where it comes before another
abbrev pub before : Pos → Option Pos → Option Pos
before at None = None
before at (Some q) = if comes_before q at then Some q else None

-- the first piston with a claim that passes a test
abbrev pub first_such : (Moving → Bool) → List Moving → Option Pos
first_such test [] = None
first_such test (claim ∷ claims) =
    if test claim then first_of claim.at (first_such test claims) else first_such test claims

-- the piston that beats a move, if one does
abbrev pub beaten_by : List Moving → Moving → Option Pos
beaten_by claims m = first_such (λ claim. beats claim m) claims

-- the first piston whose claim takes a cell
abbrev pub claimant : List Moving → Pos → Option Pos
claimant claims p = first_such (λ claim. has claim.cells p) claims

-- a table that has it for each cell
abbrev pub IsTable : List Moving → List (Pos × Pos) → Type 0
IsTable claims table = (p : Pos) → lookup (same_place p) table ≡ claimant claims p
