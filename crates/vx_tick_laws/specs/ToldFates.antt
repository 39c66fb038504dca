-- What is told of the moves of a tick.
use Rattle.std.specs.Prelude.{◌≡◌, ℕ, suc, true, false, List, slice_get, Some}
use Rattle.vx_geom.specs.declared.pos.Pos.{Pos}
use Rattle.vx_geom.specs.Order.{comes_before}
use Rattle.vx_cells.specs.Maps.{MapData, cell_on}
use Rattle.vx_power.specs.Laws.{dust_level}
use Rattle.vx_power.specs.Walks.{IsAmong}
use Rattle.vx_piston.specs.Moves.{Moving, candidate}
use Rattle.vx_region.specs.Regions.{Regions}
use Rattle.vx_cause.specs.Judging.{pushing_verdict}
use Rattle.vx_cause.specs.Laws.{IsPermit, IsFirstDenied}
use Rattle.vx_tick.specs.declared.fate.Fate.{Fate}
use Rattle.vx_tick.specs.declared.fate.Fate.TheVariants.{Moved, Denied, Beaten}
use Rattle.vx_tick.specs.Ticks.{IsTick}

-- the piston at its place asks for the move as the tick begins
abbrev pub IsAsked : MapData → Moving → Type 0
IsAsked m move = candidate m (dust_level (cell_on m)) move.at ≡ Some move

-- the policy permits the piston each cell of the move
abbrev pub HasLeave : Regions → Moving → Type 0
HasLeave rs move = (p : Pos) → IsAmong move.cells p → IsPermit (pushing_verdict rs move.at p)

-- another piston's move that has leave, comes before this one and takes a cell of it; what becomes
-- of it plays no part
pub record IsRival (rs : Regions) (m : MapData) (claim move : Moving) : Type 0 where
  pub asked : IsAsked m claim
  pub leave : HasLeave rs claim
  pub before : comes_before claim.at move.at ≡ true
  pub cell : Pos
  pub taken : IsAmong claim.cells cell
  pub wanted : IsAmong move.cells cell

-- the piston at q has such a move, and none that has comes before it
pub record IsFirstRival (rs : Regions) (m : MapData) (move : Moving) (q : Pos) : Type 0 where
  pub claim : Moving
  pub rival : IsRival rs m claim move
  pub at : claim.at ≡ q
  pub first : (other : Moving) → IsRival rs m other move → comes_before other.at q ≡ false

-- what becomes of a move: it is denied at its first cell that is denied; else beaten by the first
-- of its rivals; else, having none, made
abbrev pub Ends : Regions → MapData → Moving → Fate → Type 0
Ends rs m move (Denied p rule) = IsFirstDenied rs move.at move.cells p rule
Ends rs m move (Beaten q) = HasLeave rs move × IsFirstRival rs m move q
Ends rs m move Moved = HasLeave rs move × ((claim : Moving) → IsRival rs m claim move → ⊥)

-- what is told of a piston is what becomes of the move that it asks for
abbrev pub ToldAreEnds : (rs : Regions) (m next : MapData) (fates : List (Pos × Fate))
    → IsTick rs m next fates → Type 0
ToldAreEnds rs m next fates tick = (q : Pos) (fate : Fate) → IsAmong fates (q, fate)
    → (move : Moving) × (move.at ≡ q) × IsAsked m move × Ends rs m move fate

-- and what becomes of each move that is asked for is told
abbrev pub EndsAreTold : (rs : Regions) (m next : MapData) (fates : List (Pos × Fate))
    → IsTick rs m next fates → Type 0
EndsAreTold rs m next fates tick = (move : Moving) (fate : Fate)
    → IsAsked m move → Ends rs m move fate → IsAmong fates (move.at, fate)

-- of two that are told one after the other the first piston's position comes before the second's
abbrev pub ToldInOrder : (rs : Regions) (m next : MapData) (fates : List (Pos × Fate))
    → IsTick rs m next fates → Type 0
ToldInOrder rs m next fates tick = (n : ℕ) (a b : Pos × Fate)
    → slice_get fates n ≡ Some a → slice_get fates (suc n) ≡ Some b
    → comes_before a.0 b.0 ≡ true
