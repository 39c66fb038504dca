-- What holds of the moves that the policy permits, and of those that it denies.
use Rattle.std.specs.Prelude.{◌≡◌, ◌≢◌, ◌↔◌, Bool, true, false, List, ◌∷◌, ◌++◌, Option, Some, None}
use Rattle.std.specs.List.{filter}
use Rattle.std.specs.Option.{is_none}
use Rattle.vx_geom.specs.declared.pos.Pos.{Pos}
use Rattle.vx_geom.specs.Order.{comes_before}
use Rattle.vx_region.specs.Regions.{Regions}
use Rattle.vx_decide.specs.declared.rule.Rule.{Rule}
use Rattle.vx_decide.specs.declared.verdict.Verdict.{Verdict}
use Rattle.vx_decide.specs.declared.verdict.Verdict.TheVariants.{Permit, Deny}
use Rattle.vx_power.specs.Levels.{has}
use Rattle.vx_power.specs.Walks.{IsAmong}
use Rattle.vx_piston.specs.Claims.{shares, beats, IsBeatenBy}
use Rattle.vx_piston.specs.Moves.{Moving}
use Rattle.vx_cause.specs.Judging.{pushing_verdict, denial}

-- the verdict permits, by some rule
abbrev pub IsPermit : Verdict → Type 0
IsPermit v = (rule : Rule) × (v ≡ Permit rule)

-- the verdict denies, by some rule
abbrev pub IsDeny : Verdict → Type 0
IsDeny v = (rule : Rule) × (v ≡ Deny rule)

-- the policy denies the machine at q this one of the cells by this rule, and permits it each cell
-- before
pub record IsFirstDenied (rs : Regions) (q : Pos) (cells : List Pos) (p : Pos)
    (rule : Rule) : Type 0 where
  pub before : List Pos
  pub after : List Pos
  pub parts : cells ≡ before ++ (p ∷ after)
  pub denied : pushing_verdict rs q p ≡ Deny rule
  pub others : (r : Pos) → IsAmong before r → IsPermit (pushing_verdict rs q r)

-- what denies a move is its first cell that is denied
abbrev pub DenialIsOfFirstDenied : Type 0
DenialIsOfFirstDenied = (rs : Regions) (m : Moving) (p : Pos) (rule : Rule)
    → denial rs m ≡ Some (p, rule) → IsFirstDenied rs m.at m.cells p rule

-- and no other is
abbrev pub FirstDeniedIsDenial : Type 0
FirstDeniedIsDenial = (rs : Regions) (m : Moving) (p : Pos) (rule : Rule)
    → IsFirstDenied rs m.at m.cells p rule → denial rs m ≡ Some (p, rule)

-- a move that is not denied is permitted cell by cell
abbrev pub PermittedCellByCell : Type 0
PermittedCellByCell = (rs : Regions) (m : Moving)
    → (denial rs m ≡ None)
    ↔ ((p : Pos) → IsAmong m.cells p → IsPermit (pushing_verdict rs m.at p))

-- the policy admits no machine from outside to a plot
abbrev pub AdmitsNoMachine : Regions → (Pos → Bool) → Type 0
AdmitsNoMachine rs is_plot = (q p : Pos) → is_plot q ≡ false → is_plot p ≡ true
    → IsDeny (pushing_verdict rs q p)

-- then no cell of the plot is taken by a permitted move of a machine outside it
abbrev pub PlotHolds : Type 0
PlotHolds = (rs : Regions) (is_plot : Pos → Bool) (m : Moving) (p : Pos)
    → AdmitsNoMachine rs is_plot → is_plot m.at ≡ false
    → denial rs m ≡ None → IsAmong m.cells p → is_plot p ≡ false

-- those of the moves that the policy permits: they alone claim their cells
abbrev pub permitted : Regions → List Moving → List Moving
permitted rs moves = filter (λ m. is_none (denial rs m)) moves

-- of all the moves of a tick this one is made: it is permitted, and nothing beats it
abbrev pub IsMade : Regions → List Moving → Moving → Type 0
IsMade rs moves m = IsAmong moves m × (denial rs m ≡ None) × IsBeatenBy (permitted rs moves) m None

-- who beats a move is a piston whose move is permitted
abbrev pub BeatenByPermitted : Type 0
BeatenByPermitted = (rs : Regions) (moves : List Moving) (m : Moving) (q : Pos)
    → IsBeatenBy (permitted rs moves) m (Some q)
    → (claim : Moving) × IsAmong moves claim × (denial rs claim ≡ None)
    × (beats claim m ≡ true) × (claim.at ≡ q)

-- a permitted move beats each later one that shares a cell with it; that another beats it too
-- plays no part
abbrev pub BeatenStillBeats : Type 0
BeatenStillBeats = (rs : Regions) (moves : List Moving) (claim m : Moving)
    (by beaten : Option Pos)
    → IsAmong moves claim → denial rs claim ≡ None
    → IsBeatenBy (permitted rs moves) claim by
    → comes_before claim.at m.at ≡ true → shares claim m ≡ true
    → IsBeatenBy (permitted rs moves) m beaten → beaten ≢ None

-- no cell is taken by two moves that are made
abbrev pub MovedAreApart : Type 0
MovedAreApart = (rs : Regions) (moves : List Moving) (a b : Moving) (p : Pos)
    → a.at ≢ b.at → IsMade rs moves a → IsMade rs moves b
    → has a.cells p ≡ true → has b.cells p ≡ false

-- of two moves that share a cell at most one is made
abbrev pub MovedShareNoCell : Type 0
MovedShareNoCell = (rs : Regions) (moves : List Moving) (a b : Moving)
    → a.at ≢ b.at → IsMade rs moves a → IsMade rs moves b → shares a b ≡ false
