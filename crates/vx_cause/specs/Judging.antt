-- Which moves of pistons the policy permits.
use Rattle.std.specs.Prelude.{List, [], ◌∷◌, Option, Some, None}
use Rattle.vx_flag.specs.declared.action.Action.TheVariants.{Pushing}
use Rattle.vx_geom.specs.declared.pos.Pos.{Pos}
use Rattle.vx_region.specs.Regions.{Regions}
use Rattle.vx_region.specs.Subjects.{Machine}
use Rattle.vx_decide.specs.declared.rule.Rule.{Rule}
use Rattle.vx_decide.specs.declared.verdict.Verdict.{Verdict}
use Rattle.vx_decide.specs.declared.verdict.Verdict.TheVariants.{Permit, Deny}
use Rattle.vx_decide.specs.Verdict.{verdict}
use Rattle.vx_piston.specs.Moves.{Moving}

-- what the policy says to the machine at q on a piston's move at p
abbrev pub pushing_verdict : Regions → Pos → Pos → Verdict
pushing_verdict rs q p = verdict rs (Machine q) Pushing p

-- a cell that is denied is the first, with its rule; else the first is among the rest
abbrev pub denied_at : Pos → Verdict → Option (Pos × Rule) → Option (Pos × Rule)
denied_at p (Deny rule) rest = Some (p, rule)
denied_at p (Permit rule) rest = rest

-- the first of these cells that the policy denies to the machine at q, and the rule that says so
unfoldable pub first_denied : Regions → Pos → List Pos → Option (Pos × Rule)
first_denied rs q [] = None
first_denied rs q (p ∷ ps) = denied_at p (pushing_verdict rs q p) (first_denied rs q ps)

-- the first cell of a move that the policy denies to the machine that makes it, with its rule
unfoldable pub denial : Regions → Moving → Option (Pos × Rule)
denial rs m = first_denied rs m.at m.cells
