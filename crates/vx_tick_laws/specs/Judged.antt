-- Whom the policy is asked about a piston's move, and what it is asked.
use Rattle.std.specs.Prelude.{◌≡◌, ◌↔◌}
use Rattle.vx_flag.specs.declared.flag.Flag.TheVariants.{Pistons}
use Rattle.vx_flag.specs.declared.state.State.{State}
use Rattle.vx_flag.specs.declared.state.State.TheVariants as state
use Rattle.vx_geom.specs.declared.pos.Pos.{Pos}
use Rattle.vx_region.specs.Regions.{Regions}
use Rattle.vx_region.specs.Subjects.{Machine}
use Rattle.vx_decide.specs.declared.rule.Rule.{Rule}
use Rattle.vx_decide.specs.declared.verdict.Verdict.TheVariants.{Permit, Deny}
use Rattle.vx_decide.specs.Rulings.{RuleHolds}
use Rattle.vx_cause.specs.Judging.{pushing_verdict}

-- what the rule says, on the flag for pistons, to the machine that stands at q about the cell at p
abbrev pub RulesPiston : Regions → Pos → Pos → State → Rule → Type 0
RulesPiston rs q p says rule =
    RuleHolds Pistons (record { regions = rs; actor = Machine q; place = p }) says rule

-- what the policy says on a move of the piston at q, for a cell of it, is what the rules on pistons
-- say to that machine there
pub record IsJudgedByPlace (rs : Regions) (q p : Pos) (rule : Rule) : Type 0 where
  pub denied : (pushing_verdict rs q p ≡ Deny rule) ↔ RulesPiston rs q p state.Deny rule
  pub permitted : (pushing_verdict rs q p ≡ Permit rule) ↔ RulesPiston rs q p state.Allow rule

abbrev pub PistonsAreJudgedByPlace : Type 0
PistonsAreJudgedByPlace = (rs : Regions) (q p : Pos) (rule : Rule) → IsJudgedByPlace rs q p rule
