use Rattle.vx_flag.specs.declared.action.Action.{Action}
use Rattle.vx_flag.specs.declared.flag.Flag.{Flag}
use Rattle.vx_flag.specs.Action.{flag_of_action}
use Rattle.vx_geom.specs.declared.pos.Pos.{Pos}
use Rattle.vx_region.specs.Regions.{Regions}
use Rattle.vx_region.specs.Subjects.{Actor}
use Rattle.vx_decide.specs.declared.answer.Answer.{Answer}
use Rattle.vx_decide.specs.declared.rule.Rule.TheVariants as rule
use Rattle.vx_decide.specs.declared.verdict.Verdict.{Verdict}
use Rattle.vx_decide.specs.Cases.{Case, case_at}
use Rattle.vx_decide.specs.Query.{query}
use Rattle.vx_decide.specs.Build.{ruled, by_answer, build}

-- an answer on an action's own flag as a verdict
abbrev pub by_flag : Flag → Answer → Verdict
by_flag f answer = ruled answer.value.state (rule.Flag f answer.at answer.value.from)

-- by the flag, and where that is not set by building
unfoldable pub decided_by : Flag → Case → Verdict
decided_by f a = by_answer (by_flag f) (query f a) (build a)

-- what the policy says to the actor on an action at a place: by the action's own flag, and where
-- that is not set by building
unfoldable pub verdict : Regions → Actor → Action → Pos → Verdict
verdict rs s action p = decided_by (flag_of_action action) (case_at rs s p)
