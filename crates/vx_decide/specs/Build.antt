use Rattle.std.specs.Prelude.{ℕ, Bool, true, false, not, ◌&&◌, ◌||◌, if◌then◌else◌, Option, Some, None}
use Rattle.vx_flag.specs.declared.association.Association.{Association}
use Rattle.vx_flag.specs.declared.association.Association.TheVariants.{Owner, Member, Stranger}
use Rattle.vx_flag.specs.declared.flag.Flag.TheVariants.{Build, Passthrough}
use Rattle.vx_flag.specs.declared.state.State.{State}
use Rattle.vx_flag.specs.declared.state.State.TheVariants.{Allow, Deny}
use Rattle.vx_region.specs.Regions.{Entry}
use Rattle.vx_region.specs.Association.{association}
use Rattle.vx_decide.specs.declared.answer.Answer.{Answer}
use Rattle.vx_decide.specs.declared.question.Question.TheVariants as question
use Rattle.vx_decide.specs.declared.rule.Rule.{Rule}
use Rattle.vx_decide.specs.declared.rule.Rule.TheVariants as rule
use Rattle.vx_decide.specs.declared.verdict.Verdict.{Verdict}
use Rattle.vx_decide.specs.declared.verdict.Verdict.TheVariants as verdict
use Rattle.vx_decide.specs.Cases.{Case}
use Rattle.vx_decide.specs.Effective.{region_no, effective, is_deny}
use Rattle.vx_decide.specs.Query.{is_top, answer_at, decided}
use Rattle.vx_decide.specs.RegionGroups.{is_above_one, least}

-- an owner or a member
abbrev pub is_insider : Association → Bool
is_insider Owner = true
is_insider Member = true
is_insider Stranger = false

-- the actor is an owner or a member of the region of the number
unfoldable pub admits : Case → ℕ → Bool
admits a n = is_insider (association a.regions a.actor n)

-- a region of highest priority on building that admits the actor
unfoldable pub is_home : Case → Entry → Bool
is_home a e = admits a e.0 && is_top question.OnBuilding a e

-- the region of the number admits the actor, or is an ancestor of one that does
unfoldable pub is_satisfied : Case → ℕ → Bool
is_satisfied a n = admits a n || is_above_one (is_home a) a.regions n

-- a region of highest priority on building that is not satisfied
unfoldable pub is_failing : Case → Entry → Bool
is_failing a e = is_top question.OnBuilding a e && not (is_satisfied a e.0)

unfoldable pub first_failing : Case → Option ℕ
first_failing a = least (is_failing a) a.regions.entries

unfoldable pub first_home : Case → Option ℕ
first_home a = least (is_home a) a.regions.entries

-- membership in the region of the number
abbrev pub member_at : ℕ → Rule
member_at n = rule.Member (region_no n)

-- a state as the verdict by a rule
abbrev pub ruled : State → Rule → Verdict
ruled Allow r = verdict.Permit r
ruled Deny r = verdict.Deny r

-- an answer on building as a verdict
abbrev pub by_build : Answer → Verdict
by_build answer = ruled answer.value.state (rule.Build answer.at answer.value.from)

-- by an answer, if there is one, else otherwise
abbrev pub by_answer : (Answer → Verdict) → Option Answer → Verdict → Verdict
by_answer by (Some answer) otherwise = by answer
by_answer by None otherwise = otherwise

-- where nothing is said on building: denied by the world at large where that does not let pass,
-- else permitted
unfoldable pub by_passthrough : Case → Verdict
by_passthrough a =
    if is_deny (effective a.regions a.actor Passthrough 0)
    then verdict.Deny (member_at 0)
    else verdict.Permit rule.Default

-- where no region counts: what the world at large says on building, else whether it lets pass
unfoldable pub in_the_open : Case → Verdict
in_the_open a = by_answer by_build (answer_at a Build 0) (by_passthrough a)

-- denied by the least region that fails, else permitted by the least that admits; without either no
-- region counts
abbrev pub by_members : Option ℕ → Option ℕ → Verdict → Verdict
by_members (Some failing) home at_large = verdict.Deny (member_at failing)
by_members None (Some home) at_large = verdict.Permit (member_at home)
by_members None None at_large = at_large

unfoldable pub by_membership : Case → Verdict
by_membership a = by_members (first_failing a) (first_home a) (in_the_open a)

-- what the policy says on building: by the regions of highest priority that set the flag, else by
-- membership in them
unfoldable pub build : Case → Verdict
build a = by_answer by_build (decided question.OnBuilding a) (by_membership a)
