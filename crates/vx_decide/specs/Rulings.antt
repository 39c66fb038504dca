use Rattle.std.specs.Prelude.{◌≡◌, ◌⊎◌, ℕ, Some, None}
use Rattle.vx_flag.specs.declared.flag.Flag.{Flag}
use Rattle.vx_flag.specs.declared.flag.Flag.TheVariants.{Build, Passthrough}
use Rattle.vx_flag.specs.declared.state.State.{State}
use Rattle.vx_flag.specs.declared.state.State.TheVariants.{Allow, Deny}
use Rattle.vx_region.specs.declared.region_no.RegionNo.{RegionNo}
use Rattle.vx_region.specs.Regions.{Entry}
use Rattle.vx_decide.specs.declared.answer.Answer.{Answer}
use Rattle.vx_decide.specs.declared.question.Question.{Question}
use Rattle.vx_decide.specs.declared.question.Question.TheVariants.{OnFlag, OnBuilding}
use Rattle.vx_decide.specs.declared.rule.Rule.{Rule}
use Rattle.vx_decide.specs.declared.rule.Rule.TheVariants as rule
use Rattle.vx_decide.specs.Answers.{IsTaken, Counts, IsAnswer, MemberDenies, MemberPermits, value_state}
use Rattle.vx_decide.specs.Cases.{Case}
use Rattle.vx_decide.specs.Effective.{effective}

-- no region is taken on the question
abbrev pub NoneIsTaken : Question → Case → Type 0
NoneIsTaken q a = (e : Entry) → IsTaken q a e → ⊥

-- no region at the place has a say on the question
abbrev pub NoneCounts : Question → Case → Type 0
NoneCounts q a = (e : Entry) → Counts q a e → ⊥

-- the world at large has no value for the flag
abbrev pub IsUnsetAtLarge : Flag → Case → Type 0
IsUnsetAtLarge f a = effective a.regions a.actor f 0 ≡ None

-- the world at large does not let pass
abbrev pub IsClosedAtLarge : Case → Type 0
IsClosedAtLarge a = value_state (effective a.regions a.actor Passthrough 0) ≡ Some Deny

-- the answer is that of the world at large
pub record IsWorldAnswer (f : Flag) (a : Case) (answer : Answer) : Type 0 where
  pub at : answer.at.0 ≡ 0
  pub value : effective a.regions a.actor f 0 ≡ Some answer.value

-- the flag answers: by the regions at the place, and where none is taken by the world at large
abbrev pub FlagAnswers : Flag → Case → Answer → Type 0
FlagAnswers f a answer =
    IsAnswer (OnFlag f) a answer ⊎ (NoneIsTaken (OnFlag f) a × IsWorldAnswer f a answer)

-- the flag does not answer: no region is taken on it, and the world at large has no value
pub record FlagIsSilent (f : Flag) (a : Case) : Type 0 where
  pub regions : NoneIsTaken (OnFlag f) a
  pub at_large : IsUnsetAtLarge f a

-- the flag `build` answers: by the regions at the place, and where none counts on building by the
-- world at large
abbrev pub BuildAnswers : Case → Answer → Type 0
BuildAnswers a answer =
    IsAnswer OnBuilding a answer ⊎ (NoneCounts OnBuilding a × IsWorldAnswer Build a answer)

-- no region counts on building, and the world at large has no value for `build`
pub record BuildIsSilent (a : Case) : Type 0 where
  pub regions : NoneCounts OnBuilding a
  pub at_large : IsUnsetAtLarge Build a

-- an answer by its parts
abbrev pub answer_from_parts : RegionNo → State → RegionNo → Answer
answer_from_parts at s from = record { at = at; value = record { state = s; from = from } }

-- the action's own flag decides
pub record ByFlag (f : Flag) (a : Case) (answer : Answer) (g : Flag) : Type 0 where
  pub flag : g ≡ f
  pub answers : FlagAnswers f a answer

-- the action's own flag does not answer, and the flag `build` decides
pub record ByBuild (f : Flag) (a : Case) (answer : Answer) : Type 0 where
  pub silent : FlagIsSilent f a
  pub answers : BuildAnswers a answer

-- the action's own flag does not answer, no region is taken on building, and membership denies; or
-- no region counts there, and the world at large does not let pass
pub record ByNoMember (f : Flag) (a : Case) (n : ℕ) : Type 0 where
  pub silent : FlagIsSilent f a
  pub unset : NoneIsTaken OnBuilding a
  pub denies : MemberDenies a n ⊎ ((n ≡ 0) × BuildIsSilent a × IsClosedAtLarge a)

-- the action's own flag does not answer, no region is taken on building, and membership permits
pub record ByMember (f : Flag) (a : Case) (n : ℕ) : Type 0 where
  pub silent : FlagIsSilent f a
  pub unset : NoneIsTaken OnBuilding a
  pub permits : MemberPermits a n

-- the action's own flag and `build` do not answer, and the world at large lets pass
pub record ByDefault (f : Flag) (a : Case) : Type 0 where
  pub silent : FlagIsSilent f a
  pub building : BuildIsSilent a
  pub passing : IsClosedAtLarge a → ⊥

-- no region at the place has a say on the flag or on building, and the world at large says nothing
-- either
pub record NothingIsSaid (f : Flag) (a : Case) : Type 0 where
  pub regions : NoneCounts (OnFlag f) a
  pub at_large : IsUnsetAtLarge f a
  pub building : BuildIsSilent a
  pub passing : IsClosedAtLarge a → ⊥

-- what is so where the rule decides for this state on an action with the flag
abbrev pub RuleHolds : Flag → Case → State → Rule → Type 0
RuleHolds f a s (rule.Flag g at from) = ByFlag f a (answer_from_parts at s from) g
RuleHolds f a s (rule.Build at from) = ByBuild f a (answer_from_parts at s from)
RuleHolds f a Deny (rule.Member at) = ByNoMember f a at.0
RuleHolds f a Allow (rule.Member at) = ByMember f a at.0
RuleHolds f a Deny rule.Default = ⊥
RuleHolds f a Allow rule.Default = ByDefault f a

-- the number of the region at which a rule decides, 0 for the world at large
abbrev pub number_of_rule : Rule → ℕ
number_of_rule (rule.Flag f at from) = at.0
number_of_rule (rule.Build at from) = at.0
number_of_rule (rule.Member at) = at.0
number_of_rule rule.Default = 0
