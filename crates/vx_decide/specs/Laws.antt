use Rattle.std.specs.Prelude.{◌≡◌, ◌≢◌, ℕ, ◌<ℤ◌, ◌≤ℤ◌, true, false, [], Some, None, Contains}
use Rattle.vx_flag.specs.declared.action.Action.{Action}
use Rattle.vx_flag.specs.declared.flag.Flag.{Flag}
use Rattle.vx_flag.specs.declared.state.State.{State}
use Rattle.vx_flag.specs.declared.state.State.TheVariants.{Deny}
use Rattle.vx_flag.specs.Action.{flag_of_action}
use Rattle.vx_flag.specs.Settings.{no_settings}
use Rattle.vx_geom.specs.declared.pos.Pos.{Pos}
use Rattle.vx_region.specs.Ancestry.{ancestors, is_under, is_above}
use Rattle.vx_region.specs.Association.{association}
use Rattle.vx_region.specs.Forest.{IsForest}
use Rattle.vx_region.specs.Regions.{Entry, Regions}
use Rattle.vx_region.specs.Subjects.{Actor}
use Rattle.vx_decide.specs.declared.answer.Answer.{Answer}
use Rattle.vx_decide.specs.declared.question.Question.{Question}
use Rattle.vx_decide.specs.declared.question.Question.TheVariants.{OnFlag}
use Rattle.vx_decide.specs.declared.rule.Rule.{Rule}
use Rattle.vx_decide.specs.declared.rule.Rule.TheVariants as rule
use Rattle.vx_decide.specs.declared.value.Value.{Value}
use Rattle.vx_decide.specs.declared.verdict.Verdict.TheVariants as verdicts
use Rattle.vx_decide.specs.Answers.{In, IsAnswer, IsInherited, MemberDenies, MemberPermits, IsTaken, Counts, SpeaksLowest, IsAtPlace, value_for, value_state}
use Rattle.vx_decide.specs.Cases.{Case, case_at}
use Rattle.vx_decide.specs.Build.{member_at, ruled, by_membership}
use Rattle.vx_decide.specs.Effective.{value_at, effective, has_value}
use Rattle.vx_decide.specs.Query.{flag_of_question, is_top, speaks, is_taken, decided}
use Rattle.vx_decide.specs.Rulings.{NothingIsSaid, RuleHolds, number_of_rule}
use Rattle.vx_decide.specs.Verdict.{verdict}

-- what is decided is an answer
abbrev pub DecidedIsAnswer : Type 0
DecidedIsAnswer = (q : Question) (a : Case) (answer : Answer)
    → decided q a ≡ Some answer → IsAnswer q a answer

-- there are no two answers
abbrev pub AnswersAreOne : Type 0
AnswersAreOne = (q : Question) (a : Case) (x y : Answer) → IsAnswer q a x → IsAnswer q a y → x ≡ y

-- an answer is decided
abbrev pub AnswerIsDecided : Type 0
AnswerIsDecided = (q : Question) (a : Case) (answer : Answer)
    → IsAnswer q a answer → decided q a ≡ Some answer

-- a region that is taken speaks, and is no ancestor of another that speaks
abbrev pub TakenSpeaksLowest : Type 0
TakenSpeaksLowest = (q : Question) (a : Case) (e : Entry) → IsTaken q a e → SpeaksLowest q a e

-- and each such region is taken
abbrev pub SpeaksLowestIsTaken : Type 0
SpeaksLowestIsTaken = (q : Question) (a : Case) (e : Entry) → SpeaksLowest q a e → IsTaken q a e

-- where a region that is taken denies, the answer denies
abbrev pub OneDenialDenies : Type 0
OneDenialDenies = (q : Question) (a : Case) (e : Entry)
    → IsTaken q a e → value_state (value_for q a e.0) ≡ Some Deny
    → (answer : Answer) × (decided q a ≡ Some answer) × (answer.value.state ≡ Deny)

-- the region that decides contains the place
abbrev pub DeciderContainsThePlace : Type 0
DeciderContainsThePlace = (q : Question) (a : Case) (answer : Answer)
    → decided q a ≡ Some answer → IsAtPlace a answer.at.0

-- none that counts has a higher priority than one of highest priority
abbrev pub TopIsHighest : Type 0
TopIsHighest = (q : Question) (a : Case) (d e : Entry)
    → Counts q a d → is_top q a e ≡ true → d.1.priority ≤ℤ e.1.priority

-- where a region of higher priority counts, this one is not of highest priority and not taken
abbrev pub HigherPriorityDecides : Type 0
HigherPriorityDecides = (q : Question) (a : Case) (d e : Entry)
    → Counts q a d → e.1.priority <ℤ d.1.priority
    → (is_top q a e ≡ false) × (is_taken q a e ≡ false)

-- an ancestor of a region that speaks is not taken
abbrev pub ChildStandsBeforeParent : Type 0
ChildStandsBeforeParent = (q : Question) (a : Case) (child parent : Entry)
    → In (speaks q a) a.regions.entries child
    → is_above a.regions parent.0 child.1 ≡ true → is_taken q a parent ≡ false

-- an ancestor of a region that counts, has a value and no lower priority is not taken
abbrev pub ChildAtTheSamePriority : Type 0
ChildAtTheSamePriority = (q : Question) (a : Case) (child parent : Entry) → Counts q a child
    → has_value a.regions a.actor (flag_of_question q) child.0 ≡ true
    → parent.1.priority ≤ℤ child.1.priority
    → is_above a.regions parent.0 child.1 ≡ true → is_taken q a parent ≡ false

-- a value is that of the nearest region of the ancestry that sets one for the actor, and of no
-- other
abbrev pub ValueIsInherited : Type 0
ValueIsInherited = (rs : Regions) (s : Actor) (f : Flag) (n : ℕ) (v : Value)
    → effective rs s f n ≡ Some v → IsInherited rs s f n v

abbrev pub InheritedIsTheValue : Type 0
InheritedIsTheValue = (rs : Regions) (s : Actor) (f : Flag) (n : ℕ) (v : Value)
    → IsInherited rs s f n v → effective rs s f n ≡ Some v

-- a value is set in the region itself or in one of its ancestors
abbrev pub ValueIsFromTheAncestry : Type 0
ValueIsFromTheAncestry = (rs : Regions) (s : Actor) (f : Flag) (n : ℕ) (v : Value)
    → effective rs s f n ≡ Some v
    → is_under rs n v.from.0 ≡ true

-- where there is no value, none of the ancestry sets one
abbrev pub NoValueIsSet : Type 0
NoValueIsSet = (rs : Regions) (s : Actor) (f : Flag) (n m : ℕ)
    → effective rs s f n ≡ None → Contains (ancestors rs n) m
    → value_at rs f (association rs s n) m ≡ None

-- where membership in a region denies, that region fails, and is the least that does
abbrev pub MembershipDeniesWhereOneFails : Type 0
MembershipDeniesWhereOneFails = (a : Case) (n : ℕ)
    → by_membership a ≡ verdicts.Deny (member_at n) → n ≢ 0 → MemberDenies a n

-- where membership in a region permits, that region admits the actor, and every region of highest
-- priority is satisfied
abbrev pub MembershipPermitsWhereNoneFails : Type 0
MembershipPermitsWhereNoneFails = (a : Case) (n : ℕ)
    → by_membership a ≡ verdicts.Permit (member_at n) → MemberPermits a n

-- the rule that a verdict names holds
abbrev pub RuleOfTheVerdictHolds : Type 0
RuleOfTheVerdictHolds = (rs : Regions) (s : Actor) (action : Action) (p : Pos)
    (state : State) (r : Rule)
    → verdict rs s action p ≡ ruled state r
    → RuleHolds (flag_of_action action) (case_at rs s p) state r

-- and no other does
abbrev pub RuleThatHoldsIsTheVerdict : Type 0
RuleThatHoldsIsTheVerdict = (rs : Regions) (s : Actor) (action : Action) (p : Pos)
    (state : State) (r : Rule)
    → RuleHolds (flag_of_action action) (case_at rs s p) state r
    → verdict rs s action p ≡ ruled state r

-- the region that a verdict names contains the place
abbrev pub VerdictNamesARegionAtThePlace : Type 0
VerdictNamesARegionAtThePlace = (rs : Regions) (s : Actor) (action : Action) (p : Pos)
    (state : State) (r : Rule)
    → verdict rs s action p ≡ ruled state r
    → number_of_rule r ≢ 0 → IsAtPlace (case_at rs s p) (number_of_rule r)

-- where nothing is said, all is permitted
abbrev pub NothingSaidPermits : Type 0
NothingSaidPermits = (rs : Regions) (s : Actor) (action : Action) (p : Pos)
    → NothingIsSaid (flag_of_action action) (case_at rs s p)
    → verdict rs s action p ≡ verdicts.Permit rule.Default

-- where there is no region and the world at large sets nothing, everything is permitted to everyone
-- everywhere
abbrev pub EmptyWorldPermitsAll : Type 0
EmptyWorldPermitsAll = (rs : Regions) (s : Actor) (action : Action) (p : Pos)
    → rs.entries ≡ [] → rs.global ≡ no_settings
    → verdict rs s action p ≡ verdicts.Permit rule.Default

-- where some region at the place has a value for a flag, the regions there decide on it
abbrev pub ValuesAtThePlaceDecide : Type 0
ValuesAtThePlaceDecide = (f : Flag) (a : Case) (e : Entry)
    → IsForest a.regions → Counts (OnFlag f) a e
    → (answer : Answer) × (decided (OnFlag f) a ≡ Some answer)

-- only where nothing is said is the verdict by default
abbrev pub DefaultOnlyWhereNothingIsSaid : Type 0
DefaultOnlyWhereNothingIsSaid = (rs : Regions) (s : Actor) (action : Action) (p : Pos) → IsForest rs
    → verdict rs s action p ≡ verdicts.Permit rule.Default
    → NothingIsSaid (flag_of_action action) (case_at rs s p)
