-- The verdict is by the rule that holds.
use Rattle.std.proofs.Common.{◌≡◌, ◌≢◌, inl, inr, ℕ, Bool, true, false, if◌then◌else◌, Option, Some, None, option_map, refl, ap, sym, ◌∙◌, subst, true≢false}
use Rattle.std.specs.Option.{option_or}
use Rattle.std.proofs.lemmas.Bool.{false_from_ne_true}
use Rattle.vx_flag.specs.declared.flag.Flag.{Flag}
use Rattle.vx_flag.specs.declared.flag.Flag.TheVariants.{Build, Passthrough}
use Rattle.vx_flag.specs.declared.state.State.{State}
use Rattle.vx_flag.specs.declared.state.State.TheVariants.{Allow, Deny}
use Rattle.vx_flag.specs.Action.{flag_of_action}
use Rattle.vx_region.specs.Regions.{Entry}
use Rattle.vx_decide.specs.declared.answer.Answer.{Answer}
use Rattle.vx_decide.specs.declared.question.Question.{Question}
use Rattle.vx_decide.specs.declared.question.Question.TheVariants.{OnFlag, OnBuilding}
use Rattle.vx_decide.specs.declared.rule.Rule.{Rule}
use Rattle.vx_decide.specs.declared.rule.Rule.TheVariants as rule
use Rattle.vx_decide.specs.declared.value.Value.{Value}
use Rattle.vx_decide.specs.declared.verdict.Verdict.{Verdict}
use Rattle.vx_decide.specs.declared.verdict.Verdict.TheVariants as verdicts
use Rattle.vx_decide.specs.Answers.{In, Counts, IsAnswer, IsAtPlace, OnTop, IsSatisfied, MemberDenies, MemberPermits, IsLeast}
use Rattle.vx_decide.specs.Cases.{Case}
use Rattle.vx_decide.specs.Build.{admits, is_failing, is_home, first_failing, first_home, member_at, ruled, by_build, by_answer, by_passthrough, in_the_open, by_members, by_membership, build}
use Rattle.vx_decide.specs.Effective.{region_no, effective, is_deny}
use Rattle.vx_decide.specs.Laws.{RuleOfTheVerdictHolds, RuleThatHoldsIsTheVerdict, VerdictNamesARegionAtThePlace}
use Rattle.vx_decide.specs.Query.{counts, is_top, answer_at, decided, query}
use Rattle.vx_decide.specs.Rulings.{NoneIsTaken, NoneCounts, IsUnsetAtLarge, IsClosedAtLarge, IsWorldAnswer, FlagAnswers, FlagIsSilent, BuildAnswers, BuildIsSilent, answer_from_parts, ByDefault, RuleHolds, number_of_rule}
use Rattle.vx_decide.specs.Verdict.{by_flag, decided_by, verdict}
use Rattle.vx_decide.proofs.Answering.{answer_parts, answer_from, decided_is, decided_some, answer_decided}
use Rattle.vx_decide.proofs.Membership.{fails, failing, unsatisfied, home_from, home_parts, denies_membership, permits_membership, satisfied_where_none_fails}
use Rattle.vx_decide.proofs.Picks.{greatest, least_at, no_least, least_none}
use Rattle.vx_decide.proofs.Ranks.{top_from, taken_top}
use Rattle.vx_decide.proofs.Taken.{top_parts, taken_contains, denies, denied}

-- a verdict by a rule that holds
record Ruling (f : Flag) (a : Case) (v : Verdict) : Type 0 where
  state : State
  named : Rule
  is : v ≡ ruled state named
  holds : RuleHolds f a state named

-- where some region counts, one is of highest priority
pub some_on_top : (q : Question) (a : Case) (e : Entry) → Counts q a e → (t : Entry) × In (is_top q a) a.regions.entries t
some_on_top q a e is =
    let most = greatest (λ d. d.1.priority) (counts q a) a.regions.entries e is in
    (most.entry, record { among = most.member.among; passes = top_from q a most.entry most.member.passes most.highest })

-- where none is decided, none is taken, and the other way round
pub none_taken : (q : Question) (a : Case) → decided q a ≡ None → NoneIsTaken q a
none_taken q a none e taken = let some = decided_some q a e taken in cc

pub none_decided : (q : Question) (a : Case) → NoneIsTaken q a → decided q a ≡ None
none_decided q a none = by (decided q a) refl
  where
    by : (o : Option Answer) → decided q a ≡ o → o ≡ None
    by None is = refl
    by (Some answer) is = let it = decided_is q a answer is in absurd (none (answer.at.0, it.region) it.taken)

-- where none fails and none admits, no region counts
none_counts : (a : Case) → first_failing a ≡ None → first_home a ≡ None → NoneCounts OnBuilding a
unfolding first_home
none_counts a sound homeless e is =
    let top = some_on_top OnBuilding a e is in
    let nobody = λ (d : Entry) (t : OnTop a d) (insider : admits a d.0 ≡ true).
    least_none (is_home a) a.regions.entries d homeless (record { among = t.among; passes = home_from a d insider t.passes }) in
    elim (satisfied_where_none_fails a top.0 sound top.1) [
      | inl insider ↦ nobody top.0 top.1 insider
      | inr below ↦ nobody below.0 below.1 below.2
    ]

-- what the world at large answers
world_answers : (f : Flag) (a : Case) (answer : Answer) → answer_at a f 0 ≡ Some answer → IsWorldAnswer f a answer
world_answers f a answer is = let parts = answer_parts (OnFlag f) a 0 answer is in record { at = sym parts.0; value = parts.1 }

world_answer_is : (f : Flag) (a : Case) (answer : Answer) → IsWorldAnswer f a answer → answer_at a f 0 ≡ Some answer
world_answer_is f a answer is =
    answer_from (OnFlag f) a 0 answer.value is.value
    ∙ ap (λ n. Some (record { at = region_no n; value = answer.value })) (sym is.at)

-- where it does not answer, it has no value
unset_at_large : (f : Flag) (a : Case) → answer_at a f 0 ≡ None → IsUnsetAtLarge f a
unfolding answer_at
unset_at_large f a is = by (effective a.regions a.actor f 0) is
  where
    by : (o : Option Value) → option_map {U = Answer} (λ v. record { at = region_no 0; value = v }) o ≡ None → o ≡ None
    by None none = refl
    by (Some v) none = cc

unset_is : (f : Flag) (a : Case) → IsUnsetAtLarge f a → answer_at a f 0 ≡ None
unfolding answer_at
unset_is f a is = ap (option_map {U = Answer} (λ v. record { at = region_no 0; value = v })) is

-- where no region counts on building, what the world at large says is by a rule that holds
open_ruling : (f : Flag) (a : Case) → FlagIsSilent f a → NoneIsTaken OnBuilding a → NoneCounts OnBuilding a → Ruling f a (in_the_open a)
unfolding in_the_open by_passthrough
open_ruling f a silent unset none = by (answer_at a Build 0) refl
  where
    passing : (b : Bool) → is_deny (effective a.regions a.actor Passthrough 0) ≡ b → BuildIsSilent a
        → Ruling f a (if b then verdicts.Deny (member_at 0) else verdicts.Permit rule.Default)
    passing true closed building = record {
      state = Deny;
      named = member_at 0;
      is = refl;
      holds = record { silent = silent; unset = unset; denies = inr (refl, building, denies _ closed) };
    }
    passing false open_to_all building = record {
      state = Allow;
      named = rule.Default;
      is = refl;
      holds = record { silent = silent; building = building; passing = λ closed. true≢false (sym (denied _ closed) ∙ open_to_all) };
    }

    by : (o : Option Answer) → answer_at a Build 0 ≡ o → Ruling f a (by_answer by_build o (by_passthrough a))
    by (Some answer) is = record {
      state = answer.value.state;
      named = rule.Build answer.at answer.value.from;
      is = refl;
      holds = record { silent = silent; answers = inr (none, world_answers Build a answer is) };
    }
    by None is =
        let building : BuildIsSilent a = record { regions = none; at_large = unset_at_large Build a is } in
        passing (is_deny (effective a.regions a.actor Passthrough 0)) refl building

-- so is what membership says
membership_ruling : (f : Flag) (a : Case) → FlagIsSilent f a → NoneIsTaken OnBuilding a → Ruling f a (by_membership a)
unfolding by_membership
membership_ruling f a silent unset = by (first_failing a) (first_home a) refl refl
  where
    by : (o h : Option ℕ) → first_failing a ≡ o → first_home a ≡ h → Ruling f a (by_members o h (in_the_open a))
    by (Some n) h fails home = record {
      state = Deny;
      named = member_at n;
      is = refl;
      holds = record { silent = silent; unset = unset; denies = inl (denies_membership a n fails) };
    }
    by None (Some n) sound home = record {
      state = Allow;
      named = member_at n;
      is = refl;
      holds = record { silent = silent; unset = unset; permits = permits_membership a n sound home };
    }
    by None None sound homeless = open_ruling f a silent unset (none_counts a sound homeless)

-- what is said on building
build_ruling : (f : Flag) (a : Case) → FlagIsSilent f a → Ruling f a (build a)
unfolding build
build_ruling f a silent = by (decided OnBuilding a) refl
  where
    by : (o : Option Answer) → decided OnBuilding a ≡ o → Ruling f a (by_answer by_build o (by_membership a))
    by (Some answer) is = record {
      state = answer.value.state;
      named = rule.Build answer.at answer.value.from;
      is = refl;
      holds = record { silent = silent; answers = inl (decided_is OnBuilding a answer is) };
    }
    by None none = membership_ruling f a silent (none_taken OnBuilding a none)

-- and the whole verdict
ruling : (f : Flag) (a : Case) → Ruling f a (decided_by f a)
unfolding decided_by query
ruling f a = by (decided (OnFlag f) a) (answer_at a f 0) refl refl
  where
    by_own : (answer : Answer) → FlagAnswers f a answer → Ruling f a (by_flag f answer)
    by_own answer is = record {
      state = answer.value.state;
      named = rule.Flag f answer.at answer.value.from;
      is = refl;
      holds = record { flag = refl; answers = is };
    }

    by : (o w : Option Answer) → decided (OnFlag f) a ≡ o → answer_at a f 0 ≡ w
        → Ruling f a (by_answer (by_flag f) (option_or o w) (build a))
    by (Some answer) w is world = by_own answer (inl (decided_is (OnFlag f) a answer is))
    by None (Some answer) none world = by_own answer (inr (none_taken (OnFlag f) a none, world_answers f a answer world))
    by None None none world = build_ruling f a (record { regions = none_taken (OnFlag f) a none; at_large = unset_at_large f a world })

-- a verdict has one state and one rule
pub one_ruling : (s t : State) (r u : Rule) → ruled s r ≡ ruled t u → (s ≡ t) × (r ≡ u)
one_ruling Allow Allow r u same = (refl, cc)
one_ruling Deny Deny r u same = (refl, cc)
one_ruling Allow Deny r u same = cc
one_ruling Deny Allow r u same = cc

pub rule_holds : RuleOfTheVerdictHolds
unfolding verdict
rule_holds rs s action p state r is =
    let a : Case = record { regions = rs; actor = s; place = p } in
    let it = ruling (flag_of_action action) a in
    let same = one_ruling it.state state it.named r (sym it.is ∙ is) in
    subst (λ t. RuleHolds (flag_of_action action) a t r) same.0
    (subst (λ u. RuleHolds (flag_of_action action) a it.state u) same.1 it.holds)

-- the other way round: the world at large says what holds there
open_passing : (a : Case) → BuildIsSilent a → in_the_open a ≡ by_passthrough a
unfolding in_the_open
open_passing a building = ap (λ o. by_answer by_build o (by_passthrough a)) (unset_is Build a building.at_large)

-- and by what lets pass
closed_denies : (a : Case) → IsClosedAtLarge a → by_passthrough a ≡ verdicts.Deny (member_at 0)
unfolding by_passthrough
closed_denies a closed = ap (λ b. if b then verdicts.Deny (member_at 0) else verdicts.Permit rule.Default) (denied _ closed)

passing_permits : (a : Case) → (IsClosedAtLarge a → ⊥) → by_passthrough a ≡ verdicts.Permit rule.Default
unfolding by_passthrough
passing_permits a passing =
    let not_closed = false_from_ne_true (is_deny (effective a.regions a.actor Passthrough 0)) (λ closed. passing (denies _ closed)) in
    ap (λ b. if b then verdicts.Deny (member_at 0) else verdicts.Permit rule.Default) not_closed

-- what is of highest priority counts
top_counts : (a : Case) (e : Entry) → OnTop a e → Counts OnBuilding a e
top_counts a e is = record { among = is.among; passes = (top_parts OnBuilding a e is.passes).1 }

-- where no region counts, none fails and none admits
none_fails : (a : Case) → NoneCounts OnBuilding a → first_failing a ≡ None
unfolding first_failing
none_fails a none = no_least (is_failing a) a.regions.entries λ e is. none e (top_counts a e (fails a e is).top)

none_admits : (a : Case) → NoneCounts OnBuilding a → first_home a ≡ None
unfolding first_home
none_admits a none = no_least (is_home a) a.regions.entries λ e is.
    none e (top_counts a e (record { among = is.among; passes = (home_parts a e is.passes).1 }))

-- so membership is what the world at large says
open_membership : (a : Case) → NoneCounts OnBuilding a → by_membership a ≡ in_the_open a
unfolding by_membership
open_membership a none =
    ap (λ o. by_members o (first_home a) (in_the_open a)) (none_fails a none)
    ∙ ap (λ o. by_members None o (in_the_open a)) (none_admits a none)

-- where no region counts, none is taken
pub none_counts_taken : (q : Question) (a : Case) → NoneCounts q a → NoneIsTaken q a
none_counts_taken q a none e taken = none e (record { among = taken.among; passes = (top_parts q a e (taken_top q a e taken.passes)).1 })

-- and so is what is said on building
pub open_build : (a : Case) → NoneCounts OnBuilding a → build a ≡ in_the_open a
unfolding build
open_build a none =
    let unset = none_decided OnBuilding a (none_counts_taken OnBuilding a none) in
    ap (λ o. by_answer by_build o (by_membership a)) unset ∙ open_membership a none

-- membership is what is asked where no region is taken
build_by_membership : (a : Case) → NoneIsTaken OnBuilding a → build a ≡ by_membership a
unfolding build
build_by_membership a none = ap (λ o. by_answer by_build o (by_membership a)) (none_decided OnBuilding a none)

-- where membership denies, the verdict by it is a denial
member_denied : (a : Case) (n : ℕ) → MemberDenies a n → by_membership a ≡ verdicts.Deny (member_at n)
unfolding by_membership first_failing
member_denied a n is =
    let low : IsLeast (is_failing a) a.regions.entries n = record {
      region = is.region;
      member = failing a (n, is.region) is.fails;
      least = λ e also. is.least e (fails a e also);
    } in
    ap (λ o. by_members o (first_home a) (in_the_open a)) (least_at (is_failing a) a.regions.entries n low)

-- where each is satisfied, none fails
satisfied_sound : (a : Case) → ((e : Entry) → OnTop a e → IsSatisfied a e) → first_failing a ≡ None
unfolding first_failing
satisfied_sound a each = no_least (is_failing a) a.regions.entries λ e is. unsatisfied a e (fails a e is) (each e (fails a e is).top)

-- where it permits, the verdict by it is a permit
member_permitted : (a : Case) (n : ℕ) → MemberPermits a n → by_membership a ≡ verdicts.Permit (member_at n)
unfolding by_membership first_home
member_permitted a n is =
    let low : IsLeast (is_home a) a.regions.entries n = record {
      region = is.region;
      member = record { among = is.top.among; passes = home_from a (n, is.region) is.insider is.top.passes };
      least = λ e also. let parts = home_parts a e also.passes in is.least e (record { among = also.among; passes = parts.1 }) parts.0;
    } in
    ap (λ o. by_members o (first_home a) (in_the_open a)) (satisfied_sound a is.satisfied)
    ∙ ap (λ o. by_members None o (in_the_open a)) (least_at (is_home a) a.regions.entries n low)

-- where `build` answers, it is what is said on building
build_answered : (a : Case) (answer : Answer) → BuildAnswers a answer → build a ≡ by_build answer
unfolding build in_the_open
build_answered a answer (inl is) = ap (λ o. by_answer by_build o (by_membership a)) (answer_decided OnBuilding a answer is)
build_answered a answer (inr world) =
    open_build a world.0 ∙ ap (λ o. by_answer by_build o (by_passthrough a)) (world_answer_is Build a answer world.1)

-- where the action's own flag answers, it is the verdict
flag_answered : (f : Flag) (a : Case) (answer : Answer) → FlagAnswers f a answer → decided_by f a ≡ by_flag f answer
unfolding decided_by query
flag_answered f a answer (inl is) =
    ap (λ o. by_answer (by_flag f) (option_or o (answer_at a f 0)) (build a)) (answer_decided (OnFlag f) a answer is)
flag_answered f a answer (inr world) =
    ap (λ o. by_answer (by_flag f) (option_or o (answer_at a f 0)) (build a)) (none_decided (OnFlag f) a world.0)
    ∙ ap (λ o. by_answer (by_flag f) o (build a)) (world_answer_is f a answer world.1)

-- and where it does not, the verdict is what is said on building
flag_silent : (f : Flag) (a : Case) → FlagIsSilent f a → decided_by f a ≡ build a
unfolding decided_by query
flag_silent f a silent =
    ap (λ o. by_answer (by_flag f) (option_or o (answer_at a f 0)) (build a)) (none_decided (OnFlag f) a silent.regions)
    ∙ ap (λ o. by_answer (by_flag f) o (build a)) (unset_is f a silent.at_large)

-- the verdict where nothing is said
pub silent_default : (f : Flag) (a : Case) → ByDefault f a → decided_by f a ≡ verdicts.Permit rule.Default
silent_default f a is =
    flag_silent f a is.silent ∙ open_build a is.building.regions ∙ open_passing a is.building ∙ passing_permits a is.passing

-- a rule that holds is that of the verdict
held : (f : Flag) (a : Case) (state : State) (r : Rule) → RuleHolds f a state r → decided_by f a ≡ ruled state r
held f a s (rule.Flag g at from) is =
    flag_answered f a (answer_from_parts at s from) is.answers ∙ ap (λ h. ruled s (rule.Flag h at from)) (sym is.flag)
held f a s (rule.Build at from) is = flag_silent f a is.silent ∙ build_answered a (answer_from_parts at s from) is.answers
held f a Deny (rule.Member at) is = flag_silent f a is.silent ∙ build_by_membership a is.unset ∙ elim is.denies [
  | inl one ↦ member_denied a at.0 one
  | inr world ↦
      open_membership a world.1.regions ∙ open_passing a world.1 ∙ closed_denies a world.2
      ∙ ap (λ n. verdicts.Deny (member_at n)) (sym world.0)
]
held f a Allow (rule.Member at) is = flag_silent f a is.silent ∙ build_by_membership a is.unset ∙ member_permitted a at.0 is.permits
held f a Deny rule.Default is = absurd is
held f a Allow rule.Default is = silent_default f a is

pub held_is_the_verdict : RuleThatHoldsIsTheVerdict
unfolding verdict
held_is_the_verdict rs s action p state r is = held (flag_of_action action) (record { regions = rs; actor = s; place = p }) state r is

-- the region that an answer names contains the place
answer_at_place : (q : Question) (a : Case) (answer : Answer) → IsAnswer q a answer → IsAtPlace a answer.at.0
answer_at_place q a answer is = (is.region, is.taken.among, taken_contains q a (answer.at.0, is.region) is.taken.passes)

-- the region that a rule names contains the place
rule_at_place : (f : Flag) (a : Case) (state : State) (r : Rule) → RuleHolds f a state r → number_of_rule r ≢ 0
    → IsAtPlace a (number_of_rule r)
rule_at_place f a s (rule.Flag g at from) is some = elim is.answers [
  | inl one ↦ answer_at_place (OnFlag f) a (answer_from_parts at s from) one
  | inr world ↦ absurd (some world.1.at)
]
rule_at_place f a s (rule.Build at from) is some = elim is.answers [
  | inl one ↦ answer_at_place OnBuilding a (answer_from_parts at s from) one
  | inr world ↦ absurd (some world.1.at)
]
rule_at_place f a Deny (rule.Member at) is some = elim is.denies [
  | inl one ↦ (one.region, one.fails.top.among, one.place)
  | inr world ↦ absurd (some world.0)
]
rule_at_place f a Allow (rule.Member at) is some = (is.permits.region, is.permits.top.among, is.permits.place)
rule_at_place f a Deny rule.Default is some = absurd is
rule_at_place f a Allow rule.Default is some = absurd (some refl)

pub names_a_region_at_the_place : VerdictNamesARegionAtThePlace
names_a_region_at_the_place rs s action p state r is some =
    rule_at_place (flag_of_action action) (record { regions = rs; actor = s; place = p }) state r (rule_holds rs s action p state r is) some
