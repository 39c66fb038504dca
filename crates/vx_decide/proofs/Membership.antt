-- What membership in the regions at a place denies or permits.
use Rattle.std.proofs.Common.{◌≡◌, ℕ, Bool, true, false, ◌&&◌, not, if◌then◌else◌, Option, Some, None, inl, inr, refl, ap, sym, ◌∙◌, true≢false}
use Rattle.std.proofs.lemmas.Bool.{and_parts, and_from, or_cases, or_left, or_right, not-true, not_from_false, false_from_ne_true, true_from_ne_false}
use Rattle.vx_flag.specs.declared.flag.Flag.TheVariants.{Build, Passthrough}
use Rattle.vx_flag.specs.declared.state.State.{State}
use Rattle.vx_flag.specs.declared.state.State.TheVariants.{Allow, Deny}
use Rattle.vx_region.specs.declared.region_no.RegionNo.{RegionNo}
use Rattle.vx_region.specs.Ancestry.{is_above}
use Rattle.vx_region.specs.Regions.{Entry}
use Rattle.vx_decide.specs.declared.answer.Answer.{Answer}
use Rattle.vx_decide.specs.declared.question.Question.TheVariants.{OnBuilding}
use Rattle.vx_decide.specs.declared.rule.Rule.TheVariants as rule
use Rattle.vx_decide.specs.declared.verdict.Verdict.TheVariants as verdict
use Rattle.vx_decide.specs.Answers.{In, OnTop, Fails, IsSatisfied, MemberDenies, MemberPermits}
use Rattle.vx_decide.specs.Cases.{Case}
use Rattle.vx_decide.specs.Build.{admits, is_home, is_satisfied, is_failing, first_failing, first_home, member_at, ruled, by_build, by_answer, by_passthrough, in_the_open, by_members, by_membership}
use Rattle.vx_decide.specs.Effective.{region_no, effective, is_deny}
use Rattle.vx_decide.specs.Laws.{MembershipDeniesWhereOneFails, MembershipPermitsWhereNoneFails}
use Rattle.vx_decide.specs.Query.{contains, is_top, answer_at}
use Rattle.vx_decide.specs.RegionGroups.{is_above_one}
use Rattle.vx_decide.proofs.Picks.{any_at, any_from, least_found, least_none}
use Rattle.vx_decide.proofs.Taken.{counts_parts, top_parts}

-- what is of highest priority contains the place
pub top_contains : (a : Case) (e : Entry) → is_top OnBuilding a e ≡ true → contains a e ≡ true
top_contains a e is = (counts_parts OnBuilding a e (top_parts OnBuilding a e is).1).0

-- a region that admits the actor, of highest priority
pub home_parts : (a : Case) (e : Entry) → is_home a e ≡ true → (admits a e.0 ≡ true) × (is_top OnBuilding a e ≡ true)
unfolding is_home
home_parts a e is = and_parts (admits a e.0) (is_top OnBuilding a e) is

pub home_from : (a : Case) (e : Entry) → admits a e.0 ≡ true → is_top OnBuilding a e ≡ true → is_home a e ≡ true
unfolding is_home
home_from a e insider top = and_from _ _ insider top

-- the test for a region that is satisfied says what it is to be
satisfied_parts : (a : Case) (e : Entry) → is_satisfied a e.0 ≡ true → IsSatisfied a e
unfolding is_satisfied is_above_one
satisfied_parts a e is = elim (or_cases (admits a e.0) (is_above_one (is_home a) a.regions e.0) is) [
  | inl insider ↦ inl insider
  | inr above ↦ inr (by_home above)
]
  where
    by_home : is_above_one (is_home a) a.regions e.0 ≡ true
        → (d : Entry) × OnTop a d × (admits a d.0 ≡ true) × (is_above a.regions e.0 d.1 ≡ true)
    by_home above =
        let found = any_from (λ d. is_above a.regions e.0 d.1 && is_home a d) a.regions.entries above in
        let parts = and_parts (is_above a.regions e.0 found.0.1) (is_home a found.0) found.2 in
        let home = home_parts a found.0 parts.1 in
        (found.0, record { among = found.1; passes = home.1 }, home.0, parts.0)

satisfied_from : (a : Case) (e : Entry) → IsSatisfied a e → is_satisfied a e.0 ≡ true
unfolding is_satisfied is_above_one
satisfied_from a e is = elim is [
  | inl insider ↦ or_left _ _ insider
  | inr below ↦
      let home = home_from a below.0 below.2 below.1.passes in
      let both = and_from _ _ below.3 home in
      or_right _ _ (any_at (λ d. is_above a.regions e.0 d.1 && is_home a d) a.regions.entries below.0 below.1.among both)
]

-- a region that fails is of highest priority and not satisfied
failing_parts : (a : Case) (e : Entry) → is_failing a e ≡ true → (is_top OnBuilding a e ≡ true) × (is_satisfied a e.0 ≡ false)
unfolding is_failing
failing_parts a e is =
    let parts = and_parts (is_top OnBuilding a e) (not (is_satisfied a e.0)) is in
    (parts.0, not-true (is_satisfied a e.0) parts.1)

failing_from : (a : Case) (e : Entry) → is_top OnBuilding a e ≡ true → is_satisfied a e.0 ≡ false → is_failing a e ≡ true
unfolding is_failing
failing_from a e top not_so = and_from _ _ top (not_from_false (is_satisfied a e.0) not_so)

-- a region fails exactly where the test says so
pub fails : (a : Case) (e : Entry) → In (is_failing a) a.regions.entries e → Fails a e
fails a e is =
    let parts = failing_parts a e is.passes in
    let unless = λ (so : IsSatisfied a e). true≢false (sym (satisfied_from a e so) ∙ parts.1) in
    record {
      top = record { among = is.among; passes = parts.0 };
      stranger = false_from_ne_true _ (λ insider. unless (inl insider));
      no_home = λ d top insider. false_from_ne_true _ (λ above. unless (inr (d, top, insider, above)));
    }

-- what fails is not satisfied
pub unsatisfied : (a : Case) (e : Entry) → Fails a e → IsSatisfied a e → ⊥
unsatisfied a e is so = elim so [
  | inl insider ↦ true≢false (sym insider ∙ is.stranger)
  | inr below ↦ true≢false (sym below.3 ∙ is.no_home below.0 below.1 below.2)
]

pub failing : (a : Case) (e : Entry) → Fails a e → In (is_failing a) a.regions.entries e
failing a e is =
    let not_so = false_from_ne_true (is_satisfied a e.0) (λ so. unsatisfied a e is (satisfied_parts a e so)) in
    record { among = is.top.among; passes = failing_from a e is.top.passes not_so }

-- where none fails, each region of highest priority is satisfied
pub satisfied_where_none_fails : (a : Case) (e : Entry) → first_failing a ≡ None → OnTop a e → IsSatisfied a e
unfolding first_failing
satisfied_where_none_fails a e none top = satisfied_parts a e (true_from_ne_false _ λ not_so.
    least_none (is_failing a) a.regions.entries e none (record { among = top.among; passes = failing_from a e top.passes not_so }))

-- where one fails, the least denies
pub denies_membership : (a : Case) (n : ℕ) → first_failing a ≡ Some n → MemberDenies a n
unfolding first_failing
denies_membership a n found =
    let low = least_found (is_failing a) a.regions.entries n found in
    let it = fails a (n, low.region) low.member in
    record {
      region = low.region;
      place = top_contains a (n, low.region) it.top.passes;
      fails = it;
      least = λ e also. low.least e (failing a e also);
    }

-- where none fails, the least that admits permits
pub permits_membership : (a : Case) (n : ℕ) → first_failing a ≡ None → first_home a ≡ Some n → MemberPermits a n
unfolding first_home
permits_membership a n none found =
    let low = least_found (is_home a) a.regions.entries n found in
    let parts = home_parts a (n, low.region) low.member.passes in
    record {
      region = low.region;
      place = top_contains a (n, low.region) parts.1;
      top = record { among = low.member.among; passes = parts.1 };
      insider = parts.0;
      satisfied = λ e top. satisfied_where_none_fails a e none top;
      least = λ e top insider. low.least e (record { among = top.among; passes = home_from a e insider top.passes });
    }

-- where no region counts, membership is named of the world at large alone, and only to deny
built_denies : (s : State) (at from : RegionNo) (n : ℕ) → ruled s (rule.Build at from) ≡ verdict.Deny (member_at n) → n ≡ 0
built_denies Allow at from n same = cc
built_denies Deny at from n same = cc

built_permits : (s : State) (at from : RegionNo) (n : ℕ) → ruled s (rule.Build at from) ≡ verdict.Permit (member_at n) → ⊥
built_permits Allow at from n same = cc
built_permits Deny at from n same = cc

-- so it is with what lets pass
passing_denies : (b : Bool) (n : ℕ)
    → (if b then verdict.Deny (member_at 0) else verdict.Permit rule.Default) ≡ verdict.Deny (member_at n) → n ≡ 0
passing_denies true n same = let number : region_no 0 ≡ region_no n = cc in sym (ap (λ k. k.0) number)
passing_denies false n same = cc

passing_permits : (b : Bool) (n : ℕ)
    → (if b then verdict.Deny (member_at 0) else verdict.Permit rule.Default) ≡ verdict.Permit (member_at n) → ⊥
passing_permits true n same = cc
passing_permits false n same = cc

-- and so with all that the world at large says
open_denies : (a : Case) (n : ℕ) → in_the_open a ≡ verdict.Deny (member_at n) → n ≡ 0
unfolding in_the_open by_passthrough
open_denies a n same = by (answer_at a Build 0) same
  where
    by : (o : Option Answer) → by_answer by_build o (by_passthrough a) ≡ verdict.Deny (member_at n) → n ≡ 0
    by (Some answer) is = built_denies answer.value.state answer.at answer.value.from n is
    by None is = passing_denies (is_deny (effective a.regions a.actor Passthrough 0)) n is

open_permits : (a : Case) (n : ℕ) → in_the_open a ≡ verdict.Permit (member_at n) → ⊥
unfolding in_the_open by_passthrough
open_permits a n same = by (answer_at a Build 0) same
  where
    by : (o : Option Answer) → by_answer by_build o (by_passthrough a) ≡ verdict.Permit (member_at n) → ⊥
    by (Some answer) is = built_permits answer.value.state answer.at answer.value.from n is
    by None is = passing_permits (is_deny (effective a.regions a.actor Passthrough 0)) n is

pub membership_denies : MembershipDeniesWhereOneFails
unfolding by_membership
membership_denies a n denied some = by (first_failing a) (first_home a) refl denied
  where
    by : (o h : Option ℕ) → first_failing a ≡ o → by_members o h (in_the_open a) ≡ verdict.Deny (member_at n) → MemberDenies a n
    by (Some m) h found same = let number : region_no m ≡ region_no n = cc in denies_membership a n (found ∙ ap (λ k. Some k.0) number)
    by None (Some m) none same = cc
    by None None none same = absurd (some (open_denies a n same))

pub membership_permits : MembershipPermitsWhereNoneFails
unfolding by_membership
membership_permits a n permitted = by (first_failing a) (first_home a) refl refl permitted
  where
    by : (o h : Option ℕ) → first_failing a ≡ o → first_home a ≡ h → by_members o h (in_the_open a) ≡ verdict.Permit (member_at n)
        → MemberPermits a n
    by (Some m) h found home same = cc
    by None (Some m) none home same =
        let number : region_no m ≡ region_no n = cc in
        permits_membership a n none (home ∙ ap (λ k. Some k.0) number)
    by None None none home same = absurd (open_permits a n same)
