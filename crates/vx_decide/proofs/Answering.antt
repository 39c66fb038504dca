-- What is decided is the one answer.
use Rattle.std.proofs.Common.{◌≡◌, ℕ, true, Option, None, Some, option_map, refl, ap, sym, ◌∙◌, subst, arith}
use Rattle.std.specs.Option.{option_or, option_and_then}
use Rattle.std.proofs.lemmas.Bool.{and_from}
use Rattle.std.proofs.lemmas.Option.{same_Some}
use Rattle.vx_flag.specs.declared.state.State.{State}
use Rattle.vx_flag.specs.declared.state.State.TheVariants.{Allow, Deny}
use Rattle.vx_region.specs.Regions.{Entry}
use Rattle.vx_decide.specs.declared.answer.Answer.{Answer}
use Rattle.vx_decide.specs.declared.question.Question.{Question}
use Rattle.vx_decide.specs.declared.value.Value.{Value}
use Rattle.vx_decide.specs.Answers.{In, IsLeast, IsTaken, IsAnswer, value_for, value_state}
use Rattle.vx_decide.specs.Cases.{Case}
use Rattle.vx_decide.specs.Effective.{region_no}
use Rattle.vx_decide.specs.Laws.{DecidedIsAnswer, AnswersAreOne, AnswerIsDecided}
use Rattle.vx_decide.specs.Query.{flag_of_question, is_taken, is_denying, first_denying, first_taken, decider, answer_at, decided}
use Rattle.vx_decide.specs.RegionGroups.{least}
use Rattle.vx_decide.proofs.Picks.{below_each, least_found, least_none}
use Rattle.vx_decide.proofs.Taken.{denying_parts, taken_value, denies, denied}

-- the answer of the region of a number names it and has its value
pub answer_parts : (q : Question) (a : Case) (n : ℕ) (answer : Answer) → answer_at a (flag_of_question q) n ≡ Some answer
    → (n ≡ answer.at.0) × (value_for q a n ≡ Some answer.value)
unfolding answer_at
answer_parts q a n answer is = by (value_for q a n) is
  where
    by : (o : Option Value) → option_map (λ v. record { at = region_no n; value = v }) o ≡ Some answer
        → (n ≡ answer.at.0) × (o ≡ Some answer.value)
    by None same = cc
    by (Some v) same =
        let one : record { at = region_no n; value = v } ≡ answer = cc in
        (ap (λ (x : Answer). x.at.0) one, ap (λ (x : Answer). Some x.value) one)

-- and where it has a value, it answers
pub answer_from : (q : Question) (a : Case) (n : ℕ) (v : Value) → value_for q a n ≡ Some v
    → answer_at a (flag_of_question q) n ≡ Some (record { at = region_no n; value = v })
unfolding answer_at
answer_from q a n v is = ap (option_map (λ v. record { at = region_no n; value = v })) is

-- what is taken and has a value that denies is denying
denying_from : (q : Question) (a : Case) (e : Entry) → IsTaken q a e → value_state (value_for q a e.0) ≡ Some Deny
    → In (is_denying q a) a.regions.entries e
unfolding is_denying
denying_from q a e taken says = record { among = taken.among; passes = and_from _ _ (denied (value_for q a e.0) says) taken.passes }

-- the answer of the least that denies
of_denying : (q : Question) (a : Case) (answer : Answer) → IsLeast (is_denying q a) a.regions.entries answer.at.0
    → value_for q a answer.at.0 ≡ Some answer.value → IsAnswer q a answer
of_denying q a answer low value =
    let parts = denying_parts q a (answer.at.0, low.region) low.member.passes in
    let deny : Some answer.value.state ≡ Some Deny = sym (ap value_state value) ∙ denies (value_for q a answer.at.0) parts.0 in
    record {
      region = low.region;
      taken = record { among = low.member.among; passes = parts.1 };
      value = value;
      deny_wins = λ e taken says. cc;
      least = λ e taken says. low.least e (denying_from q a e taken (says ∙ deny));
    }

-- the answer of the least taken, where none denies
of_taken : (q : Question) (a : Case) (answer : Answer) → least (is_denying q a) a.regions.entries ≡ None
    → IsLeast (is_taken q a) a.regions.entries answer.at.0 → value_for q a answer.at.0 ≡ Some answer.value → IsAnswer q a answer
of_taken q a answer none low value = record {
  region = low.region;
  taken = low.member;
  value = value;
  deny_wins = λ e taken says. absurd (least_none (is_denying q a) a.regions.entries e none (denying_from q a e taken says));
  least = λ e taken says. low.least e taken;
}

pub decided_is : DecidedIsAnswer
unfolding decided decider first_denying first_taken
decided_is q a answer found = by (least (is_denying q a) a.regions.entries) refl found
  where
    by_taken : (o : Option ℕ) → least (is_denying q a) a.regions.entries ≡ None → least (is_taken q a) a.regions.entries ≡ o
        → option_and_then (answer_at a (flag_of_question q)) o ≡ Some answer → IsAnswer q a answer
    by_taken None none taken at = cc
    by_taken (Some n) none taken at =
        let parts = answer_parts q a n answer at in
        of_taken q a answer none
        (subst (λ k. IsLeast (is_taken q a) a.regions.entries k) parts.0 (least_found (is_taken q a) a.regions.entries n taken))
        (subst (λ k. value_for q a k ≡ Some answer.value) parts.0 parts.1)

    by : (o : Option ℕ) → least (is_denying q a) a.regions.entries ≡ o
        → option_and_then (answer_at a (flag_of_question q)) (option_or o (least (is_taken q a) a.regions.entries)) ≡ Some answer
        → IsAnswer q a answer
    by None none at = by_taken (least (is_taken q a) a.regions.entries) none refl at
    by (Some n) denying at =
        let parts = answer_parts q a n answer at in
        of_denying q a answer
        (subst (λ k. IsLeast (is_denying q a) a.regions.entries k) parts.0 (least_found (is_denying q a) a.regions.entries n denying))
        (subst (λ k. value_for q a k ≡ Some answer.value) parts.0 parts.1)

-- where a region is taken, some answer is decided
pub decided_some : (q : Question) (a : Case) (e : Entry) → IsTaken q a e → (answer : Answer) × (decided q a ≡ Some answer)
unfolding decided decider first_denying first_taken
decided_some q a e taken = by (least (is_denying q a) a.regions.entries) refl
  where
    from_region : (n : ℕ) (d : Entry) → d.0 ≡ n → is_taken q a d ≡ true
        → (answer : Answer) × (answer_at a (flag_of_question q) n ≡ Some answer)
    from_region n d same is =
        let v = taken_value q a d is in
        (record { at = region_no n; value = v.0 }, answer_from q a n v.0 (subst (λ k. value_for q a k ≡ Some v.0) same v.1))

    by : (o : Option ℕ) → least (is_denying q a) a.regions.entries ≡ o
        → (answer : Answer)
        × (option_and_then (answer_at a (flag_of_question q)) (option_or o (least (is_taken q a) a.regions.entries)) ≡ Some answer)
    by (Some n) denying =
        let low = least_found (is_denying q a) a.regions.entries n denying in
        from_region n (n, low.region) refl (denying_parts q a (n, low.region) low.member.passes).1
    by None none =
        let it = below_each (is_taken q a) a.regions.entries e taken in
        let low = least_found (is_taken q a) a.regions.entries it.0 it.1 in
        let answer = from_region it.0 (it.0, low.region) refl low.member.passes in
        (answer.0, ap (option_and_then (answer_at a (flag_of_question q))) it.1 ∙ answer.1)

-- two states are one where each denies as the other does
two_states : (s t : State) → (s ≡ Deny → t ≡ Deny) → (t ≡ Deny → s ≡ Deny) → s ≡ t
two_states Deny t there back = sym (there refl)
two_states Allow Deny there back = back refl
two_states Allow Allow there back = refl

-- an answer denies where another does
denies_too : (q : Question) (a : Case) (x y : Answer) → IsAnswer q a x → IsAnswer q a y → x.value.state ≡ Deny → y.value.state ≡ Deny
denies_too q a x y is also deny = also.deny_wins (x.at.0, is.region) is.taken (ap value_state is.value ∙ ap Some deny)

pub one_answer : AnswersAreOne
one_answer q a x y is also =
    let same = two_states x.value.state y.value.state (denies_too q a x y is also) (denies_too q a y x also is) in
    let low = is.least (y.at.0, also.region) also.taken (ap value_state also.value ∙ ap Some (sym same)) in
    let less = also.least (x.at.0, is.region) is.taken (ap value_state is.value ∙ ap Some same) in
    let at : x.at.0 ≡ y.at.0 = omega arith in
    let value = same_Some x.value y.value (sym is.value ∙ ap (value_for q a) at ∙ also.value) in
    λ i. record { at = record { 0 = at i }; value = value i }

pub answer_decided : AnswerIsDecided
answer_decided q a answer is =
    let some = decided_some q a (answer.at.0, is.region) is.taken in
    some.1 ∙ ap Some (one_answer q a some.0 answer (decided_is q a some.0 some.1) is)
