-- A higher priority stands before a lower one, and a child before its ancestors.
use Rattle.std.proofs.Common.{◌≡◌, ◌≤ℤ◌, ℤ, true, ◌&&◌, ◌||◌, not, int_le, List, Contains, inl, inr, sym, ◌∙◌, arith, true≢false}
use Rattle.std.specs.List.{list_any}
use Rattle.std.proofs.lemmas.Bool.{and_parts, and_from, or_cases, or_left, or_right, cases_Bool, not-true, not_from_false, false_from_ne_true}
use Rattle.std.proofs.lemmas.Int.{ints}
use Rattle.vx_region.specs.Ancestry.{is_above}
use Rattle.vx_region.specs.Regions.{Entry}
use Rattle.vx_decide.specs.declared.question.Question.{Question}
use Rattle.vx_decide.specs.Answers.{In, Speaks, Counts}
use Rattle.vx_decide.specs.Cases.{Case}
use Rattle.vx_decide.specs.Effective.{has_value}
use Rattle.vx_decide.specs.Laws.{TakenSpeaksLowest, SpeaksLowestIsTaken, OneDenialDenies, DeciderContainsThePlace, TopIsHighest, HigherPriorityDecides, ChildStandsBeforeParent, ChildAtTheSamePriority}
use Rattle.vx_decide.specs.Query.{flag_of_question, counts, is_top, speaks, is_taken}
use Rattle.vx_decide.specs.RegionGroups.{is_lowest, Members, none_higher, is_highest, is_above_one}
use Rattle.vx_decide.proofs.Answering.{decided_is, decided_some}
use Rattle.vx_decide.proofs.Picks.{all_at, all_from, any_at, any_from}
use Rattle.vx_decide.proofs.Taken.{top_parts, speaks_parts, taken_parts, taken_contains}

pub one_denial_denies : OneDenialDenies
one_denial_denies q a e taken says =
    let some = decided_some q a e taken in
    (some.0, some.1, (decided_is q a some.0 some.1).deny_wins e taken says)

pub decider_contains_the_place : DeciderContainsThePlace
decider_contains_the_place q a answer found =
    let is = decided_is q a answer found in (is.region, is.taken.among, taken_contains q a (answer.at.0, is.region) is.taken.passes)

-- the test on priorities is their order
not_higher : (a z : ℤ) → int_le a z ≡ true → a ≤ℤ z
not_higher a z is = grind (arith, ints)

is_not_higher : (a z : ℤ) → a ≤ℤ z → int_le a z ≡ true
is_not_higher a z below = grind (arith, ints)

-- no member has a priority above this one
pub none_higher_at : (members : Members) (es : List Entry) (z : ℤ) (d : Entry) → none_higher members es z ≡ true
    → In members es d → d.1.priority ≤ℤ z
unfolding none_higher
none_higher_at members es z d none is =
    elim (or_cases (int_le d.1.priority z) (not (members d)) (all_at (λ e. int_le e.1.priority z || not (members e)) es d none is.among)) [
      | inl below ↦ not_higher d.1.priority z below
      | inr out ↦ absurd (true≢false (sym is.passes ∙ not-true (members d) out))
    ]

pub none_higher_from : (members : Members) (es : List Entry) (z : ℤ) → ((d : Entry) → In members es d → d.1.priority ≤ℤ z)
    → none_higher members es z ≡ true
unfolding none_higher
none_higher_from members es z each = all_from (λ e. int_le e.1.priority z || not (members e)) es each_one
  where
    each_one : (e : Entry) → Contains es e → (int_le e.1.priority z || not (members e)) ≡ true
    each_one e among = elim (cases_Bool (members e)) [
      | inl passes ↦ or_left _ _ (is_not_higher e.1.priority z (each e (record { among = among; passes = passes })))
      | inr fails ↦ or_right _ _ (not_from_false (members e) fails)
    ]

pub top_is_highest : TopIsHighest
top_is_highest q a d e is top = none_higher_at (counts q a) a.regions.entries e.1.priority d (top_parts q a e top).0 is

-- what counts is of highest priority where none that counts has a higher one
pub top_from : (q : Question) (a : Case) (e : Entry) → counts q a e ≡ true
    → ((d : Entry) → Counts q a d → d.1.priority ≤ℤ e.1.priority) → is_top q a e ≡ true
unfolding is_top is_highest
top_from q a e is each = and_from _ _ (none_higher_from (counts q a) a.regions.entries e.1.priority each) is

-- what is taken is of highest priority
pub taken_top : (q : Question) (a : Case) (e : Entry) → is_taken q a e ≡ true → is_top q a e ≡ true
taken_top q a e taken = (speaks_parts q a e (taken_parts q a e taken).0).0

pub higher_priority_decides : HigherPriorityDecides
higher_priority_decides q a d e is higher = (false_from_ne_true _ below, false_from_ne_true _ (λ taken. below (taken_top q a e taken)))
  where
    below : is_top q a e ≡ true → ⊥
    below top = let low = top_is_highest q a d e is top in grind (arith, ints)

pub child_stands_before_parent : ChildStandsBeforeParent
unfolding is_above_one
child_stands_before_parent q a child parent is above =
    let below = λ (d : Entry). is_above a.regions parent.0 d.1 && speaks q a d in
    let some = any_at below a.regions.entries child is.among (and_from _ _ above is.passes) in
    false_from_ne_true _ (λ taken. true≢false (sym some ∙ (taken_parts q a parent taken).1))

-- what is of highest priority and has a value speaks
pub speaks_from : (q : Question) (a : Case) (e : Entry) → is_top q a e ≡ true
    → has_value a.regions a.actor (flag_of_question q) e.0 ≡ true → speaks q a e ≡ true
unfolding speaks
speaks_from q a e top has = and_from _ _ top has

-- beside one of highest priority, each that counts and has no lower priority is so too
pub top_too : (q : Question) (a : Case) (d e : Entry) → is_top q a e ≡ true → counts q a d ≡ true
    → e.1.priority ≤ℤ d.1.priority → is_top q a d ≡ true
top_too q a d e top is above = top_from q a d is λ x counted. let low = top_is_highest q a x e counted top in grind (arith, ints)

pub child_at_the_same_priority : ChildAtTheSamePriority
child_at_the_same_priority q a child parent is has level above = false_from_ne_true _ λ taken.
    let top = top_too q a child parent (taken_top q a parent taken) is.passes level in
    let speaking : In (speaks q a) a.regions.entries child = record { among = is.among; passes = speaks_from q a child top has } in
    true≢false (sym taken ∙ child_stands_before_parent q a child parent speaking above)

-- what the test for speaking says
speaks_is : (q : Question) (a : Case) (e : Entry) → In (speaks q a) a.regions.entries e → Speaks q a e
speaks_is q a e is =
    let parts = speaks_parts q a e is.passes in
    record {
      counts = record { among = is.among; passes = (top_parts q a e parts.0).1 };
      highest = λ d counted. top_is_highest q a d e counted parts.0;
      value = parts.1;
    }

is_speaking : (q : Question) (a : Case) (e : Entry) → Speaks q a e → In (speaks q a) a.regions.entries e
is_speaking q a e is =
    record { among = is.counts.among; passes = speaks_from q a e (top_from q a e is.counts.passes is.highest) is.value }

pub taken_speaks_lowest : TakenSpeaksLowest
taken_speaks_lowest q a e is = record {
  speaks = speaks_is q a e (record { among = is.among; passes = (taken_parts q a e is.passes).0 });
  lowest = λ d speaking. false_from_ne_true _ λ above.
      true≢false (sym is.passes ∙ child_stands_before_parent q a d e (is_speaking q a d speaking) above);
}

pub speaks_lowest_is_taken : SpeaksLowestIsTaken
unfolding is_taken is_lowest is_above_one
speaks_lowest_is_taken q a e is =
    let speaking = is_speaking q a e is.speaks in
    record { among = speaking.among; passes = and_from _ _ speaking.passes (not_from_false _ (false_from_ne_true _ none)) }
  where
    none : list_any (λ d. is_above a.regions e.0 d.1 && speaks q a d) a.regions.entries ≡ true → ⊥
    none some =
        let found = any_from (λ d. is_above a.regions e.0 d.1 && speaks q a d) a.regions.entries some in
        let parts = and_parts (is_above a.regions e.0 found.0.1) (speaks q a found.0) found.2 in
        true≢false (sym parts.0 ∙ is.lowest found.0 (speaks_is q a found.0 (record { among = found.1; passes = parts.1 })))
