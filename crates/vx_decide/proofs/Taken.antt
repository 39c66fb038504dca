-- What each test of a region says: that it counts, is of highest priority, speaks, is taken.
use Rattle.std.proofs.Common.{◌≡◌, true, false, not, Option, Some, None, is_some, refl}
use Rattle.std.proofs.lemmas.Bool.{and_parts, not-true}
use Rattle.vx_flag.specs.declared.state.State.{State}
use Rattle.vx_flag.specs.declared.state.State.TheVariants.{Allow, Deny}
use Rattle.vx_region.specs.Regions.{Entry}
use Rattle.vx_decide.specs.declared.question.Question.{Question}
use Rattle.vx_decide.specs.declared.value.Value.{Value}
use Rattle.vx_decide.specs.Answers.{value_for, value_state}
use Rattle.vx_decide.specs.Cases.{Case}
use Rattle.vx_decide.specs.Effective.{has_value, is_deny}
use Rattle.vx_decide.specs.Query.{flag_of_question, contains, has_say, counts, is_top, speaks, is_taken, is_denying}
use Rattle.vx_decide.specs.RegionGroups.{none_higher, is_highest, is_above_one, is_lowest}

-- what counts contains the place and has a say
pub counts_parts : (q : Question) (a : Case) (e : Entry) → counts q a e ≡ true → (contains a e ≡ true) × (has_say q a e.0 ≡ true)
unfolding counts
counts_parts q a e is = and_parts (contains a e) (has_say q a e.0) is

-- what is of top counts, and none that counts has a higher priority
pub top_parts : (q : Question) (a : Case) (e : Entry) → is_top q a e ≡ true
    → (none_higher (counts q a) a.regions.entries e.1.priority ≡ true) × (counts q a e ≡ true)
unfolding is_top is_highest
top_parts q a e is = and_parts (none_higher (counts q a) a.regions.entries e.1.priority) (counts q a e) is

-- what speaks is of top and has a value
pub speaks_parts : (q : Question) (a : Case) (e : Entry) → speaks q a e ≡ true
    → (is_top q a e ≡ true) × (has_value a.regions a.actor (flag_of_question q) e.0 ≡ true)
unfolding speaks
speaks_parts q a e is = and_parts (is_top q a e) (has_value a.regions a.actor (flag_of_question q) e.0) is

-- what is taken speaks, and is above no other that speaks
pub taken_parts : (q : Question) (a : Case) (e : Entry) → is_taken q a e ≡ true
    → (speaks q a e ≡ true) × (is_above_one (speaks q a) a.regions e.0 ≡ false)
unfolding is_taken is_lowest
taken_parts q a e is =
    let parts = and_parts (speaks q a e) (not (is_above_one (speaks q a) a.regions e.0)) is in
    (parts.0, not-true (is_above_one (speaks q a) a.regions e.0) parts.1)

-- what denies has a value that denies and is taken
pub denying_parts : (q : Question) (a : Case) (e : Entry) → is_denying q a e ≡ true
    → (is_deny (value_for q a e.0) ≡ true) × (is_taken q a e ≡ true)
unfolding is_denying
denying_parts q a e is = and_parts (is_deny (value_for q a e.0)) (is_taken q a e) is

-- what is there is something
some_there : {X : Type 0} (o : Option X) → is_some o ≡ true → (x : X) × (o ≡ Some x)
some_there None there = cc
some_there (Some x) there = (x, refl)

-- what is taken has a value
pub taken_value : (q : Question) (a : Case) (e : Entry) → is_taken q a e ≡ true → (v : Value) × (value_for q a e.0 ≡ Some v)
unfolding has_value
taken_value q a e is = some_there (value_for q a e.0) (speaks_parts q a e (taken_parts q a e is).0).1

-- what is taken contains the place
pub taken_contains : (q : Question) (a : Case) (e : Entry) → is_taken q a e ≡ true → contains a e ≡ true
taken_contains q a e is = (counts_parts q a e (top_parts q a e (speaks_parts q a e (taken_parts q a e is).0).0).1).0

-- the test for a denial is the state
pub denies : (o : Option Value) → is_deny o ≡ true → value_state o ≡ Some Deny
denies None is = cc
denies (Some v) is = by v.state is
  where
    by : (s : State) → is_deny (Some (record { state = s; from = v.from })) ≡ true → Some s ≡ Some Deny
    by Deny so = refl
    by Allow so = cc

pub denied : (o : Option Value) → value_state o ≡ Some Deny → is_deny o ≡ true
denied None is = cc
denied (Some v) is = by v.state is
  where
    by : (s : State) → Some s ≡ Some Deny → is_deny (Some (record { state = s; from = v.from })) ≡ true
    by Deny so = refl
    by Allow so = cc
