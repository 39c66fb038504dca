-- A value is that of the nearest region of the ancestry that sets one.
use Rattle.std.proofs.Common.{◌≡◌, ℕ, Bool, true, false, nat_eq, if◌then◌else◌, List, [], ◌∷◌, ◌++◌, Option, Some, None, Contains, inl, inr, refl, ap, sym, ◌∙◌}
use Rattle.std.specs.List.{list_any}
use Rattle.std.specs.Option.{option_or}
use Rattle.std.proofs.lemmas.Bool.{eq-eqb}
use Rattle.std.proofs.lemmas.List.Elements.{Contains-append_right}
use Rattle.vx_flag.specs.declared.association.Association.{Association}
use Rattle.vx_flag.specs.declared.setting.Setting.{Setting}
use Rattle.vx_flag.specs.Group.{fits}
use Rattle.vx_region.specs.Ancestry.{ancestors, is_under}
use Rattle.vx_region.specs.Association.{association}
use Rattle.vx_region.specs.Regions.{setting_at}
use Rattle.vx_decide.specs.declared.value.Value.{Value}
use Rattle.vx_decide.specs.Effective.{region_no, heard, value_at, first_of, effective}
use Rattle.vx_decide.specs.Laws.{ValueIsInherited, InheritedIsTheValue, ValueIsFromTheAncestry, NoValueIsSet}
use Rattle.vx_decide.proofs.Picks.{any_at, at_head, in_tail, head_or_tail, in_none}

-- the first that answers, and the silent ones before it
record IsFirst {X : Type 0} (g : ℕ → Option X) (ns : List ℕ) (x : X) : Type 0 where
  number : ℕ
  before : List ℕ
  after : List ℕ
  parts : ns ≡ before ++ number ∷ after
  answers : g number ≡ Some x
  silent : (m : ℕ) → Contains before m → g m ≡ None

-- what comes first has silent ones before it
first_is : {X : Type 0} (g : ℕ → Option X) (ns : List ℕ) (x : X) → first_of g ns ≡ Some x → IsFirst g ns x
first_is g [] x found = cc
first_is {X = X} g (n ∷ ns) x found = by (g n) refl found (first_is g ns x)
  where
    further : g n ≡ None → IsFirst g ns x → IsFirst g (n ∷ ns) x
    further none rest = record {
      number = rest.number;
      before = n ∷ rest.before;
      after = rest.after;
      parts = ap (λ ms. n ∷ ms) rest.parts;
      answers = rest.answers;
      silent = λ m there. elim (head_or_tail n rest.before m there) [ inl same ↦ ap g (sym same) ∙ none | inr later ↦ rest.silent m later ];
    }

    by : (o : Option X) → g n ≡ o → option_or o (first_of g ns) ≡ Some x → (first_of g ns ≡ Some x → IsFirst g ns x) → IsFirst g (n ∷ ns) x
    by (Some y) is same rest = record {
      number = n;
      before = [];
      after = ns;
      parts = refl;
      answers = is ∙ same;
      silent = λ m there. absurd (in_none m there);
    }
    by None is same rest = further is (rest same)

-- silent ones are passed over
first_past : {X : Type 0} (g : ℕ → Option X) (before : List ℕ) (n : ℕ) (after : List ℕ) (x : X)
    → ((m : ℕ) → Contains before m → g m ≡ None) → g n ≡ Some x → first_of g (before ++ n ∷ after) ≡ Some x
first_past g [] n after x silent answers = ap (λ o. option_or o (first_of g after)) answers
first_past g (m ∷ before) n after x silent answers =
    ap (λ o. option_or o (first_of g (before ++ n ∷ after))) (silent m (at_head m before))
    ∙ first_past g before n after x (λ k there. silent k (in_tail m before k there)) answers

-- where none is the first, all are silent
pub first_none : {X : Type 0} (g : ℕ → Option X) (ns : List ℕ) (m : ℕ) → first_of g ns ≡ None → Contains ns m → g m ≡ None
first_none g [] m none there = absurd (in_none m there)
first_none {X = X} g (n ∷ ns) m none there = by (g n) refl none (first_none g ns m)
  where
    by : (o : Option X) → g n ≡ o → option_or o (first_of g ns) ≡ None → (first_of g ns ≡ None → Contains ns m → g m ≡ None) → g m ≡ None
    by (Some y) is same rest = cc
    by None is same rest = elim (head_or_tail n ns m there) [ inl here ↦ ap g (sym here) ∙ is | inr later ↦ rest same later ]

-- what a region is heard to say is what it sets, for a group that fits
record IsHeard (n : ℕ) (a : Association) (o : Option Setting) (v : Value) : Type 0 where
  from : n ≡ v.from.0
  setting : Setting
  set : o ≡ Some setting
  fitting : fits setting.group a ≡ true
  state : setting.state ≡ v.state

-- what is heard is set, with a group that fits
is_heard : (n : ℕ) (a : Association) (o : Option Setting) (v : Value) → heard n a o ≡ Some v → IsHeard n a o v
is_heard n a None v is = cc
is_heard n a (Some s) v is = by (fits s.group a) refl is
  where
    by : (b : Bool) → fits s.group a ≡ b → (if b then Some (record { state = s.state; from = region_no n }) else None) ≡ Some v
        → IsHeard n a (Some s) v
    by true fitting same =
        let one : record { state = s.state; from = region_no n } ≡ v = cc in
        record {
          from = ap (λ (x : Value). x.from.0) one;
          setting = s;
          set = refl;
          fitting = fitting;
          state = ap (λ (x : Value). x.state) one;
        }
    by false fitting same = cc

-- what is set with a group that fits is heard
heard_is : (a : Association) (o : Option Setting) (s : Setting) (v : Value) → o ≡ Some s → fits s.group a ≡ true
    → s.state ≡ v.state → heard v.from.0 a o ≡ Some v
heard_is a o s v set fitting state =
    ap (heard v.from.0 a) set
    ∙ ap (λ b. if b then Some (record { state = s.state; from = v.from }) else None) fitting
    ∙ ap (λ t. Some (record { state = t; from = v.from })) state

pub value_is_inherited : ValueIsInherited
unfolding effective value_at
value_is_inherited rs s f n v is =
    let first = first_is (value_at rs f (association rs s n)) (ancestors rs n) v is in
    let it = is_heard first.number (association rs s n) (setting_at rs first.number f) v first.answers in
    record {
      nearer = first.before;
      farther = first.after;
      ancestry = first.parts ∙ ap (λ k. first.before ++ k ∷ first.after) it.from;
      setting = it.setting;
      set = sym (ap (λ k. setting_at rs k f) it.from) ∙ it.set;
      fitting = it.fitting;
      state = it.state;
      silent = first.silent;
    }

pub inherited_is_the_value : InheritedIsTheValue
unfolding effective value_at
inherited_is_the_value rs s f n v is =
    let a = association rs s n in
    let set = heard_is a (setting_at rs v.from.0 f) is.setting v is.set is.fitting is.state in
    ap (first_of (value_at rs f a)) is.ancestry ∙ first_past (value_at rs f a) is.nearer v.from.0 is.farther v is.silent set

pub value_is_from_the_ancestry : ValueIsFromTheAncestry
unfolding is_under
value_is_from_the_ancestry rs s f n v is =
    let it = value_is_inherited rs s f n v is in
    let there = Contains-append_right it.nearer (v.from.0 ∷ it.farther) v.from.0 (at_head v.from.0 it.farther) in
    ap (list_any (nat_eq v.from.0)) it.ancestry
    ∙ any_at (nat_eq v.from.0) (it.nearer ++ v.from.0 ∷ it.farther) v.from.0 there (eq-eqb v.from.0 v.from.0 refl)

pub no_value_is_set : NoValueIsSet
unfolding effective
no_value_is_set rs s f n m none there = first_none (value_at rs f (association rs s n)) (ancestors rs n) m none there
