-- The first of two positions, and of all that a test holds of.
use Rattle.std.proofs.Common.{◌≡◌, ◌⊎◌, true, false, if◌then◌else◌, inl, inr, Option, None, Some, refl, sym, ap, ◌∙◌, subst}
use Rattle.std.proofs.lemmas.Bool.{both_ways, cases_Bool, or_from, false_from_ne_true}
use Rattle.vx_geom.specs.declared.pos.Pos.{Pos}
use Rattle.vx_geom.specs.Order.{comes_before}
use Rattle.vx_geom.proofs.OrderLemmas.{positions_ordered}
use Rattle.vx_power.specs.Levels.{same_place}
use Rattle.vx_power.proofs.Having.{place_is, place_of}
use Rattle.vx_piston.specs.Claims.{first_of, first_found, before}

-- of two positions at most one comes before the other
pub not_back : (p q : Pos) → comes_before p q ≡ true → comes_before q p ≡ false
not_back p q less =
    false_from_ne_true _ (λ back.
    both_ways _ (positions_ordered.irreflexive p) (positions_ordered.transitive p q p less back))

-- where none does they are one
pub one_place : (p q : Pos) → comes_before p q ≡ false → comes_before q p ≡ false → p ≡ q
one_place p q no_less no_more = elim (cases_Bool (same_place p q)) [
  | inl same ↦ place_is p q same
  | inr apart ↦
      absurd (both_ways _ (or_from _ _ no_less no_more)
      (positions_ordered.total p q (λ same. both_ways _ apart (place_of p q same))))
]

-- what is no later than q comes before what q comes before
pub no_later : (p q r : Pos) → comes_before q p ≡ false → comes_before q r ≡ true → comes_before p r ≡ true
no_later p q r no_more less = elim (cases_Bool (comes_before p q)) [
  | inl first ↦ positions_ordered.transitive p q r first less
  | inr no_less ↦ subst (λ s. comes_before s r ≡ true) (sym (one_place p q no_less no_more)) less
]

-- the other comes before
pub other_first : (p q : Pos) → comes_before q p ≡ true → first_of p (Some q) ≡ Some q
other_first p q less = ap (λ b. if b then Some q else Some p) less

-- the other does not
pub own_first : (p q : Pos) → comes_before q p ≡ false → first_of p (Some q) ≡ Some p
own_first p q no_less = ap (λ b. if b then Some q else Some p) no_less

-- the first of two, whichever is named first
first_back : (p q : Pos) → first_of p (Some q) ≡ first_of q (Some p)
first_back p q = elim (cases_Bool (comes_before q p)) [
  | inl less ↦ other_first p q less ∙ sym (own_first q p (not_back q p less))
  | inr no_less ↦ elim (cases_Bool (comes_before p q)) [
    | inl more ↦ own_first p q no_less ∙ sym (other_first q p more)
    | inr no_more ↦
        own_first p q no_less ∙ ap Some (one_place p q no_more no_less) ∙ sym (own_first q p no_more)
  ]
]

-- the first of some and of two more, whichever of the two is added first
pub first_swapped : (a b : Pos) (o : Option Pos) → first_of a (first_of b o) ≡ first_of b (first_of a o)
first_swapped a b None = first_back a b
first_swapped a b (Some c) = elim (cases_Bool (comes_before c b)) [
  | inl c_b ↦ elim (cases_Bool (comes_before c a)) [
    | inl c_a ↦
        ap (first_of a) (other_first b c c_b) ∙ other_first a c c_a
        ∙ sym (ap (first_of b) (other_first a c c_a) ∙ other_first b c c_b)
    | inr a_c ↦
        ap (first_of a) (other_first b c c_b) ∙ own_first a c a_c
        ∙ sym (ap (first_of b) (own_first a c a_c) ∙ other_first b a (no_later a c b a_c c_b))
  ]
  | inr b_c ↦ elim (cases_Bool (comes_before c a)) [
    | inl c_a ↦
        ap (first_of a) (own_first b c b_c) ∙ other_first a b (no_later b c a b_c c_a)
        ∙ sym (ap (first_of b) (other_first a c c_a) ∙ own_first b c b_c)
    | inr a_c ↦
        ap (first_of a) (own_first b c b_c) ∙ first_back a b
        ∙ sym (ap (first_of b) (own_first a c a_c))
  ]
]

-- one that was added already
pub first_again : (a : Pos) (o : Option Pos) → first_of a (first_of a o) ≡ first_of a o
first_again a None = own_first a a (positions_ordered.irreflexive a)
first_again a (Some c) = elim (cases_Bool (comes_before c a)) [
  | inl less ↦ ap (first_of a) (other_first a c less)
  | inr no_less ↦
      ap (first_of a) (own_first a c no_less) ∙ own_first a a (positions_ordered.irreflexive a)
      ∙ sym (own_first a c no_less)
]

-- the first of all positions that P holds of, or none where it holds of none
abbrev pub IsFirst : (Pos → Type 0) → Option Pos → Type 0
IsFirst P None = (q : Pos) → P q → ⊥
IsFirst P (Some p) = P p × ((q : Pos) → P q → comes_before q p ≡ false)

-- the same of what holds of the same positions
pub first_same : {P Q : Pos → Type 0} (o : Option Pos) → ((q : Pos) → P q → Q q) → ((q : Pos) → Q q → P q)
    → IsFirst P o → IsFirst Q o
first_same None to back first = λ q is. first q (back q is)
first_same (Some p) to back first = (to p first.0, λ q is. first.1 q (back q is))

-- there is one first
pub one_first : (P : Pos → Type 0) (o r : Option Pos) → IsFirst P o → IsFirst P r → o ≡ r
one_first P None None one other = refl
one_first P None (Some b) one other = absurd (one b other.0)
one_first P (Some a) None one other = absurd (other a one.0)
one_first P (Some a) (Some b) one other = ap Some (one_place a b (other.1 a one.0) (one.1 b other.0))

-- the first of those that either holds of
pub first_either : (P Q : Pos → Type 0) (o r : Option Pos) → IsFirst P o → IsFirst Q r
    → IsFirst (λ q. P q ⊎ Q q) (first_found o r)
first_either P Q None None one other = λ q is. elim is [ inl p ↦ one q p | inr r ↦ other q r ]
first_either P Q None (Some b) one other = (
  inr other.0,
  λ q is. elim is [ inl p ↦ absurd (one q p) | inr r ↦ other.1 q r ],
)
first_either P Q (Some a) None one other = (
  inl one.0,
  λ q is. elim is [ inl p ↦ one.1 q p | inr r ↦ absurd (other q r) ],
)
first_either P Q (Some a) (Some b) one other = elim (cases_Bool (comes_before b a)) [
  | inl less ↦ subst (IsFirst (λ q. P q ⊎ Q q)) (sym (other_first a b less)) (
    inr other.0,
    λ q is. elim is [
      | inl p ↦ false_from_ne_true _ (λ more.
          both_ways _ (one.1 q p) (positions_ordered.transitive q b a more less))
      | inr r ↦ other.1 q r
    ],
  )
  | inr no_less ↦ subst (IsFirst (λ q. P q ⊎ Q q)) (sym (own_first a b no_less)) (
    inl one.0,
    λ q is. elim is [
      | inl p ↦ one.1 q p
      | inr r ↦ false_from_ne_true _ (λ more. both_ways _ no_less (no_later b q a (other.1 q r) more))
    ],
  )
]

-- the first of those that come before a position
pub first_before : (P : Pos → Type 0) (at : Pos) (o : Option Pos) → IsFirst P o
    → IsFirst (λ q. P q × (comes_before q at ≡ true)) (before at o)
first_before P at None first = λ q is. first q is.0
first_before P at (Some p) first = elim (cases_Bool (comes_before p at)) [
  | inl less ↦ subst (IsFirst (λ q. P q × (comes_before q at ≡ true)))
      (sym (ap (λ b. if b then Some p else None) less)) ((first.0, less), λ q is. first.1 q is.0)
  | inr no_less ↦ subst (IsFirst (λ q. P q × (comes_before q at ≡ true)))
      (sym (ap (λ b. if b then Some p else None) no_less))
      (λ q is. both_ways _ no_less (no_later p q at (first.1 q is.0) is.1))
]
