-- The order of positions: coordinate by coordinate, y first, then z, then x.
use Rattle.std.proofs.Common.{◌≡◌, ◌≢◌, Bool, true, false, ◌||◌, ◌&&◌, if◌then◌else◌, cond, refl, sym, ap, ◌∙◌, Less, Equal, Greater, Some, int_cmp}
use Rattle.std.specs.Prelude.{ℤ, int_lt}
use Rattle.std.specs.Cmp.{IsTotalOrder}
use Rattle.std.specs.Ordering.{is_lt, is_eq, int_eq, on, then_cmp, ordering_then, partial_ordering_then, ordering_reverse}
use Rattle.std.specs.declared.cmp.Ordering.{Ordering}
use Rattle.std.proofs.lemmas.Cmp.{then_total, on_total, int_cmp_total, int_ranked, tied_itself}
use Rattle.vx_geom.specs.declared.pos.Pos.{Pos}
use Rattle.vx_geom.specs.Order.{comes_before, compared, PositionsAreOrdered}
use Rattle.vx_geom.proofs.Positions.{same_pos}

by_coordinates : Pos → Pos → Ordering
by_coordinates = then_cmp (on (λ p. p.y) int_cmp) (then_cmp (on (λ p. p.z) int_cmp) (on (λ p. p.x) int_cmp))

coordinates_total : IsTotalOrder by_coordinates
unfolding by_coordinates
coordinates_total =
    then_total (on_total (λ p. p.y) int_cmp_total)
    (then_total (on_total (λ p. p.z) int_cmp_total) (on_total (λ p. p.x) int_cmp_total))

-- less by the first of two numbers, or equal there and less by the rest
less_then : (l g : Bool) (o : Ordering) → (l || (is_eq (cond l Less (cond g Greater Equal)) && is_lt o))
    ≡ is_lt (ordering_then (cond l Less (cond g Greater Equal)) o)
less_then true g o = refl
less_then false true o = refl
less_then false false o = refl

less_last : (l g : Bool) → l ≡ is_lt (cond l Less (cond g Greater Equal))
less_last true g = refl
less_last false true = refl
less_last false false = refl

comes_before_is : (p q : Pos) → comes_before p q ≡ is_lt (by_coordinates p q)
unfolding comes_before by_coordinates
comes_before_is p q =
    ap (λ b. int_lt p.y q.y || (int_eq p.y q.y && (int_lt p.z q.z || (int_eq p.z q.z && b))))
    (less_last (int_lt p.x q.x) (int_lt q.x p.x))
    ∙ ap (λ b. int_lt p.y q.y || (int_eq p.y q.y && b)) (less_then (int_lt p.z q.z) (int_lt q.z p.z) (int_cmp p.x q.x))
    ∙ less_then (int_lt p.y q.y) (int_lt q.y p.y) (ordering_then (int_cmp p.z q.z) (int_cmp p.x q.x))

told : (o r : Ordering) → r ≡ ordering_reverse o → o ≡ (if is_lt o then Less else if is_lt r then Greater else Equal)
told Less r back = refl
told Equal r back = sym (ap (λ s. if is_lt s then Greater else Equal) back)
told Greater r back = sym (ap (λ s. if is_lt s then Greater else Equal) back)

compared_is : (p q : Pos) → by_coordinates p q ≡ compared p q
compared_is p q =
    told (by_coordinates p q) (by_coordinates q p) (coordinates_total.antisymm q p)
    ∙ ap (λ b. if b then Less else if is_lt (by_coordinates q p) then Greater else Equal) (sym (comes_before_is p q))
    ∙ ap (λ b. if comes_before p q then Less else if b then Greater else Equal) (sym (comes_before_is q p))

pub derived_cmp : (p q : Pos)
    → ordering_then (int_cmp p.y q.y) (ordering_then (int_cmp p.z q.z) (int_cmp p.x q.x)) ≡ compared p q
unfolding by_coordinates
derived_cmp p q = compared_is p q

partial_is : (a b c : Ordering) → partial_ordering_then (Some a) (partial_ordering_then (Some b) (Some c))
    ≡ Some (ordering_then a (ordering_then b c))
partial_is Less b c = refl
partial_is Equal Less c = refl
partial_is Equal Equal c = refl
partial_is Equal Greater c = refl
partial_is Greater b c = refl

pub derived_partial_cmp : (p q : Pos)
    → partial_ordering_then (Some (int_cmp p.y q.y)) (partial_ordering_then (Some (int_cmp p.z q.z)) (Some (int_cmp p.x q.x)))
    ≡ Some (compared p q)
derived_partial_cmp p q = partial_is (int_cmp p.y q.y) (int_cmp p.z q.z) (int_cmp p.x q.x) ∙ ap Some (derived_cmp p q)

less_is : (o : Ordering) → is_lt o ≡ true → o ≡ Less
less_is Less less = refl
less_is Equal less = cc
less_is Greater less = cc

equal_parts : (a b : Ordering) → ordering_then a b ≡ Equal → (a ≡ Equal) × (b ≡ Equal)
equal_parts Less b equal = cc
equal_parts Equal b equal = (refl, equal)
equal_parts Greater b equal = cc

same_at : (a b : ℤ) → int_cmp a b ≡ Equal → a ≡ b
same_at a b equal = int_ranked a b Equal (sym equal)

equal_is : (p q : Pos) → by_coordinates p q ≡ Equal → p ≡ q
unfolding by_coordinates
equal_is p q equal =
    let in_y = equal_parts (int_cmp p.y q.y) (ordering_then (int_cmp p.z q.z) (int_cmp p.x q.x)) equal in
    let in_z = equal_parts (int_cmp p.z q.z) (int_cmp p.x q.x) in_y.1 in
    same_pos p q (same_at p.y q.y in_y.0) (same_at p.z q.z in_z.0) (same_at p.x q.x in_z.1)

one_is_less : (o r : Ordering) → r ≡ ordering_reverse o → o ≢ Equal → (is_lt o || is_lt r) ≡ true
one_is_less Less r back differ = refl
one_is_less Equal r back differ = absurd (differ refl)
one_is_less Greater r back differ = ap is_lt back

pub positions_ordered : PositionsAreOrdered
positions_ordered = record {
  irreflexive = λ p. comes_before_is p p ∙ ap is_lt (tied_itself coordinates_total p);
  transitive = λ p q r first second.
      comes_before_is p r
      ∙ ap is_lt (coordinates_total.trans p q r
      (less_is _ (sym (comes_before_is p q) ∙ first)) (less_is _ (sym (comes_before_is q r) ∙ second)));
  total = λ p q differ.
      ap (λ b. b || comes_before q p) (comes_before_is p q)
      ∙ ap (λ b. is_lt (by_coordinates p q) || b) (comes_before_is q p)
      ∙ one_is_less (by_coordinates p q) (by_coordinates q p) (coordinates_total.antisymm q p)
      (λ equal. differ (equal_is p q equal));
}
