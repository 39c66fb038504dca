-- The patches of a tile after the shape of a number became another or is gone.
use Rattle.std.proofs.Common.{◌≡◌, ◌≢◌, inl, inr, ℕ, ◌≤◌, Bool, true, false, nat_eq, nat_lt, List, [], ◌∷◌, ◌++◌, filter, Option, Some, option_map, ap, sym, ◌∙◌, subst, arith}
use Rattle.std.specs.List.{AllByRecursion}
use Rattle.std.proofs.lemmas.Bool.{and_parts, both_ways, cases_eq, cases_lt, eqb-true, lt-ltb, ltb-true, or_parts}
use Rattle.std.proofs.lemmas.Map.Views.{any-filter_same}
use Rattle.vx_base.proofs.Lists.{all_weaker}
use Rattle.vx_geom.specs.declared.extent.Extent.{Extent}
use Rattle.vx_geom.specs.declared.pos.Pos.{Pos}
use Rattle.vx_geom.specs.Extent.{is_within, extent_of, meets}
use Rattle.vx_geom.specs.Outline.{Outline, is_in}
use Rattle.vx_geom.proofs.Columns.{extents_meet}
use Rattle.vx_geom.proofs.Enclosing.{shapes_lie_within}
use Rattle.vx_index.specs.declared.patch.Patch.{Patch}
use Rattle.vx_index.specs.Patches.{are_near, AreTold, IsMet, AreOf, AddsAny}
use Rattle.vx_index.specs.Shapes.{Shapes, renewed_at}
use Rattle.vx_index.specs.Touching.{AreTouched, any_meets, touches}
use Rattle.vx_index.specs.declared.touched.Touched.{Touched}
use Rattle.vx_index.proofs.Adding.{is_near, near_left, near_right, all_append, order_own}
use Rattle.vx_index.proofs.Orders.{order_raise, order_filter, order_join, all_kept}
use Rattle.vx_index.proofs.Shapes.{at_number, elsewhere}

-- the number that a near patch has
near_number : (n : ℕ) (q : Pos) (d : Patch) → is_near n q d ≡ true → d.number ≡ n
near_number n q d near = sym (eqb-true n d.number (and_parts (is_within d.columns q) (nat_eq n d.number) near).1)

-- the patches of earlier numbers, and of later ones
abbrev pub is_before : ℕ → Patch → Bool
is_before n d = nat_lt d.number n

abbrev pub is_behind : ℕ → Patch → Bool
is_behind n d = nat_lt n d.number

-- a patch that is near is kept with all of its number
near_kept : (f : Patch → Bool) (n : ℕ) (q : Pos) → ((d : Patch) → d.number ≡ n → f d ≡ true) → (patches : List Patch)
    → are_near patches n q ≡ true → are_near (filter f patches) n q ≡ true
near_kept f n q keeps patches near = any-filter_same (is_near n q) f true (λ d at. keeps d (near_number n q d at)) patches ∙ near

-- two facts on all patches
all_both : (P Q : Patch → Type 0) (patches : List Patch) → AllByRecursion P patches → AllByRecursion Q patches → AllByRecursion (λ d. P d × Q d) patches
all_both P Q [] ps qs = tt
all_both P Q (d ∷ ds) ps qs = ((ps.0, qs.0), all_both P Q ds ps.1 qs.1)

-- the patches before the number, those that were added for it, and those behind it
pub parted : (n : ℕ) (o : Option Outline) (columns : Extent) (old low mid new : List Patch) → low ≡ filter (is_before n) old
    → (adds : AddsAny n o columns low mid) → new ≡ mid ++ filter (is_behind n) old
    → new ≡ (filter (is_before n) old ++ adds.added) ++ filter (is_behind n) old
parted n o columns old low mid new is_low adds is_new =
    is_new ∙ ap (λ ds. ds ++ filter (is_behind n) old) (adds.after ∙ ap (λ ds. ds ++ adds.added) is_low)

-- where no columns of a shape are touched it does not meet these
apart_from : (columns : Extent) (shape : Option Outline) (extent : Option Extent) (o : Outline) → extent ≡ option_map extent_of shape → shape ≡ Some o
    → any_meets extent columns ≡ false → meets (extent_of o) columns ≡ false
apart_from columns shape extent o are is apart =
    sym (ap (λ (e : Option Extent). any_meets e columns) (are ∙ ap (option_map extent_of) is)) ∙ apart

module _ (shapes : Shapes) (columns : Extent) (n : ℕ) (o : Option Outline) (old : List Patch) (of : AreOf shapes columns old) where
  -- the patches of other numbers tell of the shapes there
  told_elsewhere : (m : ℕ) (d : Outline) (q : Pos) → m ≢ n → renewed_at shapes n o m ≡ Some d → is_within columns q ≡ true → is_in d q ≡ true
      → are_near old m q ≡ true
  told_elsewhere m d q other at here inside = of.told m d q (sym (elsewhere shapes n o m other) ∙ at) here inside

  met_other : (d : Patch) → d.number ≢ n → IsMet (shapes d.number) columns → IsMet (renewed_at shapes n o d.number) columns
  met_other d other met = (met.0, elsewhere shapes n o d.number other ∙ met.1, met.2)

  -- they tell of the shapes then
  pub renewed_tells : (low mid new : List Patch) → low ≡ filter (is_before n) old → AddsAny n o columns low mid → new ≡ mid ++ filter (is_behind n) old
      → AreOf (renewed_at shapes n o) columns new
  renewed_tells low mid new is_low adds is_new = subst (AreOf (renewed_at shapes n o) columns) (sym (parted n o columns old low mid new is_low adds is_new)) (record {
    ordered = order_join 0 n (front ++ adds.added) back (omega arith)
        (order_join 0 n front adds.added (omega arith) (order_filter (is_before n) 0 old of.ordered) front_low (order_own n n adds.added (omega arith) adds.own))
        (all_append (λ d. d.number ≤ n) front adds.added front_low (all_weaker (λ d. d.number ≡ n) (λ d. d.number ≤ n) (λ d own. omega (arith, own)) adds.added adds.own))
        (order_raise 0 n back back_high (order_filter (is_behind n) 0 old of.ordered));
    told = tells;
    met = all_append Met (front ++ adds.added) back
        (all_append Met front adds.added
        (all_kept (is_before n) Was Met (λ d is. met_other d (λ same. omega (arith, ltb-true d.number n is, same))) old of.met)
        (all_weaker (λ d. (d.number ≡ n) × IsMet o columns) Met
        (λ d both. (both.1.0, ap (renewed_at shapes n o) both.0 ∙ at_number shapes n o ∙ both.1.1, both.1.2)) adds.added
        (all_both (λ d. d.number ≡ n) (λ d. IsMet o columns) adds.added adds.own adds.met)))
        (all_kept (is_behind n) Was Met (λ d is. met_other d (λ same. omega (arith, ltb-true n d.number is, same))) old of.met);
  })
    where
      front : List Patch
      front = filter (is_before n) old

      back : List Patch
      back = filter (is_behind n) old

      Was : Patch → Type 0
      Was d = IsMet (shapes d.number) columns

      Met : Patch → Type 0
      Met d = IsMet (renewed_at shapes n o d.number) columns

      front_low : AllByRecursion (λ d. d.number ≤ n) front
      front_low = all_kept (is_before n) Was (λ d. d.number ≤ n) (λ d is met. omega (arith, ltb-true d.number n is)) old of.met

      back_high : AllByRecursion (λ d. n ≤ d.number) back
      back_high = all_kept (is_behind n) Was (λ d. n ≤ d.number) (λ d is met. omega (arith, ltb-true n d.number is)) old of.met

      tells : AreTold (renewed_at shapes n o) columns ((front ++ adds.added) ++ back)
      tells m d q at here inside = elim (cases_lt m n) [
        | inl earlier ↦
            near_left (front ++ adds.added) back m q (near_left front adds.added m q
            (near_kept (is_before n) m q (λ x number. lt-ltb x.number n (omega (arith, number, earlier))) old
            (told_elsewhere m d q (λ same. omega (arith, same, earlier)) at here inside)))
        | inr past ↦ elim (cases_lt n m) [
          | inl later ↦
              near_right (front ++ adds.added) back m q
              (near_kept (is_behind n) m q (λ x number. lt-ltb n x.number (omega (arith, number, later))) old
              (told_elsewhere m d q (λ same. omega (arith, same, later)) at here inside))
          | inr not_later ↦
              let number : m ≡ n = omega (arith, past, not_later) in
              let this : o ≡ Some d = sym (at_number shapes n o) ∙ ap (renewed_at shapes n o) (sym number) ∙ at in
              near_left (front ++ adds.added) back m q (near_right front adds.added m q
              (subst (λ k. are_near adds.added k q ≡ true) (sym number) (adds.whole d q this here inside)))
        ]
      ]

  -- where the shape lies elsewhere, and so did the one before, nothing changes
  pub renewed_elsewhere : (touched : Touched) → AreTouched (shapes n) o touched → touches touched columns ≡ false → AreOf (renewed_at shapes n o) columns old
  renewed_elsewhere touched are apart = record {
    ordered = of.ordered;
    told = λ m d q at here inside. elim (cases_eq m n) [
      | inl number ↦
          let this : o ≡ Some d = sym (at_number shapes n o) ∙ ap (renewed_at shapes n o) (sym number) ∙ at in
          absurd (both_ways (meets (extent_of d) columns) (apart_from columns o touched.after d are.after this parts.1)
          (extents_meet (extent_of d) columns q (shapes_lie_within d q inside) here))
      | inr other ↦ told_elsewhere m d q other at here inside
    ];
    met = all_weaker (λ d. IsMet (shapes d.number) columns) (λ d. IsMet (renewed_at shapes n o d.number) columns)
        (λ d met. met_other d (λ same. no_patch d same met) met) old of.met;
  }
    where
      parts : (any_meets touched.before columns ≡ false) × (any_meets touched.after columns ≡ false)
      parts = or_parts (any_meets touched.before columns) (any_meets touched.after columns) apart

      -- no patch is of the number, since the shape there does not meet the columns
      no_patch : (d : Patch) → d.number ≡ n → IsMet (shapes d.number) columns → ⊥
      no_patch d same met =
          both_ways (meets (extent_of met.0) columns)
          (apart_from columns (shapes n) touched.before met.0 are.before (ap shapes (sym same) ∙ met.1) parts.0) met.2
