-- Patches added for the shape of a number.
use Rattle.std.proofs.Common.{◌≡◌, inl, inr, ℕ, ◌+◌, ◌≤◌, Bool, true, false, ◌&&◌, nat_eq, List, [], ◌∷◌, ◌++◌, None, Some, refl, ap, sym, ◌∙◌, subst, arith}
use Rattle.std.specs.List.{AllByRecursion}
use Rattle.std.proofs.lemmas.Bool.{and_from, both_ways, cases_Bool, eq-eqb, or_left, or_right}
use Rattle.std.proofs.lemmas.List.{append-nil, append_assoc}
use Rattle.std.proofs.lemmas.List.Folds.{list_any-append}
use Rattle.vx_base.proofs.Lists.{all_weaker}
use Rattle.vx_geom.specs.declared.extent.Extent.{Extent}
use Rattle.vx_geom.specs.declared.pos.Pos.{Pos}
use Rattle.vx_geom.specs.Extent.{is_within, extent_of, meets}
use Rattle.vx_geom.specs.Outline.{Outline, is_in}
use Rattle.vx_geom.proofs.Columns.{extents_meet}
use Rattle.vx_geom.proofs.Enclosing.{shapes_lie_within}
use Rattle.vx_index.specs.declared.patch.Patch.{Patch}
use Rattle.vx_index.specs.Patches.{square, band_of_square, HoldsThere, are_near, AreInOrder, IsMet, Adds, AddsAny}
use Rattle.vx_index.proofs.Squares.{rows_before, no_rows, band_or_before, all_rows}

-- a patch of the region that has the column is near
abbrev pub is_near : ℕ → Pos → Patch → Bool
is_near n p patch = is_within patch.columns p && nat_eq n patch.number

pub near_from : (n : ℕ) (p : Pos) (patch : Patch) → patch.number ≡ n → is_within patch.columns p ≡ true → is_near n p patch ≡ true
near_from n p patch same within =
    and_from (is_within patch.columns p) (nat_eq n patch.number) within (eq-eqb n patch.number (sym same))

pub near_left : (xs ys : List Patch) (i : ℕ) (p : Pos) → are_near xs i p ≡ true → are_near (xs ++ ys) i p ≡ true
near_left xs ys i p near = list_any-append (is_near i p) xs ys ∙ or_left (are_near xs i p) (are_near ys i p) near

pub near_right : (xs ys : List Patch) (i : ℕ) (p : Pos) → are_near ys i p ≡ true → are_near (xs ++ ys) i p ≡ true
near_right xs ys i p near = list_any-append (is_near i p) xs ys ∙ or_right (are_near xs i p) (are_near ys i p) near

pub near_last : (xs : List Patch) (patch : Patch) (i : ℕ) (p : Pos) → is_near i p patch ≡ true → are_near (xs ++ patch ∷ []) i p ≡ true
near_last xs patch i p near = near_right xs (patch ∷ []) i p (or_left (is_near i p patch) false near)

pub all_append : (P : Patch → Type 0) (xs ys : List Patch) → AllByRecursion P xs → AllByRecursion P ys → AllByRecursion P (xs ++ ys)
all_append P [] ys left right = right
all_append P (x ∷ xs) ys left right = (left.0, all_append P xs ys left.1 right)

-- no patch is added where the shape contains no position of the columns
pub adds_none : (number : ℕ) (o : Outline) (columns : Extent) (patches : List Patch)
    → ((p : Pos) → is_within columns p ≡ true → is_in o p ≡ true → ⊥) → Adds number o columns patches patches
adds_none number o columns patches none = record {
  added = [];
  after = sym (append-nil patches);
  own = tt;
  whole = λ p within inside. absurd (none p within inside);
}

-- nor where its columns don't meet them
pub adds_apart : (number : ℕ) (o : Outline) (columns : Extent) (patches : List Patch) → meets (extent_of o) columns ≡ false
    → Adds number o columns patches patches
adds_apart number o columns patches apart =
    adds_none number o columns patches
    (λ p within inside. both_ways _ apart (extents_meet (extent_of o) columns p (shapes_lie_within o p inside) within))

-- one patch has all columns of the shape
pub adds_one : (number : ℕ) (o : Outline) (columns : Extent) (old new : List Patch) (patch : Patch) → new ≡ old ++ patch ∷ []
    → patch.number ≡ number → patch.columns ≡ extent_of o → Adds number o columns old new
adds_one number o columns old new patch after own same = record {
  added = patch ∷ [];
  after = after;
  own = (own, tt);
  whole = λ p within inside. near_last [] patch number p (near_from number p patch own
      (ap (λ e. is_within e p) same ∙ shapes_lie_within o p inside));
}

-- the bands so far, of which there are none yet
pub bands_begin : (number : ℕ) (o : Outline) (west north z : ℕ) (patches : List Patch) → z ≡ north
    → Adds number o (rows_before west north z) patches patches
bands_begin number o west north z patches first =
    adds_none number o (rows_before west north z) patches
    (λ p within inside. no_rows west north p (subst (λ n. is_within (rows_before west north n) p ≡ true) first within))

-- a band in which the shape has no column
pub band_skipped : (number : ℕ) (o : Outline) (west north z next : ℕ) (old new : List Patch) → next ≡ z + 8
    → HoldsThere o (band_of_square west z) None → Adds number o (rows_before west north z) old new
    → Adds number o (rows_before west north next) old new
band_skipped number o west north z next old new further band adds = record {
  added = adds.added;
  after = adds.after;
  own = adds.own;
  whole = λ p within inside. elim (band_or_before west north z p (subst (λ n. is_within (rows_before west north n) p ≡ true) further within)) [
    | inl before ↦ adds.whole p before inside
    | inr here ↦
        let none : false ≡ true = band p here inside in
        absurd (both_ways false refl none)
  ];
}

-- a band with a patch
pub band_added : (number : ℕ) (o : Outline) (west north z next : ℕ) (old new pushed : List Patch) (patch : Patch) → next ≡ z + 8
    → HoldsThere o (band_of_square west z) (Some patch.columns) → patch.number ≡ number → pushed ≡ new ++ patch ∷ []
    → Adds number o (rows_before west north z) old new → Adds number o (rows_before west north next) old pushed
band_added number o west north z next old new pushed patch further band own push adds = record {
  added = adds.added ++ patch ∷ [];
  after = push ∙ ap (λ ps. ps ++ patch ∷ []) adds.after ∙ append_assoc old adds.added (patch ∷ []);
  own = all_append (λ d. d.number ≡ number) adds.added (patch ∷ []) adds.own (own, tt);
  whole = λ p within inside. elim (band_or_before west north z p (subst (λ n. is_within (rows_before west north n) p ≡ true) further within)) [
    | inl before ↦ near_left adds.added (patch ∷ []) number p (adds.whole p before inside)
    | inr here ↦ near_last adds.added patch number p
        (near_from number p patch own (band p here inside))
  ];
}

-- all bands
pub bands_end : (number : ℕ) (o : Outline) (west north z : ℕ) (old new : List Patch) → z ≡ north + 32
    → Adds number o (rows_before west north z) old new → Adds number o (square west north) old new
bands_end number o west north z old new last adds =
    subst (λ e. Adds number o e old new) (all_rows west north z last) adds

-- the patches of one number have it
all_same : (P : Type 0) (added : List Patch) → P → AllByRecursion (λ patch. P) added
all_same P [] holds = tt
all_same P (d ∷ ds) holds = (holds, all_same P ds holds)

-- a list that is no longer than before got nothing
none_added : (old added : List Patch) → old ≡ old ++ added → added ≡ []
none_added [] added same = sym same
none_added (d ∷ ds) added same = let rest : ds ≡ ds ++ added = cc in none_added ds added rest

-- where patches are added the shape's columns meet the others
pub added_met : (o : Outline) (columns : Extent) (old new added : List Patch) → new ≡ old ++ added → (meets (extent_of o) columns ≡ false → new ≡ old)
    → AllByRecursion (λ patch. meets (extent_of o) columns ≡ true) added
added_met o columns old new added after apart = elim (cases_Bool (meets (extent_of o) columns)) [
  | inl holds ↦ all_same _ added holds
  | inr fails ↦
      let none : added ≡ [] = none_added old added (sym (apart fails) ∙ after) in
      subst (AllByRecursion (λ (patch : Patch). meets (extent_of o) columns ≡ true)) (sym none) tt
]

-- no shape adds no patch
pub any_none : (number : ℕ) (columns : Extent) (patches : List Patch) → AddsAny number None columns patches patches
any_none number columns patches = record {
  added = [];
  after = sym (append-nil patches);
  own = tt;
  whole = λ o p is within inside. let none : None ≡ Some o = is in cc;
  met = tt;
}

-- and one adds its own
pub any_some : (number : ℕ) (o : Outline) (columns : Extent) (old new : List Patch) → Adds number o columns old new
    → (meets (extent_of o) columns ≡ false → new ≡ old) → AddsAny number (Some o) columns old new
any_some number o columns old new adds apart = record {
  added = adds.added;
  after = adds.after;
  own = adds.own;
  whole = λ d p is within inside. let same : o ≡ d = cc in adds.whole p within (subst (λ x. is_in x p ≡ true) (sym same) inside);
  met = all_weaker (λ patch. meets (extent_of o) columns ≡ true) (λ patch. IsMet (Some o) columns) (λ patch meet. (o, refl, meet)) adds.added
      (added_met o columns old new adds.added adds.after apart);
}

-- the patches of one number stand in order
pub order_own : (i n : ℕ) (added : List Patch) → n ≤ i → AllByRecursion (λ patch. patch.number ≡ i) added → AreInOrder n added
order_own i n [] low own = tt
order_own i n (d ∷ ds) low own = (omega (arith, own.0), order_own i d.number ds (omega (arith, own.0)) own.1)
