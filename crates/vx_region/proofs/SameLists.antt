-- The turns of a loop over two lists at one index, whose invariant speaks of what is left of both, `same_left test xs ys i`.
use Rattle.std.proofs.Common.{◌≡◌, ℕ, ◌+◌, Bool, true, false, ◌&&◌, List, ◌∷◌, drop, Some, slice_get, ap, ◌∙◌}
use Rattle.std.specs.Cmp.Lexicographic.{pointwise}
use Rattle.vx_base.proofs.Lists.{drop_at}

-- what is left of both is the same
abbrev pub same_left : {X : Type 0} → (X → X → Bool) → List X → List X → ℕ → Bool
same_left test xs ys i = pointwise test (drop i xs) (drop i ys)

module _ {X : Type 0} (test : X → X → Bool) (xs ys : List X) (i : ℕ) where
  -- the two items at hand come first
  same_on : (x y : X) → slice_get xs i ≡ Some x → slice_get ys i ≡ Some y → same_left test xs ys i ≡ (test x y && same_left test xs ys (i + 1))
  same_on x y at_xs at_ys = ap (λ l. pointwise test l (drop i ys)) (drop_at xs i x at_xs) ∙ ap (λ l. pointwise test (x ∷ drop (i + 1) xs) l) (drop_at ys i y at_ys)

  -- they are not the same
  pub same_stops : (x y : X) → slice_get xs i ≡ Some x → slice_get ys i ≡ Some y → test x y ≡ false → same_left test xs ys i ≡ false
  same_stops x y at_xs at_ys fails = same_on x y at_xs at_ys ∙ ap (λ b. b && same_left test xs ys (i + 1)) fails

  -- they are the same
  pub same_next : (x y : X) → slice_get xs i ≡ Some x → slice_get ys i ≡ Some y → test x y ≡ true → same_left test xs ys i ≡ same_left test xs ys (i + 1)
  same_next x y at_xs at_ys passes = same_on x y at_xs at_ys ∙ ap (λ b. b && same_left test xs ys (i + 1)) passes
