-- A function that is called at each element of a list, and what it leaves of lists that are joined.
use Rattle.std.proofs.Common.{◌≡◌, ℕ, zero, suc, ◌+◌, ◌-◌, ◌<◌, ◌≤◌, ◌⊎◌, List, [], ◌∷◌, ◌++◌, length, get_or, set, refl, sym, ap, ◌∙◌, subst, inl, inr, arith, length-append}
use Rattle.std.proofs.lemmas.Bool.{cases_lt}
use Rattle.std.proofs.lemmas.List.{get_or_append_left, get_or-append_right}
use denote.Ref.{MutBor}
use denote.Param.Members.{Shared}
use Rattle.vx_session.specs.Spread.{Changes, ChangesAll}

module _ {F X : Type 0} (g : Shared F (MutBor X × Unit {0}) (Unit {0} × (MutBor X × Unit {0}))) (f : F) where
  -- of two elements that are these, the one is what a call left of the other
  same_elements : (p q x y : X) → p ≡ x → q ≡ y → Changes g f x y → Changes g f p q
  same_elements p q x y at_p at_q changed =
      subst (λ a. Changes g f a q) (sym at_p) (subst (Changes g f x) (sym at_q) changed)

  -- a call at the one element of a list
  pub one_changed : (xs : List X) (x y : X) → length xs < 2 → x ≡ get_or xs 0 x → Changes g f x y
      → ChangesAll g f xs (set xs 0 y)
  one_changed [] x y few at changed = record { count = refl; each = λ k d within. absurd (omega (arith, within)) }
  one_changed (a ∷ []) x y few at changed = record { count = refl; each = here }
    where
      here : (k : ℕ) (d : X) → k < length (a ∷ []) → Changes g f (get_or (a ∷ []) k d) (get_or (y ∷ []) k d)
      here zero d within = same_elements a y x y (sym at) refl changed
      here (suc k) d within = absurd (omega (arith, within))
  one_changed (a ∷ b ∷ xs) x y few at changed = absurd (omega (arith, few))

  -- calls at the elements of two lists are calls at those of both
  pub both_changed : (front front_after back back_after whole : List X) → whole ≡ front ++ back
      → ChangesAll g f front front_after → ChangesAll g f back back_after
      → ChangesAll g f whole (front_after ++ back_after)
  both_changed front front_after back back_after whole joined these those = record {
    count = omega (arith, ap length joined, length-append front back, length-append front_after back_after, these.count, those.count);
    each = λ k d within. of_half k d (omega (arith, within, ap length joined, length-append front back)) (cases_lt k (length front));
  }
    where
      here : (k : ℕ) (d : X) → get_or whole k d ≡ get_or (front ++ back) k d
      here k d = ap (λ xs. get_or xs k d) joined

      of_half : (k : ℕ) (d : X) → k < length front + length back → (k < length front) ⊎ (length front ≤ k)
          → Changes g f (get_or whole k d) (get_or (front_after ++ back_after) k d)
      of_half k d within (inl before) =
          same_elements (get_or whole k d) (get_or (front_after ++ back_after) k d) (get_or front k d) (get_or front_after k d)
          (here k d ∙ get_or_append_left front back d k before)
          (get_or_append_left front_after back_after d k (omega (arith, before, these.count)))
          (these.each k d before)
      of_half k d within (inr behind) =
          let i = k - length front in
          same_elements (get_or whole k d) (get_or (front_after ++ back_after) k d) (get_or back i d) (get_or back_after i d)
          (here k d ∙ get_or-append_right front back (length front) k d refl behind)
          (get_or-append_right front_after back_after (length front) k d these.count behind)
          (those.each i d (omega (arith, within, behind)))
