-- What one name more or less on a list changes.
use Rattle.std.proofs.Common.{◌≡◌, ℕ, Bool, true, false, true≢false, not, ◌&&◌, ◌||◌, if◌then◌else◌, List, [], ◌∷◌, ◌++◌, bytes_eq, inl, inr, refl, ap, sym, ◌∙◌, subst}
use Rattle.std.proofs.Math.Bool.{or-false, or-true}
use Rattle.std.proofs.lemmas.Bool.{or_cases}
use Rattle.std.proofs.lemmas.Map.Views.{any-filter_same}
use Rattle.std.proofs.lemmas.List.Folds.{list_any-append}
use Rattle.std.proofs.lemmas.Slice.Eq.{bytes_eq-Decides}
use Rattle.vx_name.specs.Names.{names, names_with, names_without}
use Rattle.vx_region.specs.Laws.{NamesOneMore, NamesOneLess}

-- a name put among others adds that one and no other
pub names_one_more : (ts : List (List ℕ)) (name : List ℕ) → NamesOneMore ts name (names_with ts name)
names_one_more ts name = by (names ts name) refl
  where
    by : (b : Bool) → names ts name ≡ b → NamesOneMore ts name (if b then ts else ts ++ name ∷ [])
    by true there other = (λ h. inl h, λ s. elim s [ inl h ↦ h | inr same ↦ subst (λ t. names ts t ≡ true) (sym same) there ])
    by false free other =
        let all = list_any-append (bytes_eq other) ts (name ∷ []) in (
          λ h. elim (or_cases (names ts other) (names (name ∷ []) other) (sym all ∙ h)) [
            | inl was ↦ inl was
            | inr is ↦ inr ((bytes_eq-Decides other name).0 (sym (or-false (bytes_eq other name)) ∙ is))
          ],
          λ s. elim s [
            | inl h ↦ all ∙ ap (λ b. b || names (name ∷ []) other) h
            | inr same ↦ all ∙ ap (λ b. names ts other || (b || false)) ((bytes_eq-Decides other name).1 same) ∙ or-true (names ts other)
          ],
        )

-- what is named after a name is taken out of others
named_without : (ts : List (List ℕ)) (name other : List ℕ) → names (names_without ts name) other ≡ (not (bytes_eq name other) && names ts other)
named_without ts name other =
    any-filter_same (bytes_eq other) (λ t. not (bytes_eq name t)) (not (bytes_eq name other))
    (λ t same. ap (λ u. not (bytes_eq name u)) (sym ((bytes_eq-Decides other t).0 same))) ts

-- a name taken out of others takes that one and no other
pub names_one_less : (ts : List (List ℕ)) (name : List ℕ) → NamesOneLess ts name (names_without ts name)
names_one_less ts name other = by (bytes_eq name other) refl
  where
    by : (b : Bool) → bytes_eq name other ≡ b
        → (names (names_without ts name) other ≡ true → (names ts other ≡ true) × (other ≡ name → ⊥))
        × ((names ts other ≡ true) × (other ≡ name → ⊥) → names (names_without ts name) other ≡ true)
    by true is =
        let gone : names (names_without ts name) other ≡ false = named_without ts name other ∙ ap (λ b. not b && names ts other) is in (
          λ h. absurd (true≢false (sym h ∙ gone)),
          λ h. absurd (h.1 (sym ((bytes_eq-Decides name other).0 is))),
        )
    by false is =
        let kept : names (names_without ts name) other ≡ names ts other = named_without ts name other ∙ ap (λ b. not b && names ts other) is in (
          λ h. (sym kept ∙ h, λ same. true≢false (sym ((bytes_eq-Decides name other).1 (sym same)) ∙ is)),
          λ h. kept ∙ h.0,
        )
