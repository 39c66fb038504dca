-- Finding the value that has a text, among all values of a type.
use Rattle.std.proofs.Common.{◌≡◌, ◌↔◌, ℕ, Bool, true, false, cond, bytes_eq, List, [], ◌∷◌, find, Option, Some, None, IfSome, refl, sym, ap, ◌∙◌, subst}
use Rattle.std.proofs.lemmas.Slice.Eq.{bytes_eq-Decides}

-- a text that no value has is not found
pub none_named : {A : Type 0} (text_of : A → List ℕ) (all : List A) (text : List ℕ)
    → ((v : A) → text_of v ≡ text → ⊥) → None ≡ find (λ v. bytes_eq (text_of v) text) all
none_named text_of [] text unlike = refl
none_named text_of (v ∷ vs) text unlike =
    by (bytes_eq (text_of v) text) refl (none_named text_of vs text unlike)
  where
    by : (b : Bool) → bytes_eq (text_of v) text ≡ b → None ≡ find (λ w. bytes_eq (text_of w) text) vs
        → None ≡ cond b (Some v) (find (λ w. bytes_eq (text_of w) text) vs)
    by true e further = absurd (unlike v ((bytes_eq-Decides (text_of v) text).0 e))
    by false e further = further

-- what is found has the text
pub has_text : {A : Type 0} (text_of : A → List ℕ) (all : List A) (text : List ℕ) (w : A)
    → find (λ v. bytes_eq (text_of v) text) all ≡ Some w → text_of w ≡ text
has_text text_of [] text w found = cc
has_text text_of (v ∷ vs) text w found = by (bytes_eq (text_of v) text) refl found (has_text text_of vs text w)
  where
    by : (b : Bool) → bytes_eq (text_of v) text ≡ b
        → cond b (Some v) (find (λ u. bytes_eq (text_of u) text) vs) ≡ Some w
        → (find (λ u. bytes_eq (text_of u) text) vs ≡ Some w → text_of w ≡ text) → text_of w ≡ text
    by true e found further = let same : v ≡ w = cc in let has : text_of v ≡ text = (bytes_eq-Decides (text_of v) text).0 e in cc
    by false e found further = further found

-- each value is found by its own text
abbrev pub AreOwn : {A : Type 0} → (A → List ℕ) → List A → Type 0
AreOwn {A} text_of all = (v : A) → find (λ w. bytes_eq (text_of w) (text_of v)) all ≡ Some v

-- then no two values have one text
pub one_named : {A : Type 0} (text_of : A → List ℕ) (all : List A) → AreOwn text_of all
    → (a b : A) → text_of a ≡ text_of b → a ≡ b
one_named text_of all own a b same =
    let found : Some a ≡ Some b =
    sym (own a) ∙ ap (λ t. find (λ w. bytes_eq (text_of w) t) all) same ∙ own b in cc

-- and what is found is exactly what has the text
pub found_exactly : {A : Type 0} (text_of : A → List ℕ) (all : List A) → AreOwn text_of all
    → (text : List ℕ) (v : A) → (find (λ w. bytes_eq (text_of w) text) all ≡ Some v) ↔ (text_of v ≡ text)
found_exactly text_of all own text v =
    (has_text text_of all text v, λ same. subst (λ t. find (λ w. bytes_eq (text_of w) t) all ≡ Some v) same (own v))

-- so what has the text, and is the only one that has it, is what is found
pub named : {A : Type 0} (text_of : A → List ℕ) (all : List A) → AreOwn text_of all
    → (r : Option A) (text : List ℕ) → IfSome r (λ v. text_of v ≡ text)
    → ((v : A) → text_of v ≡ text → r ≡ Some v) → r ≡ find (λ v. bytes_eq (text_of v) text) all
named text_of all own None text found only = none_named text_of all text (λ v same. let wrong = only v same in cc)
named text_of all own (Some v) text found only = sym ((found_exactly text_of all own text v).1 found)
