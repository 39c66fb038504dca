-- Names as the texts that clauses see.
use Rattle.std.proofs.Common.{◌≡◌, ℕ, suc, length, Bool, true, false, true≢false, cond, not, ◌||◌, if◌then◌else◌, List, [], ◌∷◌, ◌++◌, bytes_eq, refl, ap, sym, ◌∙◌, subst}
use Rattle.std.proofs.lemmas.Slice.Eq.{bytes_eq-Decides}
use Rattle.std.specs.List.{list_any, AllByRecursion, IsDistinct}
use Rattle.std.specs.Set.{remove_key}
use Rattle.indexmap.specs.IndexSet.{insert_key}
use Rattle.vx_name.specs.declared.name.Name.{Name}
use Rattle.vx_name.specs.Names.{names, names_with, names_without}
use Rattle.vx_name.specs.Texts.{texts}

-- two names are the same where their texts are
abbrev same_name : Name → Name → Bool
same_name a b = bytes_eq a.text.bytes b.text.bytes

-- some name passes a test of texts where its text does
pub any_texts : (p : List ℕ → Bool) (ns : List Name) → list_any p (texts ns) ≡ list_any (λ k. p k.text.bytes) ns
any_texts p [] = refl
any_texts p (k ∷ ns) = ap (λ b. p k.text.bytes || b) (any_texts p ns)

-- there are as many texts as names
pub length_texts : (ns : List Name) → length (texts ns) ≡ length ns
length_texts [] = refl
length_texts (k ∷ ns) = ap suc (length_texts ns)

-- a name is among others where its text is among theirs
pub names_texts : (ns : List Name) (n : Name) → names (texts ns) n.text.bytes ≡ list_any (λ k. bytes_eq n.text.bytes k.text.bytes) ns
names_texts ns n = any_texts (bytes_eq n.text.bytes) ns

texts_push : (ns : List Name) (n : Name) → texts (ns ++ n ∷ []) ≡ texts ns ++ n.text.bytes ∷ []
texts_push [] n = refl
texts_push (k ∷ ns) n = ap (λ ts. k.text.bytes ∷ ts) (texts_push ns n)

-- the texts after a name is put among others
pub texts_insert_key : (ns : List Name) (n : Name) → texts (insert_key same_name ns n) ≡ names_with (texts ns) n.text.bytes
texts_insert_key ns n =
    by (list_any (same_name n) ns) ∙ ap (λ b. if b then texts ns else texts ns ++ n.text.bytes ∷ []) (sym (names_texts ns n))
  where
    by : (b : Bool) → texts (if b then ns else ns ++ n ∷ []) ≡ (if b then texts ns else texts ns ++ n.text.bytes ∷ [])
    by true = refl
    by false = texts_push ns n

-- names that are all other than this stay
others_stay : (text : List ℕ) (ns : List Name) → AllByRecursion (λ k. bytes_eq text k.text.bytes ≡ false) ns → names_without (texts ns) text ≡ texts ns
others_stay text [] other = refl
others_stay text (k ∷ ns) other =
    ap (λ b. cond (not b) (k.text.bytes ∷ names_without (texts ns) text) (names_without (texts ns) text)) other.0
    ∙ ap (λ ts. k.text.bytes ∷ ts) (others_stay text ns other.1)

-- the texts after a name is taken out of others, of which no two are the same
pub texts_remove_key : (ns : List Name) (n : Name) → IsDistinct same_name ns → texts (remove_key (same_name n) ns) ≡ names_without (texts ns) n.text.bytes
unfolding IsDistinct
texts_remove_key [] n apart = refl
texts_remove_key (k ∷ ns) n apart = by (same_name n k) refl (texts_remove_key ns n apart.1)
  where
    by : (b : Bool) → same_name n k ≡ b → texts (remove_key (same_name n) ns) ≡ names_without (texts ns) n.text.bytes
        → texts (cond b ns (k ∷ remove_key (same_name n) ns)) ≡ cond (not b) (k.text.bytes ∷ names_without (texts ns) n.text.bytes) (names_without (texts ns) n.text.bytes)
    by true is rest =
        sym (others_stay n.text.bytes ns (subst (λ t. AllByRecursion (λ (d : Name). bytes_eq t d.text.bytes ≡ false) ns) (sym ((bytes_eq-Decides n.text.bytes k.text.bytes).0 is)) apart.0))
    by false is rest = ap (λ ts. k.text.bytes ∷ ts) rest

-- texts among which one is not stay as they are without it
pub absent_stays : (ts : List (List ℕ)) (text : List ℕ) → names ts text ≡ false → names_without ts text ≡ ts
absent_stays [] text absent = refl
absent_stays (t ∷ ts) text absent = by (bytes_eq text t) absent (absent_stays ts text)
  where
    by : (b : Bool) → (b || names ts text) ≡ false → (names ts text ≡ false → names_without ts text ≡ ts)
        → cond (not b) (t ∷ names_without ts text) (names_without ts text) ≡ t ∷ ts
    by true absent rest = absurd (true≢false absent)
    by false absent rest = ap (λ us. t ∷ us) (rest absent)
