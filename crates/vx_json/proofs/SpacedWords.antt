-- Words with a space between each two are cut into these words.
use Rattle.std.proofs.Common.{◌≡◌, ℕ, nat_eq, nat_le, Bool, true, false, not, ◌&&◌, List, [], ◌∷◌, ◌++◌, filter, refl, ap, ◌∙◌, arith}
use Rattle.std.specs.List.{All, list_all, slice_split}
use Rattle.std.specs.Str.{all_ascii_digits}
use Rattle.std.proofs.lemmas.Bool.{and_parts, leb-true, ne_eqb}
use Rattle.std.proofs.lemmas.List.Splits.{slice_split_none, slice_split_at}
use Rattle.std.proofs.lemmas.List.Sums.{AllPass-from_list_all}
use Rattle.vx_grammar.specs.Words.{is_word, words_of}

-- a byte other than a space
abbrev pub is_solid : ℕ → Bool
is_solid b = not (nat_eq b 32)

-- a word of a line: it has a byte, and no space
pub record IsSolid (word : List ℕ) : Type 0 where
  pub some : is_word word ≡ true
  pub solid : list_all is_solid word ≡ true

-- words with a space between each two
abbrev pub spaced : List ℕ → List (List ℕ) → List ℕ
spaced word [] = word
spaced word (next ∷ words) = word ++ 32 ∷ spaced next words

-- each of these is a word
abbrev pub AreSolid : List (List ℕ) → Type 0
AreSolid [] = Unit {0}
AreSolid (word ∷ words) = IsSolid word × AreSolid words

not_so : (b : Bool) → not b ≡ true → b ≡ false
not_so true h = cc
not_so false h = refl

no_space : (word : List ℕ) → list_all is_solid word ≡ true → All (λ b. nat_eq b 32 ≡ false) word
no_space word each k d low = not_so _ (AllPass-from_list_all is_solid word each k d low)

kept : (word : List ℕ) (words : List (List ℕ)) → is_word word ≡ true → filter is_word (word ∷ words) ≡ word ∷ filter is_word words
kept word words is = rw is refl

pub cut_again : (word : List ℕ) (words : List (List ℕ)) → IsSolid word → AreSolid words → words_of (spaced word words) ≡ word ∷ words
unfolding words_of
cut_again word [] first others =
    ap (filter is_word) (slice_split_none (λ b. nat_eq b 32) word (no_space word first.solid)) ∙ kept word [] first.some
cut_again word (next ∷ words) first others =
    ap (filter is_word) (slice_split_at (λ b. nat_eq b 32) word 32 (spaced next words) (no_space word first.solid) refl)
    ∙ kept word (slice_split (λ b. nat_eq b 32) (spaced next words)) first.some
    ∙ ap (λ rest. word ∷ rest) (cut_again next words others.0 others.1)

-- digits have no space
pub digits_solid : (ds : List ℕ) → all_ascii_digits ds ≡ true → list_all is_solid ds ≡ true
digits_solid [] each = refl
digits_solid (d ∷ ds) each =
    let parts = and_parts (nat_le 48 d && nat_le d 57) (all_ascii_digits ds) each in
    let low = leb-true 48 d (and_parts (nat_le 48 d) (nat_le d 57) parts.0).0 in
    rw (ne_eqb d 32 (λ e. omega arith)) (digits_solid ds parts.1)
