-- The words of a line that is cut at its first space.
use Rattle.std.proofs.Common.{◌≡◌, ℕ, ◌+◌, ◌<◌, Bool, true, false, not, cond, nat_eq, List, [], ◌∷◌, length, get_or, Some, None, position, filter, refl, sym, ap, subst, arith, inl, inr}
use Rattle.std.specs.List.{position_or_len, before_first, after_first}
use Rattle.std.specs.Str.{IsUtf8}
use Rattle.std.proofs.lemmas.Bool.{eqb-true, cases_lt, lt-ltb}
use Rattle.std.proofs.lemmas.List.Elements.{All-from_get_or}
use Rattle.std.proofs.lemmas.List.Splits.{slice_split_none, slice_split_first}
use Rattle.std.proofs.lemmas.List.Sums.{fails_before_first, passes_at_first, prefix_len-le-length}
use Rattle.std.proofs.lemmas.Str.{IsCharBoundary-before_ascii, IsCharBoundary-after_ascii, IsUtf8-take, IsUtf8-drop}
use Rattle.vx_grammar.specs.Words.{is_word, words_of}

-- the byte is a space
abbrev is_space : ℕ → Bool
is_space b = nat_eq b 32

-- these words, behind the piece where it is one
abbrev pub onto_words : List ℕ → List (List ℕ) → List (List ℕ)
onto_words piece words = cond (is_word piece) (piece ∷ words) words

pub onto_words-some : (piece : List ℕ) (words : List (List ℕ)) → nat_eq (length piece) 0 ≡ false → onto_words piece words ≡ piece ∷ words
onto_words-some [] words h = cc
onto_words-some (b ∷ bs) words h = refl

pub onto_words-none : (piece : List ℕ) (words : List (List ℕ)) → nat_eq (length piece) 0 ≡ true → onto_words piece words ≡ words
onto_words-none [] words h = refl
onto_words-none (b ∷ bs) words h = absurd (omega (arith, eqb-true (length (b ∷ bs)) 0 h))

pub words_of-nil : words_of [] ≡ []
unfolding words_of
words_of-nil = refl

-- a line without a space is one piece
pub words_uncut : (line : List ℕ) → position_or_len is_space line ≡ length line → words_of line ≡ onto_words line []
unfolding words_of
words_uncut line none =
    ap (filter is_word) (slice_split_none is_space line
    (All-from_get_or (λ b. is_space b ≡ false) line 0 (λ i below. fails_before_first is_space line i 0 (subst (λ n. i < n) (sym none) below))))

-- what stands before the first space, and the words after it
pub words_cut : (line piece rest : List ℕ) → piece ≡ before_first is_space line → rest ≡ after_first is_space line → position_or_len is_space line < length line
    → words_of line ≡ onto_words piece (words_of rest)
unfolding words_of
words_cut line piece rest front back some = rw (front, back) (ap (filter is_word) (slice_split_first is_space line 0 some))

-- where no space is found there is none
pub none_found : (line : List ℕ) → None ≡ position is_space line → position_or_len is_space line ≡ length line
none_found line is = elim (cases_lt (position_or_len is_space line) (length line)) [
  | inl below ↦ (let found : None ≡ Some (position_or_len is_space line) = rw (lt-ltb _ _ below) at is in cc)
  | inr beyond ↦ omega (arith, beyond, prefix_len-le-length (λ b. not (is_space b)) line)
]

-- a space is one byte, so a text that is cut at its first space leaves two texts
pub cut_texts : (line piece rest : List ℕ) → piece ≡ before_first is_space line → rest ≡ after_first is_space line → position_or_len is_space line < length line
    → IsUtf8 line → IsUtf8 piece × IsUtf8 rest
cut_texts line piece rest front back some text =
    let place = position_or_len is_space line in
    let one_byte : get_or line place 0 < 128 = omega (arith, eqb-true (get_or line place 0) 32 (passes_at_first is_space line 0 some)) in (
      subst IsUtf8 (sym front) (IsUtf8-take line place text (IsCharBoundary-before_ascii line place some one_byte)),
      subst IsUtf8 (sym back) (IsUtf8-drop line (place + 1) text (IsCharBoundary-after_ascii line place text some one_byte)),
    )
