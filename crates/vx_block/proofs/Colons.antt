use Rattle.std.proofs.Common.{◌≡◌, ◌≢◌, ℕ, ◌<◌, suc, List, [], ◌∷◌, ◌++◌, length, get_or, None, Some, refl, ap, arith, ne_eqb}
use Rattle.vx_block.specs.Cut.{colon, word_of, tail_of}

-- no byte of the text is a colon
abbrev pub NoColon : List ℕ → Type 0
NoColon text = (i : ℕ) → i < length text → get_or text i 0 ≢ colon

no_colon_rest : (b : ℕ) (text : List ℕ) → NoColon (b ∷ text) → NoColon text
no_colon_rest b text none i below = none (suc i) (omega arith)

-- a text with no colon is one word
pub word_alone : (text : List ℕ) → NoColon text → word_of text ≡ text
word_alone [] none = refl
word_alone (b ∷ text) none =
    rw (ne_eqb b colon (none 0 (omega arith))) (ap (λ t. b ∷ t) (word_alone text (no_colon_rest b text none)))

pub no_tail : (text : List ℕ) → NoColon text → tail_of text ≡ None
no_tail [] none = refl
no_tail (b ∷ text) none =
    rw (ne_eqb b colon (none 0 (omega arith))) (no_tail text (no_colon_rest b text none))

-- the first colon divides the text
pub word_before : (word tail : List ℕ) → NoColon word → word_of (word ++ colon ∷ tail) ≡ word
word_before [] tail none = refl
word_before (b ∷ word) tail none =
    rw (ne_eqb b colon (none 0 (omega arith))) (ap (λ t. b ∷ t) (word_before word tail (no_colon_rest b word none)))

pub tail_behind : (word tail : List ℕ) → NoColon word → tail_of (word ++ colon ∷ tail) ≡ Some tail
tail_behind [] tail none = refl
tail_behind (b ∷ word) tail none =
    rw (ne_eqb b colon (none 0 (omega arith))) (tail_behind word tail (no_colon_rest b word none))
