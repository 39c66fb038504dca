-- Where a list of bytes is cut at its first line feed.
use Rattle.std.proofs.Common.{◌≡◌, ℕ, suc, ◌+◌, ◌-◌, ◌<◌, ◌≤◌, Bool, true, false, cond, ◌==◌, if◌then◌else◌, nat_lt, List, [], ◌∷◌, ◌++◌, length, take, drop, get_or, slice_range, position, Option, Some, None, refl, ap, sym, ◌∙◌, subst, arith, add-one, length-drop, drop-cons}
use Rattle.std.specs.List.{position_or_len, onto_first}
use Rattle.std.proofs.lemmas.List.{take-append-drop, drop-take, drop-drop, length-take-le, get_or-take}
use Rattle.std.proofs.lemmas.List.Elements.{recursion_from_All}
use Rattle.std.proofs.lemmas.List.Sums.{fails_before_first, passes_at_first, position_or_len_is}
use Rattle.std.proofs.lemmas.Bool.{eqb-true, false_from_ne_true, lt-ltb, ltb-true, ltb-false}
use Rattle.memchr.specs.Find.{IsFirstByte, is_byte}
use Rattle.vx_lines.specs.Lines.{line_feed, lines_of, IsPiece}

abbrev pub is_feed : ℕ → Bool
is_feed b = b == line_feed

-- where a search finds the first one
pub first_feed : (bytes : List ℕ) (found : Option ℕ) → IsFirstByte (is_byte 10) bytes found → found ≡ position is_feed bytes
first_feed bytes None nowhere =
    let past : position_or_len is_feed bytes ≡ length bytes =
    position_or_len_is is_feed bytes (length bytes) 0 (omega arith) (λ k small. false_from_ne_true _ (nowhere k (omega arith) small))
    (λ small. absurd (omega (arith, small)))
    in
    let not_within : nat_lt (position_or_len is_feed bytes) (length bytes) ≡ false =
    false_from_ne_true _ (λ yes. omega (arith, ltb-true _ _ yes, past))
    in
    sym (ap (λ b. cond b (Some (position_or_len is_feed bytes)) None) not_within)
first_feed bytes (Some k) first =
    let at : position_or_len is_feed bytes ≡ k =
    position_or_len_is is_feed bytes k 0 (omega (arith, first.0.high)) (λ j small. false_from_ne_true _ (first.0.before j (omega arith) small))
    (λ _. first.1)
    in
    sym (
    ap (λ n. cond (nat_lt n (length bytes)) (Some n) None) at
    ∙ ap (λ b. cond b (Some k) None) (lt-ltb k (length bytes) first.0.high)
    )

found_at : (b : Bool) (n i : ℕ) → cond b (Some n) None ≡ Some i → (b ≡ true) × (n ≡ i)
found_at true n i h = (refl, cc)
found_at false n i h = cc

not_found : (b : Bool) (n : ℕ) → cond b (Some n) None ≡ None → b ≡ false
not_found true n h = cc
not_found false n h = refl

-- the bytes before the first line feed, and those behind it
pub cut_at : (bytes : List ℕ) (i : ℕ) → position is_feed bytes ≡ Some i → (i < length bytes) × IsPiece (take i bytes) × (bytes ≡ take i bytes ++ line_feed ∷ drop (i + 1) bytes)
cut_at bytes i at =
    let found = found_at (nat_lt (position_or_len is_feed bytes) (length bytes)) (position_or_len is_feed bytes) i at in
    let passes = ltb-true (position_or_len is_feed bytes) (length bytes) found.0 in
    let within : i < length bytes = omega (arith, found.1) in
    let feed : get_or bytes i 0 ≡ line_feed = subst (λ n. get_or bytes n 0 ≡ line_feed) found.1 (eqb-true _ _ (passes_at_first is_feed bytes 0 passes)) in
    let before : (k d : ℕ) → k < length (take i bytes) → is_feed (get_or (take i bytes) k d) ≡ false = λ k d small.
    let below : k < i = omega (arith, length-take-le i bytes (omega arith)) in
    subst (λ b. is_feed b ≡ false) (sym (get_or-take i bytes k d below)) (fails_before_first is_feed bytes k d (omega (arith, found.1)))
    in
    let rest : drop i bytes ≡ line_feed ∷ drop (i + 1) bytes = rw add-one (drop-cons bytes i 0 within ∙ ap (λ b. b ∷ drop (suc i) bytes) feed) in
    (within, recursion_from_All (λ b. is_feed b ≡ false) (take i bytes) before, sym (take-append-drop i bytes) ∙ ap (λ ys. take i bytes ++ ys) rest)

-- no line feed among the bytes
pub uncut : (bytes : List ℕ) → position is_feed bytes ≡ None → IsPiece bytes
uncut bytes at =
    let past = ltb-false (position_or_len is_feed bytes) (length bytes) (not_found (nat_lt (position_or_len is_feed bytes) (length bytes)) (position_or_len is_feed bytes) at) in
    recursion_from_All (λ b. is_feed b ≡ false) bytes (λ k d small. fails_before_first is_feed bytes k d (omega (arith, past)))

-- the same in a part of a buffer
pub cut_in : (buffer : List ℕ) (at end i : ℕ) → end ≤ length buffer → position is_feed (slice_range buffer at end) ≡ Some i
    → IsPiece (take i (slice_range buffer at end)) × (slice_range buffer at end ≡ take i (slice_range buffer at end) ++ line_feed ∷ slice_range buffer (at + (i + 1)) end)
cut_in buffer at end i fits found =
    let cut = cut_at (slice_range buffer at end) i found in
    let short : i < end - at = omega (arith, cut.0, length-take-le (end - at) (drop at buffer) (omega (arith, length-drop at buffer))) in
    let sum : (i + 1) + (end - (at + (i + 1))) ≡ end - at = omega arith in
    let moved : drop (i + 1) (slice_range buffer at end) ≡ slice_range buffer (at + (i + 1)) end =
    ap (λ n. drop (i + 1) (take n (drop at buffer))) (sym sum)
    ∙ drop-take (i + 1) (end - (at + (i + 1))) (drop at buffer)
    ∙ ap (take (end - (at + (i + 1)))) (drop-drop (i + 1) at buffer)
    in
    (cut.1, cut.2 ∙ ap (λ rest. take i (slice_range buffer at end) ++ line_feed ∷ rest) moved)

-- a byte that is no line feed goes onto the first line
onto : (b : ℕ) (bs : List ℕ) → is_feed b ≡ false → lines_of (b ∷ bs) ≡ onto_first b (lines_of bs)
onto b bs other = ap (λ t. if t then [] ∷ lines_of bs else onto_first b (lines_of bs)) other

-- a piece, its line feed and what follows: the piece is the first line
pub lines_of-feed : (piece rest : List ℕ) → IsPiece piece → lines_of (piece ++ line_feed ∷ rest) ≡ piece ∷ lines_of rest
lines_of-feed [] rest h = refl
lines_of-feed (b ∷ bs) rest h = onto b (bs ++ line_feed ∷ rest) h.0 ∙ ap (onto_first b) (lines_of-feed bs rest h.1)

-- a piece alone is a line, if it has a byte
pub lines_of-piece : (b : ℕ) (bs : List ℕ) → IsPiece (b ∷ bs) → lines_of (b ∷ bs) ≡ (b ∷ bs) ∷ []
lines_of-piece b [] h = onto b [] h.0
lines_of-piece b (c ∷ bs) h = onto b (c ∷ bs) h.0 ∙ ap (onto_first b) (lines_of-piece c bs h.1)

-- the lines begin with one that has at least so many bytes
pub record BeginsWith (least : ℕ) (lines : List (List ℕ)) : Type 0 where
  pub line : List ℕ
  pub rest : List (List ℕ)
  pub parts : lines ≡ line ∷ rest
  pub long : least ≤ length line

onto_begins : (b : ℕ) (lines : List (List ℕ)) → BeginsWith 1 (onto_first b lines)
onto_begins b [] = record { line = b ∷ []; rest = []; parts = refl; long = omega arith }
onto_begins b (line ∷ rest) = record { line = b ∷ line; rest = rest; parts = refl; long = omega arith }

-- the first line has all of a piece that the bytes begin with
pub first_line_long : (b : ℕ) (bs more : List ℕ) → IsPiece (b ∷ bs) → BeginsWith (length (b ∷ bs)) (lines_of ((b ∷ bs) ++ more))
first_line_long b [] more h = subst (BeginsWith 1) (sym (onto b more h.0)) (onto_begins b (lines_of more))
first_line_long b (c ∷ bs) more h =
    let next = first_line_long c bs more h.1 in
    record {
      line = b ∷ next.line;
      rest = next.rest;
      parts = onto b ((c ∷ bs) ++ more) h.0 ∙ ap (onto_first b) next.parts;
      long = omega (arith, next.long);
    }
