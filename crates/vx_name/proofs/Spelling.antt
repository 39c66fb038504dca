-- What is read is a word in lower case.
use Rattle.std.proofs.Common.{Some, None, if◌then◌else◌, ◌+◌, ◌≡◌, ℕ, suc, ◌≤◌, ◌<◌, Bool, true, false, not, ◌&&◌, List, [], ◌∷◌, ◌++◌, map, length, drop, get_or, drop-cons, arith, refl, ap, sym, ◌∙◌}
use Rattle.std.proofs.lemmas.Bool.Decides.{nat_tests}
use Rattle.std.proofs.lemmas.List.{append-nil, drop_all, length-map}
use Rattle.std.specs.List.{list_all}
use Rattle.vx_name.specs.Alphabet.{passes}
use Rattle.vx_name.specs.Words.{is_amid, is_capital, is_name_byte, is_id_byte, lower, read_word, IsWord}
use Rattle.vx_name.specs.declared.word.Alphabet.{Alphabet}
use Rattle.vx_name.specs.declared.word.Alphabet.TheVariants as alphabet

-- a byte that was made small is no capital letter
lower_is_small : (b : ℕ) → is_capital (lower b) ≡ false
unfolding lower
lower_is_small b = grind (arith, nat_tests)

-- and passes where it did before
lower_passes_name : (b : ℕ) → is_name_byte b ≡ true → is_name_byte (lower b) ≡ true
unfolding lower is_name_byte
lower_passes_name b passed = grind (arith, nat_tests)

lower_passes_id : (b : ℕ) → is_id_byte b ≡ true → is_id_byte (lower b) ≡ true
unfolding lower is_id_byte is_name_byte
lower_passes_id b passed = grind (arith, nat_tests)

pub lower_passes : (a : Alphabet) (b : ℕ) → passes a b ≡ true → passes a (lower b) ≡ true
lower_passes alphabet.Name b passed = lower_passes_name b passed
lower_passes alphabet.Id b passed = lower_passes_id b passed

-- both of two tests
both : (a b : Bool) → (a && b) ≡ true → (a ≡ true) × (b ≡ true)
both true b passed = (refl, passed)
both false b passed = cc

all_lower_pass : (a : Alphabet) (bs : List ℕ) → list_all (passes a) bs ≡ true → list_all (passes a) (map lower bs) ≡ true
all_lower_pass a [] passed = refl
all_lower_pass a (b ∷ bs) passed =
    let parts = both (passes a b) (list_all (passes a) bs) passed in
    ap (λ t. t && list_all (passes a) (map lower bs)) (lower_passes a b parts.0) ∙ all_lower_pass a bs parts.1

all_lower_small : (bs : List ℕ) → list_all (λ b. not (is_capital b)) (map lower bs) ≡ true
all_lower_small [] = refl
all_lower_small (b ∷ bs) =
    ap (λ t. not t && list_all (λ c. not (is_capital c)) (map lower bs)) (lower_is_small b) ∙ all_lower_small bs

-- a text of so many bytes that all pass, in lower case
pub word_made : (a : Alphabet) (most : ℕ) (text w : List ℕ) → 1 ≤ length text → length text ≤ most → list_all (passes a) text ≡ true → w ≡ map lower text
    → IsWord (passes a) most w
word_made a most text w some short passed is = rw is (record {
  some = rw length-map some;
  short = rw length-map short;
  passed = all_lower_pass a text passed;
  small = all_lower_small text;
})

-- so when all of the text was read
pub word_over : (a : Alphabet) (most i : ℕ) (text w : List ℕ) → 1 ≤ length text → length text ≤ most → length text ≤ i
    → w ++ map lower (drop i text) ≡ map lower text → list_all (passes a) (drop i text) ≡ list_all (passes a) text → IsWord (passes a) most w
word_over a most i text w some short over read passed =
    let none = drop_all i text over in
    word_made a most text w some short (sym (rw none at passed)) (rw (none, append-nil) at read)

-- a byte that does not pass leaves no word
pub word_refused : (a : Alphabet) (most i : ℕ) (text : List ℕ) → i < length text → false ≡ passes a (get_or text i 0)
    → list_all (passes a) (drop i text) ≡ list_all (passes a) text → None ≡ read_word (passes a) most text
unfolding read_word
word_refused a most i text within refused passed =
    let none : list_all (passes a) text ≡ false =
    sym passed ∙ ap (list_all (passes a)) (drop-cons text i 0 within) ∙ ap (λ t. t && list_all (passes a) (drop (suc i) text)) (sym refused) in
    by (is_amid 1 (length text) most) (list_all (passes a) text) none
  where
    by : (b t : Bool) → t ≡ false → None ≡ (if b && t then Some (map lower text) else None)
    by true t is = sym (ap (λ u. if u then Some (map lower text) else None) is)
    by false t is = refl

amid_true : (n most : ℕ) → 1 ≤ n → n ≤ most → is_amid 1 n most ≡ true
amid_true n most some short = grind (arith, nat_tests)

-- and where all of the text was read the word is what it spells
pub word_whole : (a : Alphabet) (most i : ℕ) (text w : List ℕ) → 1 ≤ length text → length text ≤ most → length text ≤ i
    → w ++ map lower (drop i text) ≡ map lower text → list_all (passes a) (drop i text) ≡ list_all (passes a) text → Some w ≡ read_word (passes a) most text
unfolding read_word
word_whole a most i text w some short over read passed =
    let none = drop_all i text over in
    ap Some (rw (none, append-nil) at read)
    ∙ sym (ap (λ t. if t && list_all (passes a) text then Some (map lower text) else None) (amid_true (length text) most some short)
    ∙ ap (λ t. if t then Some (map lower text) else None) (sym (rw none at passed)))

amid_parts : (n most : ℕ) → is_amid 1 n most ≡ true → (1 ≤ n) × (n ≤ most)
amid_parts n most amid = (grind (arith, nat_tests), grind (arith, nat_tests))

-- what is read is a word
pub word_read : (a : Alphabet) (most : ℕ) (text w : List ℕ) → read_word (passes a) most text ≡ Some w → IsWord (passes a) most w
unfolding read_word
word_read a most text w read = by (is_amid 1 (length text) most && list_all (passes a) text) refl read
  where
    by : (b : Bool) → (is_amid 1 (length text) most && list_all (passes a) text) ≡ b → (if b then Some (map lower text) else None) ≡ Some w → IsWord (passes a) most w
    by true is read =
        let parts = both (is_amid 1 (length text) most) (list_all (passes a) text) is in
        let amid = amid_parts (length text) most parts.0 in
        let same : w ≡ map lower text = cc in
        word_made a most text w amid.0 amid.1 parts.1 same
    by false is read = cc

-- a byte that is no capital letter is small already
lower_small : (b : ℕ) → not (is_capital b) ≡ true → lower b ≡ b
unfolding lower
lower_small b small = by (is_capital b) small
  where
    by : (c : Bool) → not c ≡ true → (if c then b + 32 else b) ≡ b
    by true small = cc
    by false small = refl

all_small : (bs : List ℕ) → list_all (λ b. not (is_capital b)) bs ≡ true → map lower bs ≡ bs
all_small [] small = refl
all_small (b ∷ bs) small =
    let parts = both (not (is_capital b)) (list_all (λ c. not (is_capital c)) bs) small in
    ap (λ c. c ∷ map lower bs) (lower_small b parts.0) ∙ ap (λ cs. b ∷ cs) (all_small bs parts.1)

-- and a word is read as itself
pub word_as_itself : (a : Alphabet) (most : ℕ) (w : List ℕ) → IsWord (passes a) most w → read_word (passes a) most w ≡ Some w
unfolding read_word
word_as_itself a most w word =
    ap (λ t. if t && list_all (passes a) w then Some (map lower w) else None) (amid_true (length w) most word.some word.short)
    ∙ ap (λ t. if t then Some (map lower w) else None) word.passed ∙ ap Some (all_small w word.small)

-- a text of so many bytes that all pass, none of them a capital letter, is a word
pub small_word : (a : Alphabet) (most : ℕ) (text : List ℕ) → 1 ≤ length text → length text ≤ most
    → list_all (λ b. passes a b && not (is_capital b)) text ≡ true → IsWord (passes a) most text
small_word a most text some short small =
    let parts = each_of text small in
    record { some = some; short = short; passed = parts.0; small = parts.1 }
  where
    each_of : (bs : List ℕ) → list_all (λ b. passes a b && not (is_capital b)) bs ≡ true
        → (list_all (passes a) bs ≡ true) × (list_all (λ b. not (is_capital b)) bs ≡ true)
    each_of [] small = (refl, refl)
    each_of (b ∷ bs) small =
        let parts = both (passes a b && not (is_capital b)) (list_all (λ c. passes a c && not (is_capital c)) bs) small in
        let here = both (passes a b) (not (is_capital b)) parts.0 in
        let further = each_of bs parts.1 in (
          ap (λ t. t && list_all (passes a) bs) here.0 ∙ further.0,
          ap (λ t. t && list_all (λ c. not (is_capital c)) bs) here.1 ∙ further.1,
        )
