-- What is guessed of names by marks: the first name, and a number that was found.
use Rattle.std.proofs.Common.{◌≡◌, ◌≢◌, ◌⊎◌, inl, inr, ℕ, zero, suc, ◌<◌, ◌≤◌, true, bytes_eq, if◌then◌else◌, List, [], ◌∷◌, length, replicate, get_or, set, slice_get, slice_set, slice_index_or, Some, IfSome, arith, refl, ap, sym, ◌∙◌, subst}
use Rattle.std.proofs.lemmas.Bool.{cases_eq, cases_lt}
use Rattle.std.proofs.lemmas.List.{get_or_past, get_or-replicate, get_or-set_same, get_or-set_other, length-replicate, length-set}
use Rattle.std.proofs.lemmas.Slice.Eq.{bytes_eq-Decides}
use Rattle.vx_name.specs.declared.name.Name.{Name}
use Rattle.vx_name.specs.Texts.{texts}
use Rattle.vx_play.specs.Guesses.{IsGuess, AreGuesses}
use Rattle.vx_play.specs.Plays.{number_from}

-- the text of the name of that number
text_at : (names : List Name) (k : ℕ) (name : Name) → slice_get names k ≡ Some name → slice_get (texts names) k ≡ Some name.text.bytes
text_at [] k name there = cc
text_at (n ∷ ns) zero name there = let same : n ≡ name = cc in ap (λ (m : Name). Some m.text.bytes) same
text_at (n ∷ ns) (suc k) name there = text_at ns k name there

-- where a name stands at what is guessed, that is its number
pub at_guess : (names : List Name) (guess : ℕ) (guessed name : Name) → IsGuess (texts names) guess → slice_get names guess ≡ Some guessed
    → bytes_eq guessed.text.bytes name.text.bytes ≡ true → Some guess ≡ number_from 0 (texts names) name.text.bytes
at_guess names guess guessed name is there same =
    sym (subst (λ o. IfSome o (λ n. number_from 0 (texts names) n ≡ Some guess)) (text_at names guess guessed there) is)
    ∙ ap (number_from 0 (texts names)) ((bytes_eq-Decides guessed.text.bytes name.text.bytes).0 same)

-- a number that was found for a name may be guessed
pub found_guess : (names : List Name) (number : ℕ) (name : Name) → slice_get names number ≡ Some name
    → number_from 0 (texts names) name.text.bytes ≡ Some number → IsGuess (texts names) number
found_guess names number name there found =
    subst (λ o. IfSome o (λ n. number_from 0 (texts names) n ≡ Some number)) (sym (text_at names number name there)) found

-- so may the first
first_guess : (names : List (List ℕ)) → IsGuess names 0
first_guess [] = tt
first_guess (n ∷ ns) = ap (λ b. if b then Some 0 else number_from 1 ns n) ((bytes_eq-Decides n n).1 refl)

-- and so is what is read past the end
first_at : (names : List (List ℕ)) (guesses : List ℕ) (mark : ℕ) → ((mark < length guesses) → IsGuess names (get_or guesses mark 0)) → IsGuess names (get_or guesses mark 0)
first_at names guesses mark within = by (cases_lt mark (length guesses))
  where
    by : (mark < length guesses) ⊎ (length guesses ≤ mark) → IsGuess names (get_or guesses mark 0)
    by (inl below) = within below
    by (inr past) = subst (IsGuess names) (sym (get_or_past guesses mark 0 past)) (first_guess names)

pub all_first : (names : List (List ℕ)) (guesses : List ℕ) (count : ℕ) → guesses ≡ replicate {A = ℕ} count 0 → AreGuesses names guesses
all_first names guesses count are mark =
    first_at names guesses mark
    (λ below. subst (IsGuess names) (sym (ap (λ gs. get_or gs mark 0) are ∙ get_or-replicate {A = ℕ} count mark 0 0 (omega (arith, below, ap length are, length-replicate {A = ℕ} count 0)))) (first_guess names))

-- one more is guessed for a mark
pub one_guessed : (names : List (List ℕ)) (guesses : List ℕ) (mark guess : ℕ) → AreGuesses names guesses → IsGuess names guess
    → AreGuesses names (slice_set guesses mark guess)
one_guessed names guesses mark guess are is other = first_at names (set guesses mark guess) other (λ below. by below (cases_eq other mark))
  where
    by : other < length (set guesses mark guess) → (other ≡ mark) ⊎ (other ≢ mark) → IsGuess names (slice_index_or (slice_set guesses mark guess) other 0)
    by below (inl same) =
        subst (λ k. IsGuess names (get_or (set guesses mark guess) k 0)) (sym same)
        (subst (IsGuess names) (sym (get_or-set_same guesses mark guess 0 (omega (arith, below, same, length-set guesses mark guess)))) is)
    by below (inr apart) = subst (IsGuess names) (sym (get_or-set_other guesses mark other guess 0 apart)) (are other)
