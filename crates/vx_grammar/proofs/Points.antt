-- The points of a polygon, read one after another.
use Rattle.std.proofs.Common.{◌≡◌, ℕ, ℤ, pos, ◌<◌, List, [], ◌∷◌, ◌++◌, length, Option, Some, None, option_map, refl, ap, sym, ◌∙◌, append_assoc, arith}
use Rattle.vx_geom.specs.Polygon.{Column}
use Rattle.vx_grammar.specs.Numbers.{i32_of}
use Rattle.vx_grammar.specs.Readings.{Rest, coordinate_at}
use Rattle.vx_base.specs.Then.{◌>>=◌}
use Rattle.vx_grammar.specs.EditLines.{points_of}

-- a number, and the words that are left
abbrev with_rest : Rest → ℤ → Option (ℤ × Rest)
with_rest words n = Some (n, words)

abbrev number_in : Option (ℤ × Rest) → ℤ
number_in None = pos 0
number_in (Some read) = read.0

abbrev rest_in : Option (ℤ × Rest) → Rest
rest_in None = []
rest_in (Some read) = read.1

-- a number that was read is the next word's
record IsNext (z : ℤ) (words new : Rest) : Type 0 where
  word : List ℕ
  parts : words ≡ word ∷ new
  value : i32_of word ≡ Some z

read_next : (z : ℤ) (words new : Rest) → coordinate_at words ≡ Some (z, new) → IsNext z words new
unfolding coordinate_at
read_next z [] new read = cc
read_next z (word ∷ words) new read = by (i32_of word) refl read
  where
    by : (n : Option ℤ) → i32_of word ≡ n → (n >>= with_rest words) ≡ Some (z, new) → IsNext z (word ∷ words) new
    by None e h = cc
    by (Some n) e h =
        let same : n ≡ z = ap number_in h in
        let left : words ≡ new = ap rest_in h in
        record { word = word; parts = ap (λ ws. word ∷ ws) left; value = e ∙ ap Some same }

pub point_read : (x z : ℤ) (word : List ℕ) (words new : Rest) → i32_of word ≡ Some x → coordinate_at words ≡ Some (z, new)
    → points_of (word ∷ words) ≡ option_map (λ ps. (x, z) ∷ ps) (points_of new)
point_read x z word words new east read =
    let next = read_next z words new read in
    rw (next.parts, east, next.value) (consed (points_of new))
  where
    consed : (o : Option (List Column)) → (o >>= λ ps. Some ((x, z) ∷ ps)) ≡ option_map (λ ps. (x, z) ∷ ps) o
    consed None = refl
    consed (Some ps) = refl

pub fewer_words : (z : ℤ) (words new : Rest) → coordinate_at words ≡ Some (z, new) → length new < length words
fewer_words z words new read = let next = read_next z words new read in rw next.parts (omega arith)

pub point_misread : (word : List ℕ) (words : Rest) → i32_of word ≡ None → points_of (word ∷ words) ≡ None
point_misread word [] bad = refl
point_misread word (z ∷ words) bad = rw bad refl

pub point_unfinished : (word : List ℕ) (words : Rest) → coordinate_at words ≡ None → points_of (word ∷ words) ≡ None
unfolding coordinate_at
point_unfinished word [] none = refl
point_unfinished word (z ∷ words) none = by (i32_of word) (i32_of z) none
  where
    by : (x s : Option ℤ) → (s >>= with_rest words) ≡ None → (x >>= λ x. s >>= λ s. points_of words >>= λ ps. Some ((x, s) ∷ ps)) ≡ None
    by x None h = nothing x
      where
        nothing : (x : Option ℤ) → (x >>= λ x. None >>= λ s. points_of words >>= λ ps. Some ((x, s) ∷ ps)) ≡ None
        nothing None = refl
        nothing (Some x) = refl
    by x (Some s) h = cc

-- the points so far and one more
pub points_on : (points : List Column) (p : Column) (more : Option (List Column))
    → option_map (λ ps. points ++ ps) (option_map (λ ps. p ∷ ps) more) ≡ option_map (λ ps. (points ++ p ∷ []) ++ ps) more
points_on points p None = refl
points_on points p (Some ps) = ap Some (sym (append_assoc points (p ∷ []) ps))
