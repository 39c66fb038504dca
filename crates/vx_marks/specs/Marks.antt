-- Marks on indices, a bit for each, in words of 64.
use Rattle.std.specs.Prelude.{◌≡◌, ℕ, ◌+◌, ◌-◌, ◌*◌, ◌/◌, ◌%◌, ◌<◌, ◌≤◌, Bool, true, false, ◌&&◌, ◌||◌, nat_eq, nat_lt, nat_le, List, length, slice_index_or, if◌then◌else◌, Option, Some, None}
use Rattle.std.specs.Int.{bit_at}

-- the bit of a word is set
abbrev pub is_set : ℕ → ℕ → Bool
is_set word bit = nat_eq (bit_at word bit) 1

-- the index is marked: its bit is set in its word
unfoldable pub is_marked : List ℕ → ℕ → Bool
is_marked words index = is_set (slice_index_or words (index / 64) 0) (index % 64)

-- none of these indices is marked, from one up to below another
abbrev pub AreUnmarked : List ℕ → ℕ → ℕ → Type 0
AreUnmarked words from to = (index : ℕ) → from ≤ index → index < to → is_marked words index ≡ false

-- the first marked index from one on, if there is any
abbrev pub IsFirstMarked : List ℕ → ℕ → Option ℕ → Type 0
IsFirstMarked words from None = AreUnmarked words from (64 * length words)
IsFirstMarked words from (Some index) =
    (from ≤ index) × (index < 64 * length words) × (is_marked words index ≡ true)
    × AreUnmarked words from index

-- the first of the indices from one up to below another that passes a test, if any does
abbrev pub IsFirst : (ℕ → Bool) → ℕ → ℕ → Option ℕ → Type 0
IsFirst test to from None = (index : ℕ) → from ≤ index → index < to → test index ≡ false
IsFirst test to from (Some index) =
    (from ≤ index) × (index < to) × (test index ≡ true)
    × ((other : ℕ) → from ≤ other → other < index → test other ≡ false)

-- which words have a mark, one mark for each of them
pub record AreFilled (words filled : List ℕ) : Type 0 where
  pub room : length words ≤ 64 * length filled
  pub each : (k : ℕ) → is_marked filled k ≡ nat_lt 0 (slice_index_or words k 0)

-- the mark of one index becomes another or stays, and each other mark stays
pub record IsMarkSet (old new : List ℕ) (index : ℕ) (marked : Bool) : Type 0 where
  pub long : length new ≡ length old
  pub each : (i : ℕ) → is_marked new i ≡ (if nat_eq i index then marked else is_marked old i)

-- none of so many words from one on has a mark
abbrev pub AreBlank : List ℕ → ℕ → ℕ → Type 0
AreBlank words word count =
    (k : ℕ) → word ≤ k → k < word + count → slice_index_or words k 0 ≡ 0

-- which of so many indices from one on are marked, a bit for each
abbrev pub AreBits : List ℕ → ℕ → ℕ → ℕ → Type 0
AreBits words first count bits =
    (k : ℕ) → is_set bits k ≡ (nat_lt k count && is_marked words (first + k))

-- the index is told by such bits: the bit is set of how much further on it lies than the first, and
-- it lies in the same word
abbrev pub in_run : ℕ → ℕ → ℕ → Bool
in_run first bits index =
    nat_eq (index / 64) (first / 64) && (nat_le first index && is_set bits (index - first))

-- the indices that bits tell are marked too, and each other mark stays
pub record IsRunMarked (old new : List ℕ) (first bits : ℕ) : Type 0 where
  pub long : length new ≡ length old
  pub each : (index : ℕ)
      → is_marked new index ≡ (is_marked old index || in_run first bits index)
