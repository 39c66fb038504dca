use Rattle.std.specs.Prelude.{ℕ, ◌+◌, ◌≤◌, Bool, IsTrue, not, ◌&&◌, ◌||◌, if◌then◌else◌, ◌==◌, nat_le, List, length, map, Option, Some, None}
use Rattle.std.specs.List.{list_all}

-- a ≤ b ≤ c
abbrev pub is_amid : ℕ → ℕ → ℕ → Bool
is_amid a b c = nat_le a b && nat_le b c

-- a letter of either case, a digit or `_`
unfoldable pub is_name_byte : ℕ → Bool
is_name_byte b = (is_amid 97 b 122 || is_amid 65 b 90) || (is_amid 48 b 57 || b == 95)

-- the same, or `-`
unfoldable pub is_id_byte : ℕ → Bool
is_id_byte b = is_name_byte b || b == 45

-- a capital letter
abbrev pub is_capital : ℕ → Bool
is_capital b = is_amid 65 b 90

-- a capital letter's small one; other bytes as they are
unfoldable pub lower : ℕ → ℕ
lower b = if is_capital b then b + 32 else b

-- a text of 1 to `most` bytes that pass the test, in lower case; none for any other text
unfoldable pub read_word : (ℕ → Bool) → ℕ → List ℕ → Option (List ℕ)
read_word passes most text =
    if is_amid 1 (length text) most && list_all passes text then Some (map lower text) else None

-- how many bytes a name and an id may have
abbrev pub most_name_bytes : ℕ
most_name_bytes = 16

abbrev pub most_id_bytes : ℕ
most_id_bytes = 32

-- the name that a text spells: 1 to 16 letters, digits or `_`
unfoldable pub read_name : List ℕ → Option (List ℕ)
read_name text = read_word is_name_byte most_name_bytes text

-- the id that a text spells: 1 to 32 letters, digits, `_` or `-`
unfoldable pub read_id : List ℕ → Option (List ℕ)
read_id text = read_word is_id_byte most_id_bytes text

-- a word in lower case: 1 to `most` bytes, each of which passes and is no capital letter
pub record IsWord (passes : ℕ → Bool) (most : ℕ) (text : List ℕ) : Type 0 where
  pub some : 1 ≤ length text
  pub short : length text ≤ most
  pub passed : IsTrue (list_all passes text)
  pub small : IsTrue (list_all (λ b. not (is_capital b)) text)

-- what every name is: 1 to 16 small letters, digits or `_`
abbrev pub IsName : List ℕ → Type 0
IsName text = IsWord is_name_byte most_name_bytes text

-- what every id is: 1 to 32 small letters, digits, `_` or `-`
abbrev pub IsId : List ℕ → Type 0
IsId text = IsWord is_id_byte most_id_bytes text
