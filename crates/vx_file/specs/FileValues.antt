-- What the values of a regions file mean, each by itself.
use Rattle.std.specs.Prelude.{ℕ, ℤ, pos, neg_ℤ, ◌-◌, ◌^◌, ◌&&◌, ◌==◌, Bool, true, if◌then◌else◌, nat_lt, bytes_eq, List, [], ◌∷◌, ◌++◌, length, Option, Some, None, is_some}
use Rattle.std.specs.List.{list_any, position_or_len, before_first, after_first}
use Rattle.toml.specs.Data.{Data, Items, no_items, item, Members, no_members, member, as_integer, as_array, as_str}
use Rattle.vx_flag.specs.Flag.{flag_of}
use Rattle.vx_flag.specs.Group.{group_of}
use Rattle.vx_flag.specs.State.{state_of}
use Rattle.vx_flag.specs.declared.group.Group.TheVariants.{All}
use Rattle.vx_flag.specs.declared.setting.Setting.{Setting}
use Rattle.vx_geom.specs.Polygon.{Column}
use Rattle.vx_geom.specs.Written.{Written, Corners}
use Rattle.vx_base.specs.Ranges.{within}
use Rattle.vx_base.specs.Then.{◌>>=◌}

-- the values of an array, as a list
abbrev pub data_of : Items → List Data
data_of no_items = []
data_of (item d ds) = d ∷ data_of ds

-- every key of the table is among these
abbrev pub has_only : List (List ℕ) → Members → Bool
has_only keys no_members = true
has_only keys (member key d ms) = list_any (bytes_eq key) keys && has_only keys ms

-- every key of the table is the text of a flag
abbrev pub has_only_flags : Members → Bool
has_only_flags no_members = true
has_only_flags (member key d ms) = is_some (flag_of key) && has_only_flags ms

-- what each of these gives, in order; nothing where one of them gives nothing
abbrev pub each : {A B : Type 0} → (A → Option B) → List A → Option (List B)
each f [] = Some []
each f (x ∷ xs) = do
  y ← f x
  ys ← each f xs
  Some (y ∷ ys)

-- these lists put one after another; nothing where one of them is missing
abbrev pub joined : {A : Type 0} → List (Option (List A)) → Option (List A)
joined [] = Some []
joined (o ∷ os) = do
  xs ← o
  more ← joined os
  Some (xs ++ more)

-- a number of 32 bits
unfoldable pub number_in : Data → Option ℤ
number_in d = do
  n ← as_integer d
  within (neg_ℤ (pos (2 ^ 31))) (pos (2 ^ 31 - 1)) n

-- the numbers of an array
unfoldable pub numbers_in : Data → Option (List ℤ)
numbers_in d = do
  items ← as_array d
  each number_in (data_of items)

-- a column: its x and its z
unfoldable pub column_in : Data → Data → Option Column
column_in x z = do
  a ← number_in x
  b ← number_in z
  Some (a, b)

-- the columns that values name two by two, an x and a z each
abbrev pub columns_of : List Data → Option (List Column)
columns_of [] = Some []
columns_of (x ∷ []) = None
columns_of (x ∷ z ∷ more) = do
  column ← column_in x z
  columns ← columns_of more
  Some (column ∷ columns)

-- the columns of an array
unfoldable pub columns_in : Data → Option (List Column)
columns_in d = do
  items ← as_array d
  columns_of (data_of items)

-- the cuboid whose two corners six numbers name
unfoldable pub corners_of : List ℤ → Option Written
corners_of (x ∷ y ∷ z ∷ to_x ∷ to_y ∷ to_z ∷ []) =
    Some (Corners (record { y = y; z = z; x = x }) (record { y = to_y; z = to_z; x = to_x }))
corners_of numbers = None

-- the lowest and the highest y, which two numbers name
unfoldable pub heights_of : List ℤ → Option (ℤ × ℤ)
heights_of (low ∷ high ∷ []) = Some (low, high)
heights_of numbers = None

-- the byte is a space
abbrev pub is_space : ℕ → Bool
is_space b = b == 32

-- a space stands in the text
abbrev pub has_space : List ℕ → Bool
has_space text = nat_lt (position_or_len is_space text) (length text)

-- what a flag is set to: a state for everyone, or a state, one space and the group that it is for
unfoldable pub setting_of_text : List ℕ → Option Setting
setting_of_text text =
    if has_space text
    then state_of (before_first is_space text) >>= (λ state. group_of (after_first is_space text)
    >>= (λ group. Some (record { state = state; group = group })))
    else state_of text >>= (λ state. Some (record { state = state; group = All }))

-- what a value sets a flag to
unfoldable pub setting_in : Data → Option Setting
setting_in d = do
  text ← as_str d
  setting_of_text text
