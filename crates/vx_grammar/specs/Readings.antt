use Rattle.std.specs.Prelude.{◌≡◌, ℕ, ℤ, bytes_eq, codes, if◌then◌else◌, List, [], ◌∷◌, Option, Some, None}
use Rattle.vx_block.specs.declared.part.Part.{Part}
use Rattle.vx_block.specs.Part.{part_of}
use Rattle.vx_flag.specs.declared.action.Action.{Action}
use Rattle.vx_flag.specs.declared.action.Action.TheVariants.{Placing, Breaking, Turning, Reaching}
use Rattle.vx_geom.specs.declared.bounds.TheConstants.{LOW_HEIGHT}
use Rattle.vx_geom.specs.declared.pos.Pos.{Pos}
use Rattle.vx_name.specs.Words.{read_name}
use Rattle.vx_base.specs.Then.{◌>>=◌}
use Rattle.vx_grammar.specs.Numbers.{i32_of, u8_of, u16_of}

-- words that are left to read
abbrev pub Rest : Type 0
Rest = List (List ℕ)

-- what a function read from the words, which are now new, is what reading gives: a value and the
-- words after it
abbrev pub Reads : {X : Type 0} → Option X → Rest → Option (X × Rest) → Type 0
Reads None new read = read ≡ None
Reads (Some x) new read = read ≡ Some (x, new)

-- the next word, and those after it
abbrev pub next_of : Rest → Option (List ℕ × Rest)
next_of [] = None
next_of (word ∷ words) = Some (word, words)

-- a value, where no word is left
abbrev pub at_end : {X : Type 0} → Rest → X → Option X
at_end [] x = Some x
at_end (word ∷ words) x = None

-- a number of 8 bits
unfoldable pub byte_at : Rest → Option (ℕ × Rest)
byte_at words = do
  word ← next_of words
  n ← u8_of word.0
  Some (n, word.1)

-- the height of a world, by its number; that of a low one, where no word is left
unfoldable pub height_at : Rest → Option (ℕ × Rest)
height_at [] = Some (LOW_HEIGHT, [])
height_at (word ∷ words) = byte_at (word ∷ words)

-- the number of an item, of 16 bits
unfoldable pub item_at : Rest → Option (ℕ × Rest)
item_at words = do
  word ← next_of words
  n ← u16_of word.0
  Some (n, word.1)

-- a number of 32 bits
unfoldable pub coordinate_at : Rest → Option (ℤ × Rest)
coordinate_at words = do
  word ← next_of words
  n ← i32_of word.0
  Some (n, word.1)

-- a position, its coordinates in the order x, y, z
unfoldable pub position_at : Rest → Option (Pos × Rest)
position_at words = do
  x ← coordinate_at words
  y ← coordinate_at x.1
  z ← coordinate_at y.1
  Some (record { y = y.0; z = z.0; x = x.0 }, z.1)

-- a part by its text
unfoldable pub part_at : Rest → Option (Part × Rest)
part_at words = do
  word ← next_of words
  part ← part_of word.0
  Some (part, word.1)

-- what a player may be asked about, by the word of the flag that speaks of it
unfoldable pub action_of : List ℕ → Option Action
action_of word =
    if bytes_eq word (codes "block-place") then Some Placing
    else if bytes_eq word (codes "block-break") then Some Breaking
    else if bytes_eq word (codes "use") then Some Turning
    else if bytes_eq word (codes "chest-access") then Some Reaching
    else None

-- an action by its word
unfoldable pub action_at : Rest → Option (Action × Rest)
action_at words = do
  word ← next_of words
  action ← action_of word.0
  Some (action, word.1)

-- a player's name
unfoldable pub name_at : Rest → Option (List ℕ × Rest)
name_at words = do
  word ← next_of words
  name ← read_name word.0
  Some (name, word.1)
