use Rattle.std.specs.Prelude.{ℕ, bytes_eq, codes, if◌then◌else◌, List, [], ◌∷◌, Option, Some, None}
use Rattle.vx_flag.specs.Flag.{flag_of}
use Rattle.vx_flag.specs.Group.{group_of}
use Rattle.vx_flag.specs.State.{state_of}
use Rattle.vx_flag.specs.declared.flag.Flag.{Flag}
use Rattle.vx_flag.specs.declared.group.Group.{Group}
use Rattle.vx_flag.specs.declared.group.Group.TheVariants.{All}
use Rattle.vx_flag.specs.declared.state.State.{State}
use Rattle.vx_geom.specs.Polygon.{Column}
use Rattle.vx_geom.specs.Written.{Written, Corners, Path}
use Rattle.vx_policy.specs.Asked.{Asked, Define, Reshape, Remove, Priority, Parent, SetFlag, ClearFlag, Listed}
use Rattle.vx_region.specs.declared.roster.Roster.{Roster}
use Rattle.vx_region.specs.declared.roster.Roster.TheVariants.{Owners, Members, Domains}
use Rattle.vx_policy.specs.declared.listing.Listing.{Listing}
use Rattle.vx_policy.specs.declared.listing.Listing.TheVariants.{Add, Drop}
use Rattle.vx_grammar.specs.Numbers.{i32_of}
use Rattle.vx_grammar.specs.Readings.{Rest, next_of, coordinate_at, position_at}
use Rattle.vx_base.specs.Then.{◌>>=◌}

-- no word is left
pub data End : Type 0 where
  Ended : End

-- that no word is left
abbrev pub end_of : Rest → Option End
end_of [] = Some Ended
end_of (word ∷ words) = None

-- `X1 Y1 Z1 X2 Y2 Z2`, to the end of the line
unfoldable pub corners_of : Rest → Option Written
corners_of words = do
  a ← position_at words
  b ← position_at a.1
  end ← end_of b.1
  Some (Corners a.0 b.0)

-- points to the end of the line, each an x and a z
abbrev pub points_of : Rest → Option (List Column)
points_of [] = Some []
points_of (x ∷ []) = None
points_of (x ∷ z ∷ words) = do
  east ← i32_of x
  south ← i32_of z
  points ← points_of words
  Some ((east, south) ∷ points)

-- `Y0 Y1 X1 Z1 X2 Z2 ..`, to the end of the line
unfoldable pub path_of : Rest → Option Written
path_of words = do
  low ← coordinate_at words
  high ← coordinate_at low.1
  points ← points_of high.1
  Some (Path points low.0 high.0)

-- a shape by its first word, to the end of the line
unfoldable pub shape_by : List ℕ → Rest → Option Written
shape_by kind words =
    if bytes_eq kind (codes "cuboid") then corners_of words
    else if bytes_eq kind (codes "polygon") then path_of words
    else None

-- `cuboid ..` or `polygon ..`, to the end of the line
unfoldable pub shape_of : Rest → Option Written
shape_of words = do
  kind ← next_of words
  shape_by kind.0 kind.1

-- `define ID SHAPE`
unfoldable pub define_of : Rest → Option Asked
define_of words = do
  id ← next_of words
  shape ← shape_of id.1
  Some (Define id.0 shape)

-- `reshape ID SHAPE`
unfoldable pub reshape_of : Rest → Option Asked
reshape_of words = do
  id ← next_of words
  shape ← shape_of id.1
  Some (Reshape id.0 shape)

-- `remove ID`
unfoldable pub remove_of : Rest → Option Asked
remove_of words = do
  id ← next_of words
  end ← end_of id.1
  Some (Remove id.0)

-- `priority ID N`
unfoldable pub priority_of : Rest → Option Asked
priority_of words = do
  id ← next_of words
  n ← coordinate_at id.1
  end ← end_of n.1
  Some (Priority id.0 n.0)

-- the parent that a word names: none for `*`
abbrev pub parent_named : List ℕ → Option (List ℕ)
parent_named word = if bytes_eq word (codes "*") then None else Some word

-- `parent ID ID` or `parent ID *`
unfoldable pub parent_of : Rest → Option Asked
parent_of words = do
  id ← next_of words
  parent ← next_of id.1
  end ← end_of parent.1
  Some (Parent id.0 (parent_named parent.0))

-- a flag by its text
unfoldable pub flag_at : Rest → Option (Flag × Rest)
flag_at words = do
  word ← next_of words
  flag ← flag_of word.0
  Some (flag, word.1)

-- a state by its text
unfoldable pub state_at : Rest → Option (State × Rest)
state_at words = do
  word ← next_of words
  state ← state_of word.0
  Some (state, word.1)

-- a group by its text, to the end of the line; all, where no word is left
unfoldable pub group_at_end : Rest → Option Group
group_at_end [] = Some All
group_at_end (word ∷ words) = do
  group ← group_of word
  end ← end_of words
  Some group

-- `flag ID FLAG STATE` or `flag ID FLAG STATE GROUP`
unfoldable pub set_flag_of : Rest → Option Asked
set_flag_of words = do
  id ← next_of words
  flag ← flag_at id.1
  state ← state_at flag.1
  group ← group_at_end state.1
  Some (SetFlag id.0 flag.0 (record { state = state.0; group = group }))

-- `clear ID FLAG`
unfoldable pub clear_flag_of : Rest → Option Asked
clear_flag_of words = do
  id ← next_of words
  flag ← flag_at id.1
  end ← end_of flag.1
  Some (ClearFlag id.0 flag.0)

-- `add` or `drop`
unfoldable pub listing_of : List ℕ → Option Listing
listing_of word =
    if bytes_eq word (codes "add") then Some Add
    else if bytes_eq word (codes "drop") then Some Drop
    else None

-- `add` or `drop`, the next word
unfoldable pub listing_at : Rest → Option (Listing × Rest)
listing_at words = do
  word ← next_of words
  listing ← listing_of word.0
  Some (listing, word.1)

-- `ID add NAME` or `ID drop NAME`, behind the word of the roster
unfoldable pub listed_of : Roster → Rest → Option Asked
listed_of roster words = do
  id ← next_of words
  listing ← listing_at id.1
  name ← next_of listing.1
  end ← end_of name.1
  Some (Listed roster id.0 listing.0 name.0)

-- an edit by its first word
unfoldable pub edit_by : List ℕ → Rest → Option Asked
edit_by verb words =
    if bytes_eq verb (codes "define") then define_of words
    else if bytes_eq verb (codes "reshape") then reshape_of words
    else if bytes_eq verb (codes "remove") then remove_of words
    else if bytes_eq verb (codes "priority") then priority_of words
    else if bytes_eq verb (codes "parent") then parent_of words
    else if bytes_eq verb (codes "flag") then set_flag_of words
    else if bytes_eq verb (codes "clear") then clear_flag_of words
    else if bytes_eq verb (codes "owner") then listed_of Owners words
    else if bytes_eq verb (codes "member") then listed_of Members words
    else if bytes_eq verb (codes "domain") then listed_of Domains words
    else None

-- the words of an edit
unfoldable pub edit_of : Rest → Option Asked
edit_of words = do
  verb ← next_of words
  edit_by verb.0 verb.1
