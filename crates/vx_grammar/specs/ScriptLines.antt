use Rattle.std.specs.Prelude.{ℕ, Bool, false, ◌&&◌, ◌||◌, ◌==◌, not, bytes_eq, codes, if◌then◌else◌, List, [], ◌∷◌, Option, Some, None}
use Rattle.std.specs.List.{list_all}
use Rattle.vx_block.specs.declared.part.Part.{Part}
use Rattle.vx_flag.specs.declared.action.Action.{Action}
use Rattle.vx_geom.specs.declared.bounds.TheConstants.{MAX_SECTORS_EACH_WAY, MAX_CHUNKS_EACH_WAY, LOW_HEIGHT, HIGH_HEIGHT}
use Rattle.vx_geom.specs.declared.pos.Pos.{Pos}
use Rattle.vx_geom.specs.Sizes.{Sizes}
use Rattle.vx_name.specs.Words.{is_amid}
use Rattle.vx_policy.specs.Asked.{Asked, asked}
use Rattle.vx_sector.specs.declared.cmd.Cmd.{Cmd}
use Rattle.vx_sector.specs.declared.cmd.Cmd.TheVariants.{Look, Place, Break, Turn, OpenChest, Put, Take}
use Rattle.vx_grammar.specs.EditLines.{edit_of}
use Rattle.vx_grammar.specs.Words.{words_of}
use Rattle.vx_grammar.specs.Readings.{Rest, next_of, action_at, at_end, byte_at, height_at, item_at, position_at, part_at, name_at}
use Rattle.vx_base.specs.Then.{◌>>=◌}
use Rattle.vx_grammar.specs.declared.line.Line.{Line}
use Rattle.vx_grammar.specs.declared.line.Line.TheVariants as line

-- what a line says: nothing, the size of the world, a player, a cell of the opening, a player's
-- command, an edit, a tick, the question whether a player may do this at a position, or the beginning
-- or the end of a block
pub data Said : Type 0 where
  Nothing : Said
  World : Sizes → Said
  Player : List ℕ → Said
  Set : Pos → Part → Said
  Act : List ℕ → Cmd → Said
  Region : Asked → Said
  Tick : Said
  Explain : List ℕ → Action → Pos → Said
  Together : Said
  End : Said

-- what a line that was read says
abbrev pub said : Line → Said
said line.Skipped = Nothing
said (line.World bounds) = World bounds
said (line.Player name) = Player name.text.bytes
said (line.Set p part) = Set p part
said (line.As name cmd) = Act name.text.bytes cmd
said (line.Region edit) = Region (asked edit)
said line.Tick = Tick
said (line.Explain name action p) = Explain name.text.bytes action p
said line.Together = Together
said line.End = End

-- a world has one height or the other
abbrev pub is_height : ℕ → Bool
is_height h = h == LOW_HEIGHT || h == HIGH_HEIGHT

-- the sizes of a world: 1 to 16 sectors each way, of 1 or 2 chunks each way, 64 or 128 cells high
abbrev pub sizes_of : ℕ → ℕ → ℕ → ℕ → Option Sizes
sizes_of sx sz s h =
    if (is_amid 1 sx MAX_SECTORS_EACH_WAY && is_amid 1 sz MAX_SECTORS_EACH_WAY)
    && (is_amid 1 s MAX_CHUNKS_EACH_WAY && is_height h)
    then Some (record { sx = sx; sz = sz; s = s; h = h })
    else None

-- `world SX SZ S`, of a low world, or `world SX SZ S H`
unfoldable pub world_line : Rest → Option Said
world_line words = do
  sx ← byte_at words
  sz ← byte_at sx.1
  s ← byte_at sz.1
  h ← height_at s.1
  sizes ← sizes_of sx.0 sz.0 s.0 h.0
  at_end h.1 (World sizes)

-- `player NAME`
unfoldable pub player_line : Rest → Option Said
player_line words = do
  name ← name_at words
  at_end name.1 (Player name.0)

-- `X Y Z PART`
unfoldable pub placed_part : Rest → Option (Pos × Part)
placed_part words = do
  p ← position_at words
  part ← part_at p.1
  at_end part.1 (p.0, part.0)

-- `set X Y Z PART`
unfoldable pub set_line : Rest → Option Said
set_line words = do
  placed ← placed_part words
  Some (Set placed.0 placed.1)

-- `look X Y Z`
unfoldable pub look_command : Rest → Option Cmd
look_command words = do
  p ← position_at words
  at_end p.1 (Look p.0)

-- `place X Y Z PART`
unfoldable pub place_command : Rest → Option Cmd
place_command words = do
  placed ← placed_part words
  Some (Place placed.0 placed.1)

-- `break X Y Z`
unfoldable pub break_command : Rest → Option Cmd
break_command words = do
  p ← position_at words
  at_end p.1 (Break p.0)

-- `turn X Y Z`
unfoldable pub turn_command : Rest → Option Cmd
turn_command words = do
  p ← position_at words
  at_end p.1 (Turn p.0)

-- `open X Y Z`
unfoldable pub open_command : Rest → Option Cmd
open_command words = do
  p ← position_at words
  at_end p.1 (OpenChest p.0)

-- `put X Y Z SLOT ITEM COUNT`
unfoldable pub put_command : Rest → Option Cmd
put_command words = do
  p ← position_at words
  slot ← byte_at p.1
  item ← item_at slot.1
  count ← byte_at item.1
  at_end count.1 (Put p.0 slot.0 item.0 count.0)

-- `take X Y Z SLOT COUNT`
unfoldable pub take_command : Rest → Option Cmd
take_command words = do
  p ← position_at words
  slot ← byte_at p.1
  count ← byte_at slot.1
  at_end count.1 (Take p.0 slot.0 count.0)

-- a command by its first word
unfoldable pub command_of : List ℕ → Rest → Option Cmd
command_of verb words =
    if bytes_eq verb (codes "look") then look_command words
    else if bytes_eq verb (codes "place") then place_command words
    else if bytes_eq verb (codes "break") then break_command words
    else if bytes_eq verb (codes "turn") then turn_command words
    else if bytes_eq verb (codes "open") then open_command words
    else if bytes_eq verb (codes "put") then put_command words
    else if bytes_eq verb (codes "take") then take_command words
    else None

-- `as NAME` and a command
unfoldable pub as_line : Rest → Option Said
as_line words = do
  name ← name_at words
  verb ← next_of name.1
  cmd ← command_of verb.0 verb.1
  Some (Act name.0 cmd)

-- `region` and an edit
unfoldable pub region_line : Rest → Option Said
region_line words = do
  e ← edit_of words
  Some (Region e)

-- `tick`
unfoldable pub tick_line : Rest → Option Said
tick_line words = at_end words Tick

-- `explain NAME ACTION X Y Z`
unfoldable pub explain_line : Rest → Option Said
explain_line words = do
  name ← name_at words
  action ← action_at name.1
  p ← position_at action.1
  at_end p.1 (Explain name.0 action.0 p.0)

-- `together`
unfoldable pub together_line : Rest → Option Said
together_line words = at_end words Together

-- `end`
unfoldable pub end_line : Rest → Option Said
end_line words = at_end words End

-- a line by its first word
unfoldable pub line_by : List ℕ → Rest → Option Said
line_by first words =
    if bytes_eq first (codes "as") then as_line words
    else if bytes_eq first (codes "tick") then tick_line words
    else if bytes_eq first (codes "region") then region_line words
    else if bytes_eq first (codes "set") then set_line words
    else if bytes_eq first (codes "player") then player_line words
    else if bytes_eq first (codes "world") then world_line words
    else if bytes_eq first (codes "explain") then explain_line words
    else if bytes_eq first (codes "together") then together_line words
    else if bytes_eq first (codes "end") then end_line words
    else None

-- a line by its words; a line without words says nothing
unfoldable pub line_in : Rest → Option Said
line_in [] = Some Nothing
line_in (first ∷ words) = line_by first words

-- a byte that may stand in a line
abbrev pub is_printable : ℕ → Bool
is_printable b = is_amid 32 b 126

-- the line is a comment
abbrev pub is_comment : List ℕ → Bool
is_comment [] = false
is_comment (b ∷ bs) = b == 35

-- what a line says; none where it is none of the lines of a script
unfoldable pub line_of : List ℕ → Option Said
line_of text =
    if not (list_all is_printable text) then None
    else if is_comment text then Some Nothing
    else line_in (words_of text)
