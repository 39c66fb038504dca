-- The header of a script: the world as it opens, and where the body begins.
use Rattle.std.specs.Prelude.{ℕ, ◌+◌, Bool, not, ◌&&◌, ◌==◌, nat_lt, if◌then◌else◌, List, [], ◌∷◌, ◌++◌, length, map, Option, Some, None, option_map, is_some, Result, Ok, Err}
use Rattle.std.specs.Option.{option_and_then}
use Rattle.vx_block.specs.declared.part.Part.{Part}
use Rattle.vx_block.specs.Part.{part_cell}
use Rattle.vx_geom.specs.declared.pos.Pos.{Pos}
use Rattle.vx_geom.specs.Sizes.{Sizes}
use Rattle.vx_cells.specs.Maps.{MapData}
use Rattle.vx_cells.specs.Wholes.{bare, with_cell_on}
use Rattle.vx_lines.specs.Lines.{lines_of}
use Rattle.vx_grammar.specs.ScriptLines.{Said, Nothing, World, Player, Set, Act, Region, Tick, Explain, Together, End, line_of}
use Rattle.vx_region.specs.Regions.{Regions}
use Rattle.vx_record.specs.Openings.{OpeningData}
use Rattle.vx_play.specs.Plays.{is_named}
use Rattle.vx_windows.specs.Limits.{most_players}
use Rattle.vx_script.specs.declared.fault.Fault.{Fault}
use Rattle.vx_script.specs.declared.fault.Fault.TheVariants.{Syntax, TooManyPlayers}

-- how many bytes a line may have
abbrev pub most_bytes : ℕ
most_bytes = 4096

-- what a line says; none where it is too long, or none of the lines of a script
unfoldable pub read_of : List ℕ → Option Said
read_of line = if nat_lt most_bytes (length line) then None else line_of line

-- what each line of a script says
abbrev pub says_of : List ℕ → List (Option Said)
says_of script = map read_of (lines_of script)

-- the world as it opens, so far: its cells, once its size was said, and its players' names
pub record Opening : Type 0 where
  pub terrain : Option MapData
  pub names : List (List ℕ)

-- nothing was said yet
abbrev pub no_opening : Opening
no_opening = record { terrain = None; names = [] }

-- the size is said once
abbrev pub with_size : Opening → Sizes → Option MapData → Option Opening
with_size o sizes None = Some (record o { terrain = Some (bare sizes) })
with_size o sizes (Some terrain) = None

-- a player is named once, after the size was said
abbrev pub with_player : Opening → List ℕ → Option Opening
with_player o name =
    if is_some o.terrain && not (is_named o.names name)
    then Some (record o { names = o.names ++ name ∷ [] })
    else None

-- a cell is set after the size was said, inside the world
unfoldable pub with_cell_set : Opening → Pos → Part → Option Opening
with_cell_set o p part =
    option_map (λ g. record o { terrain = Some g })
    (option_and_then (λ g. with_cell_on g p (part_cell part)) o.terrain)

-- the opening after a line of the header; none where the line may not stand there
unfoldable pub header_after : Opening → Said → Option Opening
header_after o Nothing = Some o
header_after o (World sizes) = with_size o sizes o.terrain
header_after o (Player name) = with_player o name
header_after o (Set p part) = with_cell_set o p part
header_after o (Act name cmd) = None
header_after o (Region e) = None
header_after o Tick = None
header_after o (Explain name action p) = None
header_after o Together = None
header_after o End = None

-- there is a world with a player in it
abbrev pub is_peopled : Opening → Bool
is_peopled o = is_some o.terrain && not (length o.names == 0)

-- where a header ends: at a fault; at the end of the script, behind which line n would stand; or at
-- line n, which is the first one of the body and says this, with these lines behind it
pub data HeaderEnd : Type 0 where
  Faulty : Fault → HeaderEnd
  Bare : Opening → ℕ → HeaderEnd
  Begins : Opening → ℕ → Said → List (Option Said) → HeaderEnd

-- the header goes on with another opening, if there is one, else line n is faulty
abbrev pub or_faulty : ℕ → Option Opening → (Opening → HeaderEnd) → HeaderEnd
or_faulty n None go = Faulty (Syntax n)
or_faulty n (Some o) go = go o

-- the body begins at line n where that may stand there, else it is faulty
abbrev pub begins_if : ℕ → Bool → HeaderEnd → HeaderEnd
begins_if n may_stand end = if may_stand then end else Faulty (Syntax n)

-- where a header ends by line n, or by those after it; a command and a question need their player,
-- another line of the body any
unfoldable pub header_line : Opening → ℕ → Option Said → (Opening → HeaderEnd) → (Said → HeaderEnd)
    → HeaderEnd
header_line o n (Some (Act name cmd)) go first =
    begins_if n (is_named o.names name) (first (Act name cmd))
header_line o n (Some (Explain name action p)) go first =
    begins_if n (is_named o.names name) (first (Explain name action p))
header_line o n (Some (Region e)) go first = begins_if n (is_peopled o) (first (Region e))
header_line o n (Some Tick) go first = begins_if n (is_peopled o) (first Tick)
header_line o n (Some Together) go first = begins_if n (is_peopled o) (first Together)
header_line o n (Some End) go first = or_faulty n (header_after o End) go
header_line o n (Some Nothing) go first = or_faulty n (header_after o Nothing) go
header_line o n (Some (World sizes)) go first = or_faulty n (header_after o (World sizes)) go
header_line o n (Some (Player name)) go first = or_faulty n (header_after o (Player name)) go
header_line o n (Some (Set p part)) go first = or_faulty n (header_after o (Set p part)) go
header_line o n None go first = Faulty (Syntax n)

-- where a header ends, the first of its lines having number n
abbrev pub header_end : Opening → ℕ → List (Option Said) → HeaderEnd
header_end o n [] = Bare o n
header_end o n (line ∷ lines) =
    header_line o n line (λ next. header_end next (n + 1) lines) (λ first. Begins o n first lines)

-- how the world opens at line n, or why there is none
abbrev pub begun_on : Regions → List (List ℕ) → ℕ → Option MapData → Result OpeningData Fault
begun_on rs names n None = Err (Syntax n)
begun_on rs names n (Some terrain) =
    if nat_lt most_players (length names)
    then Err TooManyPlayers
    else Ok (record { terrain = terrain; names = names; policy = rs })

unfoldable pub begun : Regions → Opening → ℕ → Result OpeningData Fault
begun rs o n = begun_on rs o.names n o.terrain
