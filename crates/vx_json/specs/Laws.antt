-- What a reader may rely on of the lines of a record and of the words of commands.
use Rattle.std.specs.Prelude.{◌≡◌, ℕ, ◌^◌, ◌<◌, codes, FitsSigned, List, ◌++◌, Some}
use Rattle.std.specs.Int.{w32}
use Rattle.vx_geom.specs.declared.pos.Pos.{Pos}
use Rattle.vx_grammar.specs.ScriptLines.{Act, line_of}
use Rattle.vx_name.specs.Words.{IsName}
use Rattle.vx_sector.specs.declared.cmd.Cmd.{Cmd}
use Rattle.vx_sector.specs.declared.cmd.Cmd.TheVariants.{Look, Place, Break, Turn, OpenChest, Put, Take}
use Rattle.serde_json.specs.Written.{compact_text}
use Rattle.vx_json.specs.Commands.{cmd_text}
use Rattle.vx_json.specs.Objects.{call_data, fate_data}
use Rattle.vx_json.specs.Plain.{IsPlain}
use Rattle.vx_json.specs.Records.{call_json, fate_json}

-- what stands in the line of a call is its object as JSON writes it, where its texts are plain
abbrev pub CallsAreObjects : Type 0
CallsAreObjects = (cmd player reply : List ℕ) (sector tick : ℕ)
    → IsPlain cmd → IsPlain player → IsPlain reply
    → call_json cmd player reply sector tick
    ≡ compact_text (call_data cmd player reply sector tick)

-- what stands in the line of a fate is its object as JSON writes it, where its text is plain
abbrev pub FatesAreObjects : Type 0
FatesAreObjects = (fate : List ℕ) (tick : ℕ) → IsPlain fate
    → fate_json fate tick ≡ compact_text (fate_data fate tick)

-- the coordinates are of 32 bits
pub record IsPlace (p : Pos) : Type 0 where
  pub x_fits : FitsSigned w32 p.x
  pub y_fits : FitsSigned w32 p.y
  pub z_fits : FitsSigned w32 p.z

-- the numbers of a command are in the ranges of their types
abbrev pub IsCommand : Cmd → Type 0
IsCommand (Look p) = IsPlace p
IsCommand (Place p part) = IsPlace p
IsCommand (Break p) = IsPlace p
IsCommand (Turn p) = IsPlace p
IsCommand (OpenChest p) = IsPlace p
IsCommand (Put p slot item count) =
    IsPlace p × (slot < 2 ^ 8) × (item < 2 ^ 16) × (count < 2 ^ 8)
IsCommand (Take p slot count) = IsPlace p × (slot < 2 ^ 8) × (count < 2 ^ 8)

-- the words of a command, behind its player's name, make a line of a script that says this command
-- of this player: so they leave nothing out
abbrev pub WordsReadBack : Type 0
WordsReadBack = (name : List ℕ) (cmd : Cmd) → IsName name → IsCommand cmd
    → line_of (codes "as " ++ name ++ codes " " ++ cmd_text cmd) ≡ Some (Act name cmd)
