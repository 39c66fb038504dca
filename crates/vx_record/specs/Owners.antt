-- What may change a world, in the words of those who own plots in it.
use Rattle.std.specs.Prelude.{◌≡◌, ◌⊎◌, ◌↔◌, ℕ, true, false, List, [], ◌∷◌, ◌++◌, slice_get, Some, None, Ok, Err}
use Rattle.vx_geom.specs.declared.pos.Pos.{Pos}
use Rattle.vx_geom.specs.Sizes.{sector_of}
use Rattle.vx_block.specs.declared.cell.Cell.{Cell}
use Rattle.vx_block.specs.declared.cell.Cell.TheVariants.{Dust, Torch, Lever, Repeater, Lamp}
use Rattle.vx_block.specs.declared.lamp.Lamp.TheVariants as lamp
use Rattle.vx_cells.specs.MapLaws.{block_on, IsFilled}
use Rattle.vx_cells.specs.Maps.{MapData, cell_on}
use Rattle.vx_cells.specs.SectorCells.{SectorCells, Block, block_at}
use Rattle.vx_region.specs.Regions.{Regions}
use Rattle.vx_flag.specs.declared.action.Action.{Action}
use Rattle.vx_decide.specs.declared.rule.Rule.{Rule}
use Rattle.vx_decide.specs.declared.verdict.Verdict.TheVariants.{Permit, Deny}
use Rattle.vx_power.specs.Laws.{dust_level}
use Rattle.vx_power.specs.Walks.{IsAmong}
use Rattle.vx_piston.specs.Moves.{Moving, candidate}
use Rattle.vx_cause.specs.Judging.{pushing_verdict}
use Rattle.vx_cause.specs.Laws.{IsPermit, IsFirstDenied}
use Rattle.vx_sector.specs.Acting.{judged}
use Rattle.vx_sector.specs.Commands.{place_of, action_of}
use Rattle.vx_sector.specs.SectorData.{EntryData}
use Rattle.vx_sector.specs.Windows.{cells_after}
use Rattle.vx_sector.specs.declared.refusal.Refusal.TheVariants as refusal
use Rattle.vx_sector.specs.declared.reply.Reply.TheVariants.{Done}
use Rattle.vx_tick.specs.declared.fate.Fate.TheVariants.{Moved, Denied}
use Rattle.vx_record.specs.Chronicles.{TickData, ChronicleData, IsSeatOf, IsRun, map_acted, map_ticked, map_after}

-- a cell as it was built, whatever signals it gets
abbrev pub built : Cell → Cell
built (Dust level) = Dust 0
built (Torch facing lit) = Torch facing true
built (Lever facing on) = Lever facing false
built (Repeater r) = Repeater (record r { on = false; wait = 0 })
built (Lamp state) = Lamp lamp.Off
built other = other

-- what stands somewhere, whatever signals it gets, and the slots of a chest
abbrev pub as_built : Block → Block
as_built block = record block { cell = built block.cell }

-- what stands so at a position of a map
abbrev pub standing : MapData → Pos → Block
standing m p = as_built (block_on m p)

-- what stands so at a position of a sector after these entries of its window
abbrev pub standing_after : SectorCells → List EntryData → Pos → Block
standing_after cells entries p = as_built (block_at (cells_after cells entries) p)

-- a tick of a run, and those before it
pub record IsTickOf (c : ChronicleData) (before : List TickData) (tick : TickData) : Type 0 where
  pub later : List TickData
  pub all : c.ticks ≡ before ++ tick ∷ later
  pub run : IsRun c
  pub filled : IsFilled c.opening.terrain

-- the map on which a tick's windows begin
abbrev pub map_before : ChronicleData → List TickData → MapData
map_before c before = map_after c.opening.terrain before

-- the entry is on record in a window of the tick
pub record IsRecorded (tick : TickData) (entry : EntryData) : Type 0 where
  pub window : List EntryData
  pub there : IsAmong tick.windows window
  pub among : IsAmong window entry

-- the sector of p has these cells as the tick begins, and these are the entries of its window
pub record IsWindowAt (m : MapData) (tick : TickData) (p : Pos) (cells : SectorCells)
    (window : List EntryData) : Type 0 where
  pub number : ℕ
  pub sector : sector_of m.sizes p ≡ Some number
  pub begun : slice_get m.sectors number ≡ Some cells
  pub recorded : slice_get tick.windows number ≡ Some window

-- the command of the entry was done by leave: the policy permits its player its own action at its
-- place, by the rule that was told
pub record HasLeave (policy : Regions) (entry : EntryData) : Type 0 where
  pub rule : Rule
  pub told : entry.answer ≡ Ok (Done rule)
  pub action : Action
  pub asked : action_of entry.cmd ≡ Some action
  pub permitted : judged policy entry.seat action (place_of entry.cmd) ≡ Permit rule

-- the command of the entry is a player's, at p, and was done by leave of the policy
pub record IsByCommand (names : List (List ℕ)) (policy : Regions) (entry : EntryData) (p : Pos)
    : Type 0 where
  pub seat : IsSeatOf names entry.seat
  pub place : place_of entry.cmd ≡ p
  pub leave : HasLeave policy entry

-- each command of the window of p's sector leaves what stands at p as the commands before it left
-- it, or it is a player's at p, done by leave of the policy of the tick
abbrev pub EachCommandHasLeave : List (List ℕ) → MapData → TickData → Pos → Type 0
EachCommandHasLeave names m tick p = (cells : SectorCells)
    (earlier : List EntryData) (entry : EntryData) (later : List EntryData)
    → IsWindowAt m tick p cells (earlier ++ entry ∷ later)
    → (standing_after cells (earlier ++ entry ∷ []) p ≡ standing_after cells earlier p)
    ⊎ IsByCommand names tick.version.policy entry p

-- the window of p's sector leads from what stands at p as the tick begins to what stands there
-- after all commands of the tick
pub record IsByWindow (m : MapData) (tick : TickData) (p : Pos) : Type 0 where
  pub cells : SectorCells
  pub window : List EntryData
  pub found : IsWindowAt m tick p cells window
  pub begun : standing m p ≡ standing_after cells [] p
  pub ended : standing (map_acted m tick) p ≡ standing_after cells window p

-- the commands of the window of p's sector are all that is done at p before the machines, and
-- nothing is done where p is of no sector
abbrev pub IsStepByStep : MapData → TickData → Pos → Type 0
IsStepByStep m tick p =
    IsByWindow m tick p
    ⊎ ((sector_of m.sizes p ≡ None) × (standing (map_acted m tick) p ≡ standing m p))

-- the move that a piston asks for as the machines begin
abbrev pub IsAskedOn : MapData → Moving → Type 0
IsAskedOn m move = candidate m (dust_level (cell_on m)) move.at ≡ Some move

-- a machine's move that was made took the cell at p: the policy of the tick permits the machine
-- each of its cells
pub record IsByMove (m : MapData) (tick : TickData) (p : Pos) : Type 0 where
  pub move : Moving
  pub asked : IsAskedOn (map_acted m tick) move
  pub told : IsAmong tick.fates (move.at, Moved)
  pub taken : IsAmong move.cells p
  pub permitted : (q : Pos) → IsAmong move.cells q
      → IsPermit (pushing_verdict tick.version.policy move.at q)

-- each command of a tick leaves what stands at p, and what a chest there holds, or it is a player's
-- command that the policy of the tick permits to that player there; these commands, one after
-- another, are all that changes it before the machines; and the machines leave it, or change it by a
-- machine's move all of whose cells the policy permits to that machine
abbrev pub ChangesByLeave : List (List ℕ) → MapData → TickData → Pos → Type 0
ChangesByLeave names m tick p =
    EachCommandHasLeave names m tick p
    × IsStepByStep m tick p
    × ((standing (map_ticked m tick) p ≡ standing (map_acted m tick) p) ⊎ IsByMove m tick p)

-- so does each tick of a run, at each position
abbrev pub ChangesHaveLeave : Type 0
ChangesHaveLeave = (c : ChronicleData) (before : List TickData) (tick : TickData) (p : Pos)
    → IsTickOf c before tick → ChangesByLeave c.opening.names (map_before c before) tick p

-- the command of an entry is denied by a rule exactly where the policy denies its player the action
-- at that place, by that rule
abbrev pub IsDeniedBy : Regions → EntryData → Rule → Type 0
IsDeniedBy policy entry rule = (entry.answer ≡ Err (refusal.Denied rule))
    ↔ ((action : Action) × (action_of entry.cmd ≡ Some action)
    × (judged policy entry.seat action (place_of entry.cmd) ≡ Deny rule))

-- so is each command on record, by the policy of the tick
abbrev pub CommandsDeniedByThePolicy : Type 0
CommandsDeniedByThePolicy = (c : ChronicleData) (before : List TickData) (tick : TickData)
    (entry : EntryData) (rule : Rule) → IsTickOf c before tick → IsRecorded tick entry
    → IsDeniedBy tick.version.policy entry rule

-- the move of the piston at q is told as denied at p by a rule exactly where it asks for the move as
-- the machines begin, and that is the first of its cells that the policy of the tick denies to it, by
-- that rule
abbrev pub IsMoveDeniedBy : MapData → TickData → Pos → Pos → Rule → Type 0
IsMoveDeniedBy m tick q p rule = IsAmong tick.fates (q, Denied p rule)
    ↔ ((move : Moving) × (move.at ≡ q) × IsAskedOn (map_acted m tick) move
    × IsFirstDenied tick.version.policy q move.cells p rule)

-- so is each move in a tick
abbrev pub MovesDeniedByThePolicy : Type 0
MovesDeniedByThePolicy = (c : ChronicleData) (before : List TickData) (tick : TickData)
    (q p : Pos) (rule : Rule) → IsTickOf c before tick
    → IsMoveDeniedBy (map_before c before) tick q p rule
