-- What a settlement looks at, and what it tells.
use Rattle.std.specs.Prelude.{◌≡◌, ℕ, ⊤, Bool, true, Option, Some, None, option_map, is_some, unwrap_or}
use Rattle.vx_cells.specs.SectorCells.{holds}
use Rattle.vx_geom.specs.Sizes.{Sizes}
use Rattle.vx_geom.specs.declared.pos.Pos.{Pos}
use Rattle.vx_sector.specs.SectorData.{SectorData}
use Rattle.vx_sector.specs.Windows.{IsWindow, count_of}
use Rattle.vx_record.specs.Settling.{CallerData}
use Rattle.vx_record.specs.declared.fault.Fault.{Fault}
use Rattle.vx_world.specs.Numbered.{IsSectorOf}
use Rattle.vx_world.specs.declared.pass.Pass.{Pass}
use Rattle.vx_world.specs.declared.slot.Slot.{Slot}
use Rattle.vx_world.specs.declared.settle_error.SettleError.{SettleError}
use Rattle.vx_world.specs.declared.settle_error.SettleError.TheVariants.{Disagreement, NoMemory}

-- the sector that is at home there, if one is
abbrev pub sector_here : {A : Type 0} {P : _} {E : _} {N : _} {H : _} → Slot A P E N H
    → Option SectorData
sector_here slot = option_map (λ home. home.marked) slot.home

-- a sector is at home there
abbrev pub is_home : {A : Type 0} {P : _} {E : _} {N : _} {H : _} → Slot A P E N H → Bool
is_home slot = is_some slot.home

-- the sector of that number in a world of these sizes is at home there
abbrev pub IsHome : Sizes → ℕ → Option SectorData → Type 0
IsHome sizes number None = ⊥
IsHome sizes number (Some s) = IsSectorOf sizes number s

-- a sector is at home there that holds the position
abbrev pub IsHomeOf : Pos → Option SectorData → Type 0
IsHomeOf p None = ⊥
IsHomeOf p (Some s) = holds s.cells p ≡ true

-- how many entries it has, in closed windows too; none where it is away
abbrev pub count_here : {A : Type 0} {P : _} {E : _} {N : _} {H : _} → Slot A P E N H → ℕ
count_here slot = unwrap_or (option_map (λ home. count_of home.marked) slot.home) 0

-- the entries of the sector there, if one is there, are a window over the cells with which it
-- began, by its version
abbrev pub IsWindowHere : Option SectorData → Type 0
IsWindowHere None = ⊤
IsWindowHere (Some s) = IsWindow s.version.policy s.base s.entries

-- who made the calls of a pass
abbrev pub caller_of : {A B : Type 0} {P : _} {E : _} {N : _} {H : _} {S : _}
    → Pass A B P E N H S → CallerData
caller_of pass = record { seat = pass.seat.number; lists = pass.lists }

-- what it found, by the error that it answers; memory is wanting only where all agree
abbrev pub found_by : SettleError → Option Fault
found_by (Disagreement fault) = Some fault
found_by NoMemory = None
