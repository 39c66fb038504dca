-- What happens in the core, one event at a time.
use Rattle.std.specs.Prelude.{ℕ}
use Rattle.vx_policy.specs.Asked.{Asked, asked}
use Rattle.vx_sector.specs.declared.cmd.Cmd.{Cmd}
use Rattle.vx_tick.specs.declared.phase.Phase.{Phase}
use Rattle.vx_core.specs.declared.event.Event.{Event}
use Rattle.vx_core.specs.declared.event.Event.TheVariants as event

-- a command of a seat; an edit; a sector taken for a tick; the work of a phase done on a sector;
-- the tick fixed; a sector put back
pub data Happening : Type 0 where
  Acts : ℕ → Cmd → Happening
  Edits : Asked → Happening
  Takes : ℕ → Happening
  Works : Phase → ℕ → Happening
  Fixes : Happening
  Puts : ℕ → Happening

-- what an event says
abbrev pub happening : Event → Happening
happening (event.Act seat cmd) = Acts seat cmd
happening (event.Edit edit) = Edits (asked edit)
happening (event.Take sector) = Takes sector
happening (event.Work phase sector) = Works phase sector
happening event.Fix = Fixes
happening (event.Put sector) = Puts sector
