-- Why a tick is not worked.
use Rattle.std.specs.Prelude.{ℕ, List, Option}
use Rattle.std.specs.Bool.{⊤}
use Rattle.vx_sector.specs.SectorData.{SectorData}
use Rattle.vx_record.specs.Settling.{KnownData, AreKnown, IsTorn}
use Rattle.vx_keeper.specs.declared.tick_error.TickError.{TickError}
use Rattle.vx_board.specs.declared.view_error.ViewError.{ViewError}
use Rattle.vx_board.specs.declared.view_error.ViewError.TheVariants as view
use Rattle.vx_keeper.specs.declared.tick_error.TickError.TheVariants.{HistoryFull, Torn, NoView, NoMemory}

-- the first sector that is not what the keeper has of it; memory is wanting only where all are, and
-- no view is asked for
abbrev pub IsNoWork : (ℕ → KnownData) → List (Option SectorData) → TickError → Type 0
IsNoWork known places HistoryFull = ⊤
IsNoWork known places (Torn k) = IsTorn known places k
IsNoWork known places NoView = ⊥
IsNoWork known places NoMemory = AreKnown known places

-- what an error of the keeper's view says of the tick
abbrev pub tick_error : ViewError → TickError
tick_error view.NoView = NoView
tick_error view.NoMemory = NoMemory
