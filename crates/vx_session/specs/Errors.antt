-- Why a session ends, by what went wrong below it.
use Rattle.vx_board.specs.declared.view_error.ViewError.{ViewError}
use Rattle.vx_board.specs.declared.view_error.ViewError.TheVariants as view
use Rattle.vx_keeper.specs.declared.tick_error.TickError.{TickError}
use Rattle.vx_keeper.specs.declared.tick_error.TickError.TheVariants as tick
use Rattle.vx_record.specs.declared.fault.Fault.TheVariants as fault
use Rattle.vx_world.specs.declared.settle_error.SettleError.{SettleError}
use Rattle.vx_world.specs.declared.settle_error.SettleError.TheVariants as settle
use Rattle.vx_session.specs.declared.session_error.SessionError.{SessionError}
use Rattle.vx_session.specs.declared.session_error.SessionError.TheVariants.{HistoryFull, NoMemory, Torn, PassMissing, Differs, NoView}

-- by why there is no view, or why it does not answer
abbrev pub by_view : ViewError → SessionError
by_view view.NoView = NoView
by_view view.NoMemory = NoMemory

-- by why no tick is made
abbrev pub by_tick : TickError → SessionError
by_tick tick.HistoryFull = HistoryFull
by_tick (tick.Torn sector) = Torn sector
by_tick tick.NoView = NoView
by_tick tick.NoMemory = NoMemory

-- by why its world is not settled
abbrev pub by_settlement : SettleError → SessionError
by_settlement (settle.Disagreement fault.PassMissing) = PassMissing
by_settlement (settle.Disagreement (fault.Torn sector)) = Torn sector
by_settlement (settle.Disagreement (fault.ListsDiffer seat sector)) = Differs seat sector
by_settlement settle.NoMemory = NoMemory
