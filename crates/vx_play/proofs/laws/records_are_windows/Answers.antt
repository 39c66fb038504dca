use Rattle.vx_play.proofs.Playing.{records_are_windows, first_windows_begin_with_the_terrain, windows_begin_with_the_tick}
use Rattle.vx_play.proofs.laws.records_are_windows.Goals as goal

pub returns-clause-windows : goal.returns-clause-windows
returns-clause-windows c = records_are_windows

pub returns-clause-first : goal.returns-clause-first
returns-clause-first c = first_windows_begin_with_the_terrain

pub returns-clause-next : goal.returns-clause-next
returns-clause-next c = windows_begin_with_the_tick
