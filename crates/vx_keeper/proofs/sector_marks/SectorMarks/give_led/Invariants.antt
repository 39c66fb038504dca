use Rattle.std.proofs.Common.{take}
use Rattle.vx_keeper.specs.Marks.{AreGiven}
use Rattle.vx_keeper.proofs.sector_marks.SectorMarks.give_led.Given as goal

-- the mark was given to those of so many
abbrev pub invariant-loop-window : goal.invariant-loop-window
invariant-loop-window g l = AreGiven l.fn.self (take l.window-index l.next) l.mark l.self
