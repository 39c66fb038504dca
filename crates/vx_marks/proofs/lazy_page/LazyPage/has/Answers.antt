use Rattle.std.proofs.Common.{sym}
use Rattle.vx_marks.proofs.Marking.{none_marked}
use Rattle.vx_marks.proofs.lazy_page.LazyPage.has.Goals as goal

pub returns-in-None : goal.returns-in-None
returns-in-None c = rw (← c.self.view_is, c.in-None.is) (sym (none_marked 64 c.args.index))
