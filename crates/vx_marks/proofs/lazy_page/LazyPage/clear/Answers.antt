use Rattle.vx_marks.proofs.Marking.{none_cleared}
use Rattle.vx_marks.proofs.lazy_page.LazyPage.clear.Goals as goal

pub returns-in_default : goal.returns-in_default
returns-in_default c = rw (← c.self.view_is, c.in_default.is) (none_cleared 64 c.args.index)
