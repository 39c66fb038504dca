use Rattle.vx_marks.proofs.Marking.{none_marked}
use Rattle.vx_marks.proofs.lazy_page.LazyPage.first_from.Goals as goal

pub returns-in-None : goal.returns-in-None
returns-in-None c i low high = rw (← c.self.view_is, c.in-None.is) (none_marked 64 i)
