use Rattle.vx_store.proofs.Paging.{kind_blank}
use Rattle.vx_store.proofs.shared_page.SharedPage.of.Goals as goal

pub returns-in-None-clause-none : goal.returns-in-None-clause-none
returns-in-None-clause-none c _ = rw (← c.self.view_is, c.in-None.is) (kind_blank c.args.kind)
