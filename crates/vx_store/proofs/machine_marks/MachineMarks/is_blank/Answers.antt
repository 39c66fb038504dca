use Rattle.std.proofs.lemmas.Bool.{leb-true}
use Rattle.vx_store.proofs.Outside.{none_where_none}
use Rattle.vx_store.proofs.machine_marks.MachineMarks.is_blank.Goals as goal

pub returns : goal.returns
returns c blank kind =
    let s = c.self.inside in
    rw (← c.self.view_is) (none_where_none s.pages.items s.first s.end c.self.invariant (leb-true s.end s.first blank) kind)
