use Rattle.std.proofs.Common.{arith}
use Rattle.vx_store.proofs.Paging.{past_all, page_is}
use Rattle.vx_store.proofs.machine_marks.MachineMarks.page.Goals as goal

pub returns-then-len-number : goal.returns-then-len-number
returns-then-len-number c =
    rw (← c.self.view_is)
    (past_all c.args.kind c.self.inside.pages.items c.args.number c.self.invariant.pages (omega (arith, c.if-len-number.true, c.len.ensures)))

pub returns : goal.returns
returns c =
    rw (← c.self.view_is)
    (page_is c.args.kind c.self.inside.pages.items c.args.number c.index.result.now c.self.invariant.pages
    (omega (arith, c.if-len-number.false, c.len.ensures)) c.index.ensures c.of.result c.of.ensures.some c.of.ensures.none)
