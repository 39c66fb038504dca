use Rattle.std.proofs.Common.{List, ap, ◌∙◌, arith}
use Rattle.vx_store.specs.MachineMarks.{MarkWords, joined}
use Rattle.vx_store.specs.declared.mark_kind.MarkKind.TheVariants.{Component, Device}
use Rattle.vx_store.proofs.Outside.{blank_are_marked}
use Rattle.vx_store.proofs.Paging.{blank_pages}
use Rattle.vx_store.proofs.machine_marks.MachineMarks.new.Goals as goal

pub invariant_of-result : goal.invariant_of-result
invariant_of-result c =
    rw c.loop.invariant (blank_are_marked c.loop.counter c.args.count (omega arith) (omega arith))

pub returns-clause-components : goal.returns-clause-components
returns-clause-components c =
    ap (λ (pages : List MarkWords). (joined pages).components) c.loop.invariant
    ∙ blank_pages Component c.loop.counter c.args.count (omega arith) c.requires

pub returns-clause-devices : goal.returns-clause-devices
returns-clause-devices c =
    ap (λ (pages : List MarkWords). (joined pages).devices) c.loop.invariant
    ∙ blank_pages Device c.loop.counter c.args.count (omega arith) c.requires
