use Rattle.std.proofs.Common.{◌∙◌}
use Rattle.vx_store.specs.MachineMarks.{words_of}
use Rattle.vx_store.proofs.MarkedPlaces.{some_marked}
use Rattle.vx_store.proofs.machine_marks.MachineMarks.has_any.Goals as goal

pub returns : goal.returns
returns c v k sizes low all =
    c.is_some.ensures ∙ some_marked v k (words_of c.args.kind c.args.self.now) sizes low all _ c.first_from.ensures
