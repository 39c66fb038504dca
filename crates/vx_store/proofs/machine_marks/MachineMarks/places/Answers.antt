use Rattle.std.proofs.Common.{None, refl, ◌∙◌}
use Rattle.vx_store.specs.MachineMarks.{words_of}
use Rattle.vx_store.proofs.MarkedPlaces.{none_found}
use Rattle.vx_store.proofs.machine_marks.MachineMarks.places.Goals as goal

pub returns-then-is_blank : goal.returns-then-is_blank
returns-then-is_blank c =
    c.new.ensures.items
    ∙ none_found c.args.bounds c.args.sector (words_of c.args.kind c.args.self.now) c.soundness.ensures c.requires.sector
    c.requires.all None (c.is_blank.ensures c.if-is_blank.true c.args.kind) refl
