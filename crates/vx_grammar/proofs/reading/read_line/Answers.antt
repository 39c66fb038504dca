-- A line whose bytes may all stand in one is a text.
use Rattle.std.proofs.Common.{sym, ◌∙◌}
use Rattle.vx_grammar.proofs.Printables.{printable_is_text}
use Rattle.vx_grammar.proofs.reading.read_line.Goals as goal

pub new-requires : goal.new-requires
new-requires c = printable_is_text _ (sym c.all_printable.ensures ∙ c.if-not-all_printable.false)
