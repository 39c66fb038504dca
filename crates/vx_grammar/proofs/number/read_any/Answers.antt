-- What is no text is no number.
use Rattle.std.proofs.Common.{sym}
use Rattle.vx_grammar.proofs.Spelled.{no_text}
use Rattle.vx_grammar.proofs.number.read_any.Goals as goal

pub returns-in-Err : goal.returns-in-Err
returns-in-Err c = sym (no_text c.args.word.now c.in-Err.ensures.cases.0)
