-- Where no space is found, there is none.
use Rattle.vx_grammar.proofs.Cuts.{none_found}
use Rattle.vx_grammar.proofs.words.cut.Goals as goal

pub returns-in_err-place : goal.returns-in_err-place
returns-in_err-place c = rw c.from_residual.ensures (none_found c.args.text.now c.in_err-place.ensures)
