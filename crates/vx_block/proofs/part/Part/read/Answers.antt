use Rattle.vx_block.proofs.Parts.{named}
use Rattle.vx_block.proofs.part.Part.read.Goals as goal

pub returns-clause-named : goal.returns-clause-named
returns-clause-named c = named c.parse.result c.args.text.now c.parse.ensures.found c.parse.ensures.only
