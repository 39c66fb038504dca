use Rattle.std.proofs.Common.{ap, ◌∙◌, arith}
use Rattle.vx_base.specs.Parts.{all_of}
use Rattle.vx_name.proofs.IdParts.{parted_empty, none_of}
use Rattle.vx_name.proofs.parted.no_ids.Goals as goal

pub returns-clause-parted : goal.returns-clause-parted
returns-clause-parted g c level = parted_empty g.P.HasIds.ids level c.loop.parts.items c.loop.counter c.loop.invariant (omega arith)

pub returns-clause-none : goal.returns-clause-none
returns-clause-none g c = ap all_of c.loop.invariant ∙ none_of c.loop.counter
