use Rattle.std.proofs.Common.{ap, ◌∙◌}
use Rattle.vx_name.specs.Texts.{texts}
use Rattle.vx_name.proofs.NameLemmas.{texts_insert_key}
use Rattle.vx_name.proofs.name_set.add_to.Goals as goal

pub returns-clause-ok : goal.returns-clause-ok
returns-clause-ok c = ap texts c.in_ok-_added.ensures.keys ∙ texts_insert_key c.args.these.now.keys c.args.name
