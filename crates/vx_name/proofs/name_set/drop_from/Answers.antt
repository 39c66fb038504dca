use Rattle.std.proofs.Common.{ap, ◌∙◌}
use Rattle.vx_name.specs.Texts.{texts}
use Rattle.vx_name.proofs.NameLemmas.{texts_remove_key}
use Rattle.vx_name.proofs.name_set.drop_from.Goals as goal

pub returns : goal.returns
returns c =
    ap texts c.shift_remove-dropped.ensures.keys ∙ texts_remove_key c.args.these.now.keys c.args.name.now c.len-count.ensures.unique
