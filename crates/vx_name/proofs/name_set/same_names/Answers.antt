use Rattle.std.proofs.Common.{bytes_eq, sym, ◌∙◌}
use Rattle.std.specs.Cmp.Derive.Mapped.{pointwise-map}
use Rattle.vx_name.specs.Names.{same_names}
use Rattle.vx_name.proofs.name_set.same_names.Goals as goal

pub returns : goal.returns
unfolding same_names
returns c = c.eq.ensures ∙ sym (pointwise-map (λ n. n.text.bytes) bytes_eq c.args.these.now c.args.those.now)
