use Rattle.std.proofs.Common.{[], sym, ◌∙◌}
use Rattle.std.proofs.lemmas.Option.{unwrap_or-slice_get}
use Rattle.vx_record.proofs.saying.window_of.Goals as goal

pub returns : goal.returns
returns c = c.window.ensures ∙ sym (unwrap_or-slice_get c.args.tick.now.windows c.args.at [])
