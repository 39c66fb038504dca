use Rattle.std.proofs.Common.{sym, ◌∙◌}
use Rattle.vx_name.proofs.NameLemmas.{absent_stays}
use Rattle.vx_name.proofs.name_set.NameSet.remove.Goals as goal

pub returns-then-not-has-clause-ok : goal.returns-then-not-has-clause-ok
returns-then-not-has-clause-ok c = sym (absent_stays c.args.self.now c.args.name.now.text.bytes (sym c.has.ensures ∙ c.if-not-has.true))
