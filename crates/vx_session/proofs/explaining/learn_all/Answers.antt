use Rattle.std.proofs.Common.{refl, sym, subst}
use mathlib.Core.List.{IsPrefix}
use Rattle.vx_session.specs.Sessions.{edits_to}
use Rattle.vx_session.proofs.explaining.learn_all.Goals as goal

pub returns-in_default : goal.returns-in_default
returns-in_default g c = subst (λ last. IsPrefix (edits_to last) c.args.view.now) (sym c.in_default.is) (c.args.view.now, refl)
