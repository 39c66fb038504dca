use Rattle.std.proofs.Common.{sym, subst}
use Rattle.std.specs.Global.{Vec}
use Rattle.vx_name.specs.IdParts.{AreParted}
use Rattle.vx_name.proofs.parted.first.Goals as goal

pub put-requires-clause-parted : goal.put-requires-clause-parted
put-requires-clause-parted g c =
    subst (λ (v : Vec _). AreParted g.P.HasIds.ids c.args.level v.items) (sym c.in_ok-shared.ensures.ok) (c.in_ok-no_ids.ensures.parted c.args.level)
