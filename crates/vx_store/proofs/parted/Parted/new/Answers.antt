use Rattle.std.proofs.Common.{sym, subst}
use Rattle.std.specs.Global.{Vec}
use Rattle.vx_store.specs.ChestParts.{AreParted}
use Rattle.vx_store.proofs.parted.Parted.new.Goals as goal

pub invariant_of-result : goal.invariant_of-result
invariant_of-result g c =
    subst (λ (v : Vec _). AreParted g.P.HasChests.chests g.row.STRIDE v.items) (sym c.in_ok-new.ensures.ok)
    (c.in_ok-copies.ensures.parted g.row.STRIDE c.requires.stride)
