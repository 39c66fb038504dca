use Rattle.std.proofs.Common.{◌≡◌, slice_index_or, subst}
use Rattle.std.specs.Arc.{arc_value}
use Rattle.std.specs.Global.{Vec}
use Rattle.vx_store.proofs.ChestParting.{read_in_part}
use Rattle.vx_store.proofs.parted.PartedHasChests.get.Goals as goal

pub returns : goal.returns
returns g c =
    let held = (arc_value {X = Vec _} c.self.inside.parts).items in
    let k = c.part_of.result in
    let part = c.index.result.now in
    let read = subst (λ (v : Vec _). part ≡ slice_index_or v.items k part) c.deref.ensures c.index.ensures in
    rw (c.get.ensures, ← c.self.view_is)
    (read_in_part g.P.HasChests.chests g.row.STRIDE held c.args.index k part c.self.invariant c.part_of.ensures.value read)
