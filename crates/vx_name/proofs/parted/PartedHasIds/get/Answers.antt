use Rattle.std.proofs.Common.{◌≡◌, ◌∙◌, slice_index_or, subst}
use Rattle.std.specs.Arc.{arc_value}
use Rattle.std.specs.Global.{Vec}
use Rattle.vx_name.specs.IdParts.{AreParted}
use Rattle.vx_name.proofs.IdParts.{part_number, read_in_part}
use Rattle.vx_name.proofs.parted.PartedHasIds.get.Goals as goal

pub returns : goal.returns
returns g c =
    let ids = g.P.HasIds.ids in
    let held = (arc_value c.in-Some.parts).items in
    let k = c.part_of.result in
    let part = c.index.result.now in
    let parted : AreParted ids g.row.LEVEL held = rw c.in-Some.is at c.self.invariant in
    let read = subst (λ (v : Vec _). part ≡ slice_index_or v.items k part) c.deref.ensures c.index.ensures in
    rw (← c.self.view_is, c.in-Some.is) (c.get.ensures ∙ read_in_part ids g.row.LEVEL held c.args.id.now k part parted (part_number g.row.LEVEL c.args.id.now _ k c.part_of.ensures.value c.requires) read)
