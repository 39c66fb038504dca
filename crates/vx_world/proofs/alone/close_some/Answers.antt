use Rattle.std.proofs.Common.{◌≡◌, length, ap, sym, subst, arith}
use Rattle.std.proofs.lemmas.List.{length-map}
use Rattle.std.proofs.lemmas.List.Elements.{All-same}
use Rattle.vx_sector.specs.Windows.{count_of}
use Rattle.vx_keeper.specs.Busy.{AreBusyOf}
use Rattle.vx_keeper.specs.Marks.{IsPartOf}
use Rattle.vx_world.proofs.Parts.{whole}
use Rattle.vx_world.proofs.Since.{but_ticked}
use Rattle.vx_world.proofs.alone.close_some.Goals as goal

pub returns-clause-ticked : goal.returns-clause-ticked
returns-clause-ticked g c =
    let k = c.args.keeper.now in
    let done = c.close_busy-closed.ensures in
    but_ticked g.A.Naming.first g.A.Places.all k c.close_busy-closed.new.self c.deref_mut.result.now
    c.close_busy-closed.result.0.items c.soundness.ensures
    (subst (AreBusyOf k) (sym c.deref_mut.ensures.value) c.requires.known) done.chronicle done.counts done.world done.seen done.fates

pub returns-clause-parts : goal.returns-clause-parts
returns-clause-parts g c =
    let world = c.close_busy-closed.new.self.world in
    let before = c.args.taken.now.sectors in
    let after = c.close_busy-closed.new.busy in
    let done = c.close_busy-closed.ensures in
    let long : before.len ≡ length after =
    omega (
      arith,
      ap length done.kept,
      length-map after count_of,
      length-map c.deref_mut.result.now count_of,
      ap length c.deref_mut.ensures.value,
      before.ok.0,
    ) in
    c.are_all_parts.ensures.parts world
    (All-same (IsPartOf world) _ after (whole before.len after _ long) done.parts)
