use Rattle.std.proofs.Common.{◌≡◌, length, ap, arith}
use Rattle.std.proofs.lemmas.List.{length-map}
use Rattle.std.proofs.lemmas.List.Elements.{All-same}
use Rattle.vx_sector.specs.Windows.{count_of}
use Rattle.vx_keeper.specs.Marks.{IsPartOf}
use Rattle.vx_world.proofs.Parts.{whole}
use Rattle.vx_world.proofs.ticking.make.Goals as goal

pub returns-clause-parts : goal.returns-clause-parts
returns-clause-parts g c =
    let world = c.tick_of.new.keeper.world in
    let before = c.args.taken.now.sectors in
    let long : before.len ≡ length c.tick_of.new.sectors =
    omega (
      arith,
      ap length c.tick_of.ensures.counts,
      length-map c.tick_of.new.sectors count_of,
      length-map before.items count_of,
      before.ok.0,
    ) in
    c.are_all_parts.ensures.parts world
    (All-same (IsPartOf world) _ c.tick_of.new.sectors (whole before.len c.tick_of.new.sectors _ long) c.in_ok-fates.ensures.parts)
