use Rattle.std.proofs.Common.{◌≡◌, List, map, sym, subst, rules}
use Rattle.std.specs.List.{All}
use Rattle.vx_sector.specs.SectorData.{SectorData}
use Rattle.vx_windows.specs.Sectors.{first_version, opened_with}
use Rattle.vx_keeper.specs.Marks.{WorldData, IsPartOf}
use Rattle.vx_keeper.proofs.Beginning.{opened_keeps}
use Rattle.vx_keeper.proofs.Parts.{parts_opened}
use Rattle.vx_keeper.proofs.keeper.Keeper.new.Goals as goal

pub returns-clause-parts : goal.returns-clause-parts
returns-clause-parts g c =
    let o = c.args.opening in
    let world : WorldData = record { map = o.terrain; version = first_version o.policy } in
    let known : c.opened-keeper.result.world ≡ world = search rules in
    let opened : c.in_ok-sectors.sectors.items ≡ map (opened_with o.policy) o.terrain.sectors = search rules in
    subst (λ w. All (IsPartOf w) c.in_ok-sectors.sectors.items) (sym known)
    (subst (λ (ss : List SectorData). All (IsPartOf world) ss) (sym opened)
    (parts_opened o.terrain o.policy c.soundness.ensures.map.each))

pub opened-keeper-requires-clause-keeper : goal.opened-keeper-requires-clause-keeper
opened-keeper-requires-clause-keeper g c =
    opened_keeps g.A.Naming.first g.A.Places.all c.args.opening c.in_ok-archive.archive c.in_ok-known.known c.args.view
    c.soundness-2.ensures c.soundness.ensures.map c.requires.first c.requires.all
    c.in_ok-archive.ensures.chronicle c.in_ok-archive.ensures.counts c.in_ok-known.ensures
