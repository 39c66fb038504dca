use Rattle.std.proofs.Common.{◌≡◌, ◌+◌, length, map, sym, ap, subst, ◌∙◌}
use Rattle.std.proofs.lemmas.Bool.{eqb-true}
use Rattle.std.proofs.lemmas.List.Elements.{All-from_recursion}
use Rattle.std.proofs.lemmas.Result.{IfOk-weaker}
use Rattle.vx_cells.specs.Maps.{AreSectors}
use Rattle.vx_cells.specs.Wholes.{with_cells_on}
use Rattle.vx_policy.specs.declared.version.Version.{Version}
use Rattle.vx_record.specs.Chronicles.{version_by}
use Rattle.vx_sector.specs.SectorData.{SectorData}
use Rattle.vx_still.specs.Watching.{IsWatch}
use Rattle.vx_windows.specs.Sectors.{cells_of, with_changes}
use Rattle.vx_windows.proofs.Renewals.{after_placed}
use Rattle.vx_keeper.specs.Keepers.{KeeperData, keeper_data, map_by, map_next}
use Rattle.vx_keeper.specs.Readiness.{CanClose}
use Rattle.vx_keeper.proofs.Closing.{still_keeps}
use Rattle.vx_keeper.proofs.Knowing.{all_judged, held_of, whole_now}
use Rattle.vx_keeper.proofs.Versions.{same_but_number}
use Rattle.vx_keeper.proofs.keeper.Keeper.fresh.Goals as goal

pub invariant_of-self : goal.invariant_of-self
invariant_of-self g c = (
  still_keeps g.A.Naming.first g.A.Places.all c.self.inside.archive c.reserve.new.self c.self.inside.known
      c.self.inside.view c.reserve.ensures.chronicle c.reserve.ensures.counts c.self.invariant.0,
  c.self.invariant.1,
  c.self.invariant.2,
)

pub invariant_of-self-2 : goal.invariant_of-self-2
invariant_of-self-2 g c = (
  still_keeps g.A.Naming.first g.A.Places.all c.self.inside.archive c.reserve.new.self c.self.inside.known
      c.self.inside.view c.reserve.ensures.chronicle c.reserve.ensures.counts c.self.invariant.0,
  c.self.invariant.1,
  c.self.invariant.2,
)

pub new-requires-clause-placed : goal.new-requires-clause-placed
new-requires-clause-placed g c =
    let first = g.A.Naming.first in
    let many = g.A.Places.all in
    let k = c.args.self.now in
    let ss = c.args.sectors.now in
    let held = held_of first many k c.soundness.ensures ss c.requires.each c.requires.known in
    let sizes = c.bounds.ensures ∙ ap (λ (k : KeeperData). k.world.map.sizes) c.self.view_is in
    subst (λ v. AreSectors v (map cells_of ss)) (sym sizes)
    (whole_now first many k c.soundness.ensures ss c.requires.each c.are_sectors.ensures held.bases)

pub new-requires-clause-same : goal.new-requires-clause-same
new-requires-clause-same g c is =
    let first = g.A.Naming.first in
    let many = g.A.Places.all in
    let k = c.args.self.now in
    let ss = c.args.sectors.now in
    let v = c.args.version in
    let held = held_of first many k c.soundness.ensures ss c.requires.each c.requires.known in
    let edits = c.soundness.ensures.edits in
    let known = ap (λ (w : Version). w.edits) (c.version.ensures ∙ ap (λ (k : KeeperData). k.world.version) c.self.view_is) in
    let by_all = c.requires.version ∙ λ i. version_by first k.seen (ap (λ (w : Version). w.edits) (sym c.requires.version) i) (ap (λ (w : Version). w.tick) (sym c.requires.version) i) in
    let same = same_but_number first k.seen k.world.version.edits (length k.chronicle.ticks + 1) k.world.version v edits.last by_all (eqb-true v.edits c.version.result.now.edits is ∙ known) in
    All-from_recursion (λ (s : SectorData). record s.version { tick = v.tick } ≡ v) ss
    (all_judged k.world.version v ss held.judged same)

pub returns-clause-ready : goal.returns-clause-ready
returns-clause-ready g c =
    let first = g.A.Naming.first in
    let many = g.A.Places.all in
    let k = c.args.self.now in
    let ss = c.args.sectors.now in
    let held = held_of first many k c.soundness.ensures ss c.requires.each c.requires.known in
    let sizes = c.bounds.ensures ∙ ap (λ (k : KeeperData). k.world.map.sizes) c.self.view_is in
    let whole = whole_now first many k c.soundness.ensures ss c.requires.each c.are_sectors.ensures held.bases in
    let left : keeper_data c.reserve.new.self c.self.inside.known c.self.inside.view ≡ record k { is_roomy = c.reserve.new.self.is_roomy } =
    λ i. record {
      chronicle = (c.reserve.ensures.chronicle ∙ ap (λ (k : KeeperData). k.chronicle) c.self.view_is) i;
      counts = (c.reserve.ensures.counts ∙ ap (λ (k : KeeperData). k.counts) c.self.view_is) i;
      world = ap (λ (k : KeeperData). k.world) c.self.view_is i;
      seen = ap (λ (k : KeeperData). k.seen) c.self.view_is i;
      is_roomy = c.reserve.new.self.is_roomy;
    } in
    IfOk-weaker c.new.result _ _
    (λ ready is.
    let cells = with_changes (map cells_of ss) ready.changes.items in
    let after = subst (λ v. map_by v cells ≡ with_cells_on (map_by v (map cells_of ss)) c.args.work.plan.puts.items) sizes is.after in
    subst (λ k. CanClose first k ss ready) (sym left) (record {
      after = after ∙ sym c.requires.worked.puts;
      placed = after_placed c.args.version k.world.map.sizes ss cells c.args.work.plan.puts.items whole after;
      fates = is.fates ∙ c.requires.worked.fates;
      told = is.told ∙ c.requires.worked.fates;
      watch = subst (IsWatch (map_next k ss)) (sym is.watch) c.requires.worked.watch;
      version = is.version ∙ c.requires.version;
      begun = is.begun;
    }))
    c.new.ensures
