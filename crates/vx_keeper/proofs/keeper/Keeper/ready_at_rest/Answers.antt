use Rattle.std.proofs.Common.{◌≡◌, ◌+◌, length, sym, ap, subst, ◌∙◌}
use Rattle.vx_cells.specs.Wholes.{IsMap}
use Rattle.vx_cells.proofs.Setting.{puts_whole}
use Rattle.vx_record.specs.Chronicles.{ChronicleData, version_by}
use Rattle.vx_still.specs.Watching.{IsWatch}
use Rattle.vx_tick.specs.Leaving.{IsPlanned}
use Rattle.vx_tick.specs.Ticks.{fates_on, stepped}
use Rattle.vx_keeper.specs.Keepers.{KeeperData, map_next, resting, version_next}
use Rattle.vx_keeper.specs.Marks.{AreLed, IsSamePolicy}
use Rattle.vx_keeper.specs.Readiness.{IsReadyAtRest}
use Rattle.vx_keeper.proofs.Resting.{rest_map}
use Rattle.vx_keeper.proofs.keeper.Keeper.ready_at_rest.Goals as goal

pub returns-clause-ready : goal.returns-clause-ready
returns-clause-ready g c =
    let first = g.A.Naming.first in
    let k = c.planned.new.self in
    let ready = c.in_ok-new.field-0 in
    let plan = c.in_ok-plan.plan in
    let rs = k.world.version.policy in
    let keeper = c.soundness.ensures in
    let is = subst (λ w. IsReadyAtRest w w.map (record { plan = plan; watch = c.in_ok-plan.watch }) c.in_ok-version.version ready)
    (ap (λ (k : KeeperData). k.world) c.self-2.view_is) c.in_ok-new.ensures in
    let planned = subst (λ (k : KeeperData). IsPlanned k.world.version.policy k.world.map (plan, c.in_ok-plan.watch))
    (sym c.in_ok-plan.ensures.same) c.in_ok-plan.ensures.planned in
    let seen : c.fix.new.self.seen ≡ k.seen =
    sym (ap (λ (k : KeeperData). k.seen) c.in_ok-plan.ensures.same ∙ ap (λ (k : KeeperData). k.seen) c.self.view_is) in
    let ticks : c.fix.new.self.chronicle.ticks ≡ k.chronicle.ticks =
    sym (ap (λ (k : KeeperData). k.chronicle.ticks) c.in_ok-plan.ensures.same ∙ ap (λ (d : ChronicleData). d.ticks) c.in_ok-reserve.ensures.chronicle
    ∙ ap (λ (k : KeeperData). k.chronicle.ticks) c.self.view_is) in
    let map = rest_map first g.A.Places.all k keeper in
    let next = ap (stepped rs) map ∙ planned.puts in
    let version : c.in_ok-version.version ≡ version_next first k =
    c.in_ok-version.ensures.version
    ∙ (λ i. version_by first (seen i) (length (seen i)) (length (ticks i) + 2)) in
    record {
      few = is.few;
      after = is.after ∙ sym next;
      placed = subst IsMap (sym is.after) (puts_whole k.world.map plan.puts.items keeper.whole).0;
      fates = is.fates ∙ planned.fates ∙ sym (ap (fates_on rs) map);
      told = is.told ∙ planned.fates ∙ sym (ap (fates_on rs) map);
      watch =
          subst (IsWatch (map_next k (resting k))) (sym is.watch)
          (subst (λ m. IsWatch m c.in_ok-plan.watch) (sym (ap (stepped rs) map)) planned.watch);
      version = is.version ∙ version;
      led =
          subst (λ w. AreLed (length k.world.map.sectors) k.world w ready.next.items)
          (λ i. record { map = sym next i; version = version i }) is.led;
      same = λ stays. subst (IsSamePolicy k.world.version) version (is.same stays);
    }
