use Rattle.std.proofs.Common.{◌≡◌, ◌+◌, length, sym, ap, subst, ◌∙◌, arith}
use Rattle.vx_cells.specs.Maps.{AreSectors, MapData}
use Rattle.vx_cells.specs.Wholes.{IsMap, with_cells_on}
use Rattle.vx_cells.proofs.Setting.{puts_whole}
use Rattle.vx_record.specs.Chronicles.{ChronicleData, version_by}
use Rattle.vx_still.specs.Watching.{IsWatch}
use Rattle.vx_tick.specs.Leaving.{IsPlanned}
use Rattle.vx_windows.specs.Sectors.{cells_of, with_changes}
use Rattle.vx_keeper.specs.Busy.{AreNextOf, resting_but, with_each}
use Rattle.vx_keeper.specs.Keepers.{KeeperData, keeper_data, map_by, map_next, map_now, version_next}
use Rattle.vx_keeper.specs.Marks.{AreLed, IsSamePolicy, WorldData}
use Rattle.vx_keeper.specs.Readiness.{IsReadyForBusy}
use Rattle.vx_keeper.proofs.Among.{but_each, but_held, but_map, but_sectors, but_there, still_busy}
use Rattle.vx_keeper.proofs.Knowing.{whole_now}
use Rattle.vx_keeper.proofs.keeper.Keeper.ready_for_busy.Goals as goal

pub returns-clause-ready : goal.returns-clause-ready
returns-clause-ready g c =
    let first = g.A.Naming.first in
    let many = g.A.Places.all in
    let k = c.planned_but.new.self in
    let busy = c.args.busy.now in
    let ready = c.in_ok-new.field-0 in
    let plan = c.in_ok-plan.plan in
    let rs = k.world.version.policy in
    let keeper = c.soundness.ensures in
    let ss = resting_but k busy in
    let before = c.self.view_is ∙ c.fix.ensures.kept in
    let are = still_busy c.args.self.now c.planned_but.new.self c.args.busy.now
    (ap (λ (k : KeeperData). k.chronicle) c.planned_but.ensures.same ∙ c.reserve.ensures.chronicle ∙ ap (λ (k : KeeperData). k.chronicle) before)
    (ap (λ (k : KeeperData). k.counts) c.planned_but.ensures.same ∙ c.reserve.ensures.counts ∙ ap (λ (k : KeeperData). k.counts) before)
    (ap (λ (k : KeeperData). k.world) c.planned_but.ensures.same ∙ ap (λ (k : KeeperData). k.world) before) c.requires.known in
    let is = subst (λ w. IsReadyForBusy w busy (record { plan = plan; watch = c.in_ok-plan.watch }) c.in_ok-version.version ready)
    (ap (λ (k : KeeperData). k.world) c.self-2.view_is) c.in_ok-new.ensures in
    let planned = subst (λ (k : KeeperData). IsPlanned k.world.version.policy (map_now k (resting_but k busy)) (plan, c.in_ok-plan.watch))
    (sym c.in_ok-plan.ensures.same) c.in_ok-plan.ensures.planned in
    let seen : c.fix.new.self.seen ≡ k.seen =
    sym (ap (λ (k : KeeperData). k.seen) c.in_ok-plan.ensures.same ∙ ap (λ (k : KeeperData). k.seen) c.self.view_is) in
    let ticks : c.fix.new.self.chronicle.ticks ≡ k.chronicle.ticks =
    sym (ap (λ (k : KeeperData). k.chronicle.ticks) c.in_ok-plan.ensures.same ∙ ap (λ (d : ChronicleData). d.ticks) c.in_ok-reserve.ensures.chronicle
    ∙ ap (λ (k : KeeperData). k.chronicle.ticks) c.self.view_is) in
    let version : c.in_ok-version.version ≡ version_next first k =
    c.in_ok-version.ensures.version
    ∙ (λ i. version_by first (seen i) (length (seen i)) (length (ticks i) + 2)) in
    let now : map_now k ss ≡ map_by k.world.map.sizes (with_each cells_of k.world.map.sectors busy) = but_map first many k keeper busy in
    let next : with_cells_on (map_by k.world.map.sizes (with_each cells_of k.world.map.sectors busy)) plan.puts.items ≡ map_next k ss =
    ap (λ m. with_cells_on m plan.puts.items) (sym now) ∙ sym planned.puts in
    let held = but_held first many k keeper busy are in
    let whole = whole_now first many k keeper ss (but_each first many k keeper busy are)
    (but_sectors first many k keeper busy are c.are_sectors.ensures) held.bases in
    let after : map_by k.world.map.sizes (with_changes k.world.map.sectors ready.lead.changes.items) ≡ map_next k ss = is.lead.after ∙ next in
    record {
      lead = record {
        few = is.lead.few;
        after = after;
        placed = subst IsMap (sym is.lead.after) (puts_whole _ plan.puts.items (subst IsMap now whole)).0;
        fates = is.lead.fates ∙ planned.fates;
        told = is.lead.told ∙ planned.fates;
        watch = subst (IsWatch (map_next k ss)) (sym is.lead.watch) planned.watch;
        version = is.lead.version ∙ version;
        led =
            subst (λ w. AreLed (length k.world.map.sectors) k.world w ready.lead.next.items)
            (λ i. record { map = next i; version = version i }) is.lead.led;
        same = λ stays. subst (IsSamePolicy k.world.version) version (is.lead.same stays);
      };
      renew = record {
        fresh =
            subst (λ v. AreNextOf (map_next k ss).sectors v busy ready.fresh.items) version
            (subst (λ (m : MapData). AreNextOf m.sectors c.in_ok-version.version busy ready.fresh.items) after is.renew.fresh);
        none_kept = is.renew.none_kept;
        room_kept = is.renew.room_kept;
      };
    }

pub planned_but-requires-clause-known : goal.planned_but-requires-clause-known
planned_but-requires-clause-known g c κs within =
    let fixed = c.fix.ensures.kept in
    still_busy c.args.self.now (keeper_data c.reserve.new.self c.self.inside.known c.self.inside.view) c.args.busy.now
    (c.reserve.ensures.chronicle ∙ ap (λ (k : KeeperData). k.chronicle) (c.self.view_is ∙ fixed))
    (c.reserve.ensures.counts ∙ ap (λ (k : KeeperData). k.counts) (c.self.view_is ∙ fixed))
    (ap (λ (k : KeeperData). k.world) (c.self.view_is ∙ fixed)) c.requires.known

pub new-requires-clause-there : goal.new-requires-clause-there
new-requires-clause-there g c n s within =
    let k = c.planned_but.new.self in
    let before = c.self.view_is ∙ c.fix.ensures.kept in
    let are = still_busy c.args.self.now c.planned_but.new.self c.args.busy.now
    (ap (λ (k : KeeperData). k.chronicle) c.planned_but.ensures.same ∙ c.reserve.ensures.chronicle ∙ ap (λ (k : KeeperData). k.chronicle) before)
    (ap (λ (k : KeeperData). k.counts) c.planned_but.ensures.same ∙ c.reserve.ensures.counts ∙ ap (λ (k : KeeperData). k.counts) before)
    (ap (λ (k : KeeperData). k.world) c.planned_but.ensures.same ∙ ap (λ (k : KeeperData). k.world) before) c.requires.known in
    let each = ap (λ (k : KeeperData). length k.world.map.sectors) c.self-2.view_is in
    omega (arith, but_there g.A.Naming.first g.A.Places.all k c.soundness.ensures c.args.busy.now are n s within, each)

pub new-requires-clause-placed : goal.new-requires-clause-placed
new-requires-clause-placed g c =
    let first = g.A.Naming.first in
    let many = g.A.Places.all in
    let k = c.planned_but.new.self in
    let busy = c.args.busy.now in
    let keeper = c.soundness.ensures in
    let before = c.self.view_is ∙ c.fix.ensures.kept in
    let are = still_busy c.args.self.now c.planned_but.new.self c.args.busy.now
    (ap (λ (k : KeeperData). k.chronicle) c.planned_but.ensures.same ∙ c.reserve.ensures.chronicle ∙ ap (λ (k : KeeperData). k.chronicle) before)
    (ap (λ (k : KeeperData). k.counts) c.planned_but.ensures.same ∙ c.reserve.ensures.counts ∙ ap (λ (k : KeeperData). k.counts) before)
    (ap (λ (k : KeeperData). k.world) c.planned_but.ensures.same ∙ ap (λ (k : KeeperData). k.world) before) c.requires.known in
    let whole = whole_now first many k keeper (resting_but k busy) (but_each first many k keeper busy are)
    (but_sectors first many k keeper busy are c.are_sectors.ensures) (but_held first many k keeper busy are).bases in
    subst (λ (w : WorldData). AreSectors w.map.sizes (with_each cells_of w.map.sectors busy))
    (sym (ap (λ (k : KeeperData). k.world) c.self-2.view_is)) (subst IsMap (but_map first many k keeper busy) whole)
