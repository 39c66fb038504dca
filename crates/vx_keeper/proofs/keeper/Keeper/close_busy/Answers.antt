use Rattle.std.proofs.Common.{◌≡◌, ℕ, ◌+◌, ◌<◌, ◌≤◌, List, [], ◌∷◌, ◌++◌, length, map, replicate, refl, sym, ap, subst, ◌∙◌, arith}
use Rattle.std.specs.List.{All}
use Rattle.std.proofs.lemmas.List.{length-map}
use Rattle.std.proofs.lemmas.List.Elements.{All-from_recursion, All-map, All-same}
use Rattle.vx_geom.specs.Sizes.{sector_count}
use Rattle.vx_cells.specs.Maps.{AreSectors, MapData}
use Rattle.vx_cells.specs.Wholes.{IsMap}
use Rattle.vx_region.specs.Regions.{Regions}
use Rattle.vx_geom.specs.declared.pos.Pos.{Pos}
use Rattle.vx_policy.specs.declared.version.Version.{Version}
use Rattle.vx_tick.specs.declared.fate.Fate.{Fate}
use Rattle.vx_sector.specs.SectorData.{EntryData, SectorData}
use Rattle.vx_sector.specs.Windows.{IsSector, count_of, most_entries}
use Rattle.vx_still.specs.Watching.{IsWatch}
use Rattle.vx_windows.specs.Sectors.{entries_of, with_changes}
use Rattle.vx_record.specs.Chronicles.{TickData, ChronicleData}
use Rattle.vx_record.specs.Kept.{AreInOrder, windows_kept}
use Rattle.vx_record.specs.declared.kept_window.KeptWindow.{KeptWindow}
use Rattle.vx_record.specs.Records.{tick_in}
use Rattle.vx_record.specs.Archives.{IsArchive, IsNextTick, next_counts}
use Rattle.vx_record.proofs.Counting.{archive_grown, counts_fit, counts_go_on}
use Rattle.vx_keeper.specs.Busy.{AreBusyOf, AreKeptOf, resting_but, with_each}
use Rattle.vx_keeper.specs.Keepers.{IsKeeper, KeeperData, chronicle_next, fates_next, keeper_data, map_by, map_next, version_next}
use Rattle.vx_keeper.specs.Marks.{AreGiven, AreLed, AreMarks, IsPartOf, IsSamePolicy}
use Rattle.vx_keeper.specs.Readiness.{CanLead}
use Rattle.vx_keeper.specs.declared.ready_at_rest.ReadyAtRest.{ReadyAtRest}
use Rattle.vx_keeper.proofs.Among.{all_of, but_each, but_held, but_sectors, but_windows, counts_again, parts_next}
use Rattle.vx_keeper.proofs.Closing.{is_next, keeps, tick}
use Rattle.vx_keeper.proofs.Giving.{next_marked}
use Rattle.vx_keeper.proofs.Knowing.{AreAsKnown}
use Rattle.vx_keeper.proofs.keeper.Keeper.close_busy.Given.{Over}
use Rattle.vx_keeper.proofs.keeper.Keeper.close_busy.Goals as goal

pub go_on-was-requires-clause-each : goal.go_on-was-requires-clause-each
go_on-was-requires-clause-each g c =
    omega (arith, c.requires.ready.lead.few, ap (λ (k : KeeperData). length k.world.map.sectors) c.self.view_is)

pub go_on-was-requires-clause-placed : goal.go_on-was-requires-clause-placed
go_on-was-requires-clause-placed g c =
    subst (λ (k : KeeperData). AreSectors k.world.map.sizes (with_changes k.world.map.sectors c.args.ready.lead.changes.items))
    (sym c.self.view_is) c.requires.ready.lead.placed

-- the map that the tick leaves lies as the world does
next_sizes : (first : Regions) (k : KeeperData) (ss : List SectorData) (ready : ReadyAtRest) → CanLead first k ss ready
    → (map_next k ss).sizes ≡ k.world.map.sizes
next_sizes first k ss ready can = ap (λ (m : MapData). m.sizes) (sym can.after)

next_whole : (first : Regions) (k : KeeperData) (ss : List SectorData) (ready : ReadyAtRest) → CanLead first k ss ready
    → IsMap (map_next k ss)
next_whole first k ss ready can = subst IsMap can.after can.placed

pub renew_busy-kept-requires-clause-fresh : goal.renew_busy-kept-requires-clause-fresh
renew_busy-kept-requires-clause-fresh g c =
    let first = g.A.Naming.first in
    let many = g.A.Places.all in
    let k = c.args.self.now in
    let busy = c.args.busy.now in
    let ss = resting_but k busy in
    let can = c.requires.ready.lead in
    all_of first many k c.soundness.ensures (map_next k ss) (version_next first k) (next_whole first k ss c.args.ready.lead can).each
    (next_sizes first k ss c.args.ready.lead can) busy c.args.ready.fresh.items c.are_sectors.ensures c.requires.known.0 c.requires.ready.renew.fresh

-- the records that are closed
module _ (first : Regions) (many : ℕ) (k : KeeperData) (keeper : IsKeeper first many k) (busy : List SectorData)
    (are : AreBusyOf k busy) (kept : List KeptWindow) (is : AreKeptOf busy kept) (n : ℕ) (each : n ≡ length k.counts) where
  below : All (λ (s : SectorData). s.base.sector < n) busy
  below i d within = omega (arith, (are.0 i d within).0, each)

  in_order : AreInOrder n kept
  in_order = (is n below).0

  windows_are : windows_kept n kept ≡ map entries_of (resting_but k busy)
  windows_are =
      (is n below).1
      ∙ ap (λ m. with_each entries_of (replicate {A = List EntryData} m []) busy) each
      ∙ sym (but_windows first many k keeper busy)

pub of_kept-requires : goal.of_kept-requires
of_kept-requires g c =
    let k = c.args.self.now in
    in_order g.A.Naming.first g.A.Places.all k c.soundness.ensures c.args.busy.now c.requires.known c.renew_busy-kept.result.items
    c.renew_busy-kept.ensures.kept _ (ap length c.counts-sectors.ensures ∙ ap (λ (k : KeeperData). length k.counts) c.self.view_is)

-- the tick as it is told
told_is : (first : Regions) (many : ℕ) (k : KeeperData) (keeper : IsKeeper first many k) (ss : List SectorData)
    (sectors : All IsSector ss) (held : AreAsKnown k.world.version k.chronicle.opening.names k.world.map.sectors k.counts ss)
    (n : ℕ) (v : Version) (ws : List (List EntryData)) (fs : List (Pos × Fate)) → n ≡ length k.chronicle.ticks
    → v ≡ k.world.version → ws ≡ map entries_of ss → fs ≡ fates_next k ss
    → record { number = n + 1; version = v; windows = ws; fates = fs } ≡ tick first many k keeper ss sectors held
told_is first many k keeper ss sectors held n v ws fs number version closed fates =
    λ i. record { number = number i + 1; version = version i; windows = closed i; fates = fates i }

-- as the windows are closed
module _ (g : Over) (c : goal.After-of_kept g) where
  now_sectors : All IsSector (resting_but c.args.self.now c.args.busy.now)
  now_sectors =
      but_sectors g.A.Naming.first g.A.Places.all c.args.self.now c.soundness.ensures c.args.busy.now c.requires.known c.are_sectors.ensures

  now_held : AreAsKnown c.args.self.now.world.version c.args.self.now.chronicle.opening.names c.args.self.now.world.map.sectors
      c.args.self.now.counts (resting_but c.args.self.now c.args.busy.now)
  now_held = but_held g.A.Naming.first g.A.Places.all c.args.self.now c.soundness.ensures c.args.busy.now c.requires.known

  now_closed : c.of_kept.result ≡ map entries_of (resting_but c.args.self.now c.args.busy.now)
  now_closed =
      c.of_kept.ensures
      ∙ windows_are g.A.Naming.first g.A.Places.all c.args.self.now c.soundness.ensures c.args.busy.now c.requires.known
      c.renew_busy-kept.result.items c.renew_busy-kept.ensures.kept _
      (ap length c.counts-sectors.ensures ∙ ap (λ (k : KeeperData). length k.counts) c.self.view_is)

pub add-requires-clause-next : goal.add-requires-clause-next
add-requires-clause-next g c =
    let first = g.A.Naming.first in
    let many = g.A.Places.all in
    let k = c.args.self.now in
    let ss = resting_but k c.args.busy.now in
    let keeper = c.soundness.ensures in
    let sectors = now_sectors g c in
    let held = now_held g c in
    let number : length c.ticks.result.now ≡ length k.chronicle.ticks =
    omega (arith, length-map c.ticks.result.now tick_in, ap length c.ticks.ensures, ap (λ (k : KeeperData). length k.chronicle.ticks) c.self.view_is) in
    let version = c.go_on-was.ensures.was ∙ ap (λ (k : KeeperData). k.world.version) c.self.view_is in
    let told : TickData = record {
      number = length c.ticks.result.now + 1;
      version = c.go_on-was.result;
      windows = c.of_kept.result;
      fates = c.args.ready.lead.fates.items;
    } in
    let is : told ≡ tick first many k keeper ss sectors held =
    told_is first many k keeper ss sectors held _ _ _ _ number version (now_closed g c) c.requires.ready.lead.fates in
    subst (λ (d : ChronicleData). IsNextTick d told) (sym (ap (λ (k : KeeperData). k.chronicle) c.self.view_is))
    (subst (IsNextTick k.chronicle) (sym is) (is_next first many k keeper ss sectors held))

pub add-requires-clause-each : goal.add-requires-clause-each
add-requires-clause-each g c =
    let k = c.args.self.now in
    omega (
      arith,
      ap length (now_closed g c),
      length-map (resting_but k c.args.busy.now) entries_of,
      but_each g.A.Naming.first g.A.Places.all k c.soundness.ensures c.args.busy.now c.requires.known,
      c.soundness.ensures.all,
      ap (λ (k : KeeperData). length k.counts) c.self.view_is,
    )

pub add-requires-clause-most : goal.add-requires-clause-most
add-requires-clause-most g c =
    let counts = ap (λ (k : KeeperData). k.counts) c.self.view_is ∙ (now_held g c).closed in
    All-same (λ n. n ≤ most_entries) _ _ (λ i. next_counts (counts i) (now_closed g c i))
    (counts_fit (resting_but c.args.self.now c.args.busy.now) (λ j d within. (now_sectors g c j d within).most))

-- what the keeper has after the tick
module _ (g : Over) (c : goal.Joined-mark g) where
  abbrev first : Regions
  first = g.A.Naming.first

  abbrev many : ℕ
  many = g.A.Places.all

  abbrev k : KeeperData
  k = c.args.self.now

  abbrev ss : List SectorData
  ss = resting_but k c.args.busy.now

  each : length ss ≡ many
  each = but_each first many k c.soundness.ensures c.args.busy.now c.requires.known

  sectors : All IsSector ss
  sectors = but_sectors first many k c.soundness.ensures c.args.busy.now c.requires.known c.are_sectors.ensures

  held : AreAsKnown k.world.version k.chronicle.opening.names k.world.map.sectors k.counts ss
  held = but_held first many k c.soundness.ensures c.args.busy.now c.requires.known

  closed : c.of_kept.result ≡ map entries_of ss
  closed =
      c.of_kept.ensures
      ∙ windows_are first many k c.soundness.ensures c.args.busy.now c.requires.known c.renew_busy-kept.result.items
      c.renew_busy-kept.ensures.kept _ (ap length c.counts-sectors.ensures ∙ ap (λ (k : KeeperData). length k.counts) c.self.view_is)

  counts_are : c.add.new.self.counts ≡ map count_of ss
  counts_are =
      let counts = ap (λ (k : KeeperData). k.counts) c.self.view_is ∙ held.closed in
      c.add.ensures.counts ∙ (λ i. next_counts (counts i) (closed i)) ∙ counts_go_on ss

  chronicle_is : c.add.new.self.chronicle ≡ chronicle_next k ss
  chronicle_is =
      let number : length c.ticks.result.now ≡ length k.chronicle.ticks =
      omega (arith, length-map c.ticks.result.now tick_in, ap length c.ticks.ensures, ap (λ (k : KeeperData). length k.chronicle.ticks) c.self.view_is) in
      let version = c.go_on-was.ensures.was ∙ ap (λ (k : KeeperData). k.world.version) c.self.view_is in
      let is = told_is first many k c.soundness.ensures ss sectors held _ _ _ _ number version closed c.requires.ready.lead.fates in
      let before = ap (λ (k : KeeperData). k.chronicle) c.self.view_is in
      c.add.ensures.chronicle
      ∙ (λ i. record { opening = (before i).opening; ticks = (before i).ticks ++ is i ∷ [] })

  map_is : c.go_on-was.new.self.map ≡ map_next k ss
  map_is =
      c.go_on-was.ensures.map
      ∙ ap (λ (k : KeeperData). map_by k.world.map.sizes (with_changes k.world.map.sectors c.args.ready.lead.changes.items)) c.self.view_is
      ∙ c.requires.ready.lead.after

  world_is : c.go_on-was.new.self ≡ record { map = map_next k ss; version = version_next first k }
  world_is = λ i. record { map = map_is i; version = (c.go_on-was.ensures.version ∙ c.requires.ready.lead.version) i }

  whole : IsMap (map_next k ss)
  whole = next_whole first k ss c.args.ready.lead c.requires.ready.lead

  as_many_next : length (map_next k ss).sectors ≡ many
  as_many_next =
      omega (arith, whole.all, ap sector_count (next_sizes first k ss c.args.ready.lead c.requires.ready.lead), c.soundness.ensures.whole.all, c.soundness.ensures.each)

  keeper_is : IsKeeper first many (keeper_data c.add.new.self c.go_on-was.new.self c.self.inside.view)
  keeper_is =
      let seen = ap (λ (k : KeeperData). k.seen) c.self.view_is in
      let counted : next_counts k.counts (map entries_of ss) ≡ map count_of ss =
      ap (λ ns. next_counts ns (map entries_of ss)) held.closed ∙ counts_go_on ss in
      let archive = subst (IsArchive (chronicle_next k ss)) counted
      (archive_grown k.chronicle k.counts (tick first many k c.soundness.ensures ss sectors held) c.soundness.ensures.archive
      (is_next first many k c.soundness.ensures ss sectors held) (length-map ss entries_of ∙ each ∙ sym c.soundness.ensures.all)) in
      subst (IsKeeper first many)
      (λ i. record {
        chronicle = sym chronicle_is i;
        counts = sym counts_are i;
        world = sym world_is i;
        seen = sym seen i;
        is_roomy = c.add.new.self.is_roomy;
      })
      (keeps first many k c.soundness.ensures ss sectors held (map count_of ss) (version_next first k) c.add.new.self.is_roomy archive
      (length-map ss count_of ∙ each) refl c.requires.more whole as_many_next
      (All-map (λ n. n ≤ most_entries) count_of ss (λ j d within. (sectors j d within).most)))

  led_are : AreLed (length k.world.map.sectors) k.world c.go_on-was.new.self c.args.ready.lead.next.items
  led_are =
      subst (λ w. AreLed (length k.world.map.sectors) k.world w c.args.ready.lead.next.items) (sym world_is) c.requires.ready.lead.led

  marks_are : AreMarks c.give_next.new.self c.go_on-was.new.self
  marks_are =
      let marks = subst (AreMarks c.self.inside.marks) (ap (λ (k : KeeperData). k.world) c.self.view_is) c.self.invariant.1 in
      let long : length c.go_on-was.new.self.map.sectors ≡ length k.world.map.sectors =
      omega (arith, ap (λ (m : MapData). length m.sectors) map_is, as_many_next, c.soundness.ensures.each) in
      let version = c.go_on-was.ensures.version ∙ c.requires.ready.lead.version in
      next_marked c.args.ready.lead.is_same_policy c.self.inside.marks c.give_next.new.self c.args.ready.lead.next.items
      c.mark-mark.result k.world c.go_on-was.new.self marks long led_are
      (λ stays. subst (IsSamePolicy k.world.version) (sym version) (c.requires.ready.lead.same stays)) c.mark-mark.ensures
      (λ stays. subst (λ next. AreGiven c.self.inside.marks next c.mark-mark.result c.give_next.new.self) c.deref.ensures.value
      (c.give_next.ensures.led stays)) c.give_next.ensures.all

pub invariant_of-self : goal.invariant_of-self
invariant_of-self g c = (
  keeper_is g c,
  marks_are g c,
  subst (λ m. IsWatch m c.args.ready.lead.watch) (sym (map_is g c)) c.requires.ready.lead.watch,
)

pub returns-clause-chronicle : goal.returns-clause-chronicle
returns-clause-chronicle g c = chronicle_is g c

pub returns-clause-counts : goal.returns-clause-counts
returns-clause-counts g c = counts_are g c

pub returns-clause-world : goal.returns-clause-world
returns-clause-world g c = world_is g c

pub returns-clause-fates : goal.returns-clause-fates
returns-clause-fates g c = c.requires.ready.lead.told

pub returns-clause-begun : goal.returns-clause-begun
returns-clause-begun g c = (led_are g c).0

pub returns-clause-parts : goal.returns-clause-parts
returns-clause-parts g c =
    let m = map_next (k g c) (ss g c) in
    let v = version_next (first g c) (k g c) in
    let parts = parts_next m v c.args.busy.now c.args.ready.fresh.items
    (whole g c).each c.requires.ready.renew.fresh in
    subst (λ w. All (IsPartOf w) c.renew_busy-kept.new.busy) (sym (world_is g c))
    (subst (All (IsPartOf (record { map = m; version = v }))) (sym c.renew_busy-kept.ensures.renewed)
    (All-from_recursion (IsPartOf (record { map = m; version = v })) _ parts))

pub returns-clause-kept : goal.returns-clause-kept
returns-clause-kept g c =
    ap (map count_of) c.renew_busy-kept.ensures.renewed ∙ counts_again c.args.busy.now c.args.ready.fresh.items
