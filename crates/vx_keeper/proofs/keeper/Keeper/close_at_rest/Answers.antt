use Rattle.std.proofs.Common.{◌≡◌, ◌+◌, ◌≤◌, List, [], ◌∷◌, ◌++◌, length, replicate, sym, ap, subst, ◌∙◌, arith}
use Rattle.std.proofs.lemmas.List.{length-map}
use Rattle.std.proofs.lemmas.List.Elements.{All-same}
use Rattle.vx_geom.specs.Sizes.{sector_count}
use Rattle.vx_cells.specs.Maps.{AreSectors, MapData}
use Rattle.vx_cells.specs.Wholes.{IsMap}
use Rattle.vx_sector.specs.SectorData.{EntryData}
use Rattle.vx_sector.specs.Windows.{most_entries}
use Rattle.vx_still.specs.Watching.{IsWatch}
use Rattle.vx_windows.specs.Sectors.{with_changes}
use Rattle.vx_record.specs.Chronicles.{TickData, ChronicleData}
use Rattle.vx_record.specs.Records.{tick_in}
use Rattle.vx_record.specs.Archives.{IsNextTick}
use Rattle.vx_keeper.specs.Keepers.{KeeperData, IsKeeper, chronicle_next, keeper_data, map_by, map_next, resting, version_next}
use Rattle.vx_keeper.specs.Marks.{AreGiven, AreLed, AreMarks, IsSamePolicy}
use Rattle.vx_keeper.proofs.Giving.{next_marked}
use Rattle.vx_keeper.proofs.Resting.{rest_counted, rest_is_next, rest_keeps, rest_told}
use Rattle.vx_keeper.proofs.keeper.Keeper.close_at_rest.Given.{Over}
use Rattle.vx_keeper.proofs.keeper.Keeper.close_at_rest.Goals as goal

pub go_on-was-requires-clause-each : goal.go_on-was-requires-clause-each
go_on-was-requires-clause-each g c =
    omega (arith, c.requires.ready.few, ap (λ (k : KeeperData). length k.world.map.sectors) c.self.view_is)

pub go_on-was-requires-clause-placed : goal.go_on-was-requires-clause-placed
go_on-was-requires-clause-placed g c =
    subst (λ (k : KeeperData). AreSectors k.world.map.sizes (with_changes k.world.map.sectors c.args.ready.changes.items))
    (sym c.self.view_is) c.requires.ready.placed

pub add-requires-clause-next : goal.add-requires-clause-next
add-requires-clause-next g c =
    let first = g.A.Naming.first in
    let many = g.A.Places.all in
    let k = c.args.self.now in
    let number : length c.ticks.result.now + 1 ≡ length k.chronicle.ticks + 1 =
    omega (arith, length-map c.ticks.result.now tick_in, ap length c.ticks.ensures, ap (λ (k : KeeperData). length k.chronicle.ticks) c.self.view_is) in
    let version = c.go_on-was.ensures.was ∙ ap (λ (k : KeeperData). k.world.version) c.self.view_is in
    let empty = c.none.ensures ∙ ap (λ n. replicate {A = List EntryData} n []) (ap length c.counts-sectors.ensures ∙ ap (λ (k : KeeperData). length k.counts) c.self.view_is) in
    let told : TickData = record {
      number = length c.ticks.result.now + 1;
      version = c.go_on-was.result;
      windows = c.none.result;
      fates = c.args.ready.fates.items;
    } in
    let is = rest_told first many k c.soundness.ensures _ _ _ _ number version empty c.requires.ready.fates in
    subst (λ (d : ChronicleData). IsNextTick d told) (sym (ap (λ (k : KeeperData). k.chronicle) c.self.view_is))
    (subst (IsNextTick k.chronicle) (sym is) (rest_is_next first many k c.soundness.ensures))

pub add-requires-clause-most : goal.add-requires-clause-most
add-requires-clause-most g c =
    let k = c.args.self.now in
    let empty = c.none.ensures ∙ ap (λ n. replicate {A = List EntryData} n []) (ap length c.counts-sectors.ensures ∙ ap (λ (k : KeeperData). length k.counts) c.self.view_is) in
    All-same (λ n. n ≤ most_entries) _ _
    (rest_counted g.A.Naming.first g.A.Places.all k c.soundness.ensures _ _ (ap (λ (k : KeeperData). k.counts) c.self.view_is) empty)
    c.soundness.ensures.few

-- what the keeper has after the tick
module _ (g : Over) (c : goal.Joined-mark g) where
  abbrev k : KeeperData
  k = c.args.self.now

  empty : c.none.result ≡ replicate (length k.counts) []
  empty = c.none.ensures ∙ ap (λ n. replicate {A = List EntryData} n []) (ap length c.counts-sectors.ensures ∙ ap (λ (k : KeeperData). length k.counts) c.self.view_is)

  counts_are : c.add.new.self.counts ≡ k.counts
  counts_are =
      c.add.ensures.counts
      ∙ rest_counted g.A.Naming.first g.A.Places.all k c.soundness.ensures _ _ (ap (λ (k : KeeperData). k.counts) c.self.view_is) empty

  chronicle_is : c.add.new.self.chronicle ≡ chronicle_next k (resting k)
  chronicle_is =
      let number : length c.ticks.result.now + 1 ≡ length k.chronicle.ticks + 1 =
      omega (arith, length-map c.ticks.result.now tick_in, ap length c.ticks.ensures, ap (λ (k : KeeperData). length k.chronicle.ticks) c.self.view_is) in
      let version = c.go_on-was.ensures.was ∙ ap (λ (k : KeeperData). k.world.version) c.self.view_is in
      let is = rest_told g.A.Naming.first g.A.Places.all k c.soundness.ensures _ _ _ _ number version empty c.requires.ready.fates in
      let before = ap (λ (k : KeeperData). k.chronicle) c.self.view_is in
      c.add.ensures.chronicle
      ∙ (λ i. record { opening = (before i).opening; ticks = (before i).ticks ++ is i ∷ [] })

  map_is : c.go_on-was.new.self.map ≡ map_next k (resting k)
  map_is =
      c.go_on-was.ensures.map
      ∙ ap (λ (k : KeeperData). map_by k.world.map.sizes (with_changes k.world.map.sectors c.args.ready.changes.items)) c.self.view_is
      ∙ c.requires.ready.after

  world_is : c.go_on-was.new.self ≡ record { map = map_next k (resting k); version = c.args.ready.version }
  world_is = λ i. record { map = map_is i; version = c.go_on-was.ensures.version i }

  next_whole : IsMap (map_next k (resting k))
  next_whole = subst IsMap c.requires.ready.after c.requires.ready.placed

  next_each : length (map_next k (resting k)).sectors ≡ g.A.Places.all
  next_each =
      omega (
        arith,
        next_whole.all,
        ap (λ (m : MapData). sector_count m.sizes) (sym c.requires.ready.after),
        c.soundness.ensures.whole.all,
        c.soundness.ensures.each,
      )

  keeper_is : IsKeeper g.A.Naming.first g.A.Places.all (keeper_data c.add.new.self c.go_on-was.new.self c.self.inside.view)
  keeper_is =
      subst (IsKeeper g.A.Naming.first g.A.Places.all)
      (λ i. record {
        chronicle = sym chronicle_is i;
        counts = sym counts_are i;
        world = sym world_is i;
        seen = sym (ap (λ (k : KeeperData). k.seen) c.self.view_is) i;
        is_roomy = c.add.new.self.is_roomy;
      })
      (rest_keeps g.A.Naming.first g.A.Places.all k c.soundness.ensures c.args.ready.version c.add.new.self.is_roomy
      c.requires.ready.version c.requires.more next_whole next_each)

led_are : (g : Over) (c : goal.Joined-mark g)
    → AreLed (length c.args.self.now.world.map.sectors) c.args.self.now.world c.go_on-was.new.self c.args.ready.next.items
led_are g c =
    let k = c.args.self.now in
    let next : record { map = map_next k (resting k); version = version_next g.A.Naming.first k } ≡ c.go_on-was.new.self =
    (λ i. record { map = map_next k (resting k); version = sym c.requires.ready.version i }) ∙ sym (world_is g c) in
    subst (λ w. AreLed (length k.world.map.sectors) k.world w c.args.ready.next.items) next c.requires.ready.led

marks_are : (g : Over) (c : goal.Joined-mark g) → AreMarks c.give_next.new.self c.go_on-was.new.self
marks_are g c =
    let k = c.args.self.now in
    let here = ap (λ (k : KeeperData). k.world) c.self.view_is in
    let marks : AreMarks c.self.inside.marks k.world = subst (AreMarks c.self.inside.marks) here c.self.invariant.1 in
    let many : length c.go_on-was.new.self.map.sectors ≡ length k.world.map.sectors =
    omega (arith, ap (λ (m : MapData). length m.sectors) (map_is g c), next_each g c, c.soundness.ensures.each) in
    let version = c.go_on-was.ensures.version ∙ c.requires.ready.version in
    next_marked c.args.ready.is_same_policy c.self.inside.marks c.give_next.new.self c.args.ready.next.items
    c.mark-mark.result k.world c.go_on-was.new.self marks many (led_are g c)
    (λ stays. subst (IsSamePolicy k.world.version) (sym version) (c.requires.ready.same stays)) c.mark-mark.ensures
    (λ stays. subst (λ next. AreGiven c.self.inside.marks next c.mark-mark.result c.give_next.new.self) c.deref.ensures.value
    (c.give_next.ensures.led stays)) c.give_next.ensures.all

pub returns-clause-begun : goal.returns-clause-begun
returns-clause-begun g c = (led_are g c).0

pub invariant_of-self : goal.invariant_of-self
invariant_of-self g c = (
  keeper_is g c,
  marks_are g c,
  subst (λ m. IsWatch m c.args.ready.watch) (sym (map_is g c)) c.requires.ready.watch,
)

pub returns-clause-chronicle : goal.returns-clause-chronicle
returns-clause-chronicle g c = chronicle_is g c

pub returns-clause-counts : goal.returns-clause-counts
returns-clause-counts g c = counts_are g c
