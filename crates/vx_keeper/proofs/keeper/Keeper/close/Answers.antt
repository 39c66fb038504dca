use Rattle.std.proofs.Common.{◌≡◌, ◌+◌, ◌≤◌, List, [], ◌∷◌, ◌++◌, length, map, sym, ap, subst, ◌∙◌, arith}
use Rattle.std.specs.List.{All}
use Rattle.std.specs.Vec.{vec_capacity}
use Rattle.std.proofs.lemmas.List.{length-map}
use Rattle.std.proofs.lemmas.List.Elements.{All-map, All-same}
use Rattle.vx_geom.specs.Sizes.{sector_count}
use Rattle.vx_cells.specs.Maps.{AreSectors, MapData}
use Rattle.vx_cells.specs.Wholes.{IsMap}
use Rattle.vx_sector.specs.SectorData.{SectorData}
use Rattle.vx_sector.specs.Windows.{count_of, most_entries}
use Rattle.vx_still.specs.Watching.{IsWatch}
use Rattle.vx_windows.specs.Sectors.{AreOf, cells_of, entries_of, renewed_each, all_renewed, with_changes}
use Rattle.vx_windows.proofs.Changing.{as_many_quiet}
use Rattle.vx_windows.proofs.Renewals.{as_many_on_map, of_map, renewed_over_map}
use Rattle.vx_record.specs.Chronicles.{TickData, ChronicleData}
use Rattle.vx_record.specs.Kept.{busy_count}
use Rattle.vx_record.specs.Records.{tick_in}
use Rattle.vx_record.specs.Archives.{IsArchive, IsNextTick, next_counts}
use Rattle.vx_record.proofs.Counting.{archive_grown, counts_fit, counts_go_on}
use Rattle.vx_keeper.specs.Keepers.{KeeperData, keeper_data, IsKeeper, map_by, map_now, map_next, chronicle_next}
use Rattle.vx_keeper.specs.Marks.{AreMarks, IsPartOf}
use Rattle.vx_keeper.proofs.Closing.{tick, is_next, keeps}
use Rattle.vx_keeper.proofs.Giving.{all_marked}
use Rattle.vx_keeper.proofs.Knowing.{AreAsKnown, changes_known, held_of, whole_now}
use Rattle.vx_keeper.proofs.Parts.{parts_renewed}
use Rattle.vx_keeper.proofs.keeper.Keeper.close.Given.{Over}
use Rattle.vx_keeper.proofs.keeper.Keeper.close.Goals as goal

pub go_on-was-requires-clause-each : goal.go_on-was-requires-clause-each
go_on-was-requires-clause-each g c =
    omega (arith, as_many_quiet c.args.sectors.now c.args.ready.changes.items c.requires.ready.begun.unchanged, c.requires.each, c.soundness.ensures.each, ap (λ (k : KeeperData). length k.world.map.sectors) c.self.view_is)

pub go_on-was-requires-clause-placed : goal.go_on-was-requires-clause-placed
go_on-was-requires-clause-placed g c =
    let ss = c.args.sectors.now in
    let changes = c.args.ready.changes.items in
    let known : with_changes c.self.inside.known.map.sectors changes ≡ with_changes (map cells_of ss) changes =
    ap (λ (k : KeeperData). with_changes k.world.map.sectors changes) c.self.view_is
    ∙ changes_known g.A.Naming.first g.A.Places.all c.args.self.now c.soundness.ensures ss c.requires.each c.requires.known c.are_sectors.ensures changes c.requires.ready.begun.unchanged in
    subst (AreSectors c.self.inside.known.map.sizes) (sym known)
    (subst (λ v. AreSectors v (with_changes (map cells_of ss) changes))
    (sym (ap (λ (k : KeeperData). k.world.map.sizes) c.self.view_is)) c.requires.ready.placed)

pub renew_sectors-windows-requires-clause-fresh : goal.renew_sectors-windows-requires-clause-fresh
renew_sectors-windows-requires-clause-fresh g c =
    let first = g.A.Naming.first in
    let many = g.A.Places.all in
    let k = c.args.self.now in
    let ss = c.args.sectors.now in
    let held = held_of first many k c.soundness.ensures ss c.requires.each c.requires.known in
    subst (AreOf ss) (sym c.requires.ready.begun.fresh)
    (of_map c.args.ready.version k.world.map.sizes ss (with_changes (map cells_of ss) c.args.ready.changes.items)
    (whole_now first many k c.soundness.ensures ss c.requires.each c.are_sectors.ensures held.bases) c.requires.ready.placed)

pub new-requires-clause-room : goal.new-requires-clause-room
new-requires-clause-room g c =
    subst (λ ws. busy_count ws ≤ vec_capacity c.args.ready.kept) (sym c.renew_sectors-windows.ensures.windows) c.requires.ready.begun.room_kept

pub add-requires-clause-next : goal.add-requires-clause-next
add-requires-clause-next g c =
    let first = g.A.Naming.first in
    let many = g.A.Places.all in
    let k = c.args.self.now in
    let ss = c.args.sectors.now in
    let held = held_of first many k c.soundness.ensures ss c.requires.each c.requires.known in
    let number : length c.ticks.result.now + 1 ≡ length k.chronicle.ticks + 1 =
    omega (arith, length-map c.ticks.result.now tick_in, ap length c.ticks.ensures, ap (λ (k : KeeperData). length k.chronicle.ticks) c.self.view_is) in
    let version = c.go_on-was.ensures.was ∙ ap (λ (k : KeeperData). k.world.version) c.self.view_is in
    let due = is_next first many k c.soundness.ensures ss c.are_sectors.ensures held in
    let told : TickData = record {
      number = length c.ticks.result.now + 1;
      version = c.go_on-was.result;
      windows = c.new.result;
      fates = c.args.ready.fates.items;
    } in
    let is : told ≡ tick first many k c.soundness.ensures ss c.are_sectors.ensures held =
    λ i. record {
      number = number i;
      version = version i;
      windows = (c.new.ensures ∙ c.renew_sectors-windows.ensures.windows) i;
      fates = c.requires.ready.fates i;
    } in
    subst (λ (d : ChronicleData). IsNextTick d told) (sym (ap (λ (k : KeeperData). k.chronicle) c.self.view_is))
    (subst (IsNextTick k.chronicle) (sym is) due)

pub add-requires-clause-most : goal.add-requires-clause-most
add-requires-clause-most g c =
    let first = g.A.Naming.first in
    let many = g.A.Places.all in
    let k = c.args.self.now in
    let ss = c.args.sectors.now in
    let held = held_of first many k c.soundness.ensures ss c.requires.each c.requires.known in
    let counts = ap (λ (k : KeeperData). k.counts) c.self.view_is ∙ held.closed in
    let fits = counts_fit ss (λ j d within. (c.are_sectors.ensures j d within).most) in
    All-same (λ n. n ≤ most_entries) _ _
    (λ i. next_counts (counts i) ((c.new.ensures ∙ c.renew_sectors-windows.ensures.windows) i))
    fits

-- where the sectors lie, and the map that the tick leaves
module _ (g : Over) (c : goal.Joined-mark g) where
  abbrev k : KeeperData
  k = c.args.self.now

  abbrev ss : List SectorData
  ss = c.args.sectors.now

  held : AreAsKnown k.world.version k.chronicle.opening.names k.world.map.sectors k.counts ss
  held = held_of g.A.Naming.first g.A.Places.all k c.soundness.ensures ss c.requires.each c.requires.known

  whole : IsMap (map_now k ss)
  whole = whole_now g.A.Naming.first g.A.Places.all k c.soundness.ensures ss c.requires.each c.are_sectors.ensures held.bases

  sizes : c.self.inside.known.map.sizes ≡ k.world.map.sizes
  sizes = ap (λ (k : KeeperData). k.world.map.sizes) c.self.view_is

  map_is : c.go_on-was.new.self.map ≡ map_next k ss
  map_is =
      let changes = c.args.ready.changes.items in
      let known : with_changes c.self.inside.known.map.sectors changes ≡ with_changes (map cells_of ss) changes =
      ap (λ (k : KeeperData). with_changes k.world.map.sectors changes) c.self.view_is
      ∙ changes_known g.A.Naming.first g.A.Places.all k c.soundness.ensures ss c.requires.each c.requires.known c.are_sectors.ensures changes c.requires.ready.begun.unchanged in
      c.go_on-was.ensures.map ∙ (λ i. map_by (sizes i) (known i)) ∙ c.requires.ready.after

  world_is : c.go_on-was.new.self ≡ record { map = map_next k ss; version = c.args.ready.version }
  world_is = λ i. record { map = map_is i; version = c.go_on-was.ensures.version i }

  next_whole : IsMap (map_next k ss)
  next_whole = subst IsMap c.requires.ready.after c.requires.ready.placed

  next_sizes : (map_next k ss).sizes ≡ k.world.map.sizes
  next_sizes = ap (λ (m : MapData). m.sizes) (sym c.requires.ready.after)

  next_each : length (map_next k ss).sectors ≡ g.A.Places.all
  next_each =
      omega (arith, next_whole.all, ap sector_count next_sizes, c.soundness.ensures.whole.all, c.soundness.ensures.each)

  sectors_are : c.renew_sectors-windows.new.sectors ≡ all_renewed c.args.ready.version ss (map_next k ss).sectors
  sectors_are =
      let cells = with_changes (map cells_of ss) c.args.ready.changes.items in
      c.renew_sectors-windows.ensures.renewed
      ∙ ap (renewed_each ss) c.requires.ready.begun.fresh
      ∙ renewed_over_map c.args.ready.version ss cells (as_many_on_map k.world.map.sizes ss cells whole c.requires.ready.placed)
      ∙ ap (λ (m : MapData). all_renewed c.args.ready.version ss m.sectors) c.requires.ready.after

  counts_are : c.add.new.self.counts ≡ map count_of ss
  counts_are =
      let counts = ap (λ (k : KeeperData). k.counts) c.self.view_is ∙ held.closed in
      c.add.ensures.counts
      ∙ (λ i. next_counts (counts i) ((c.new.ensures ∙ c.renew_sectors-windows.ensures.windows) i))
      ∙ counts_go_on ss

  chronicle_is : c.add.new.self.chronicle ≡ chronicle_next k ss
  chronicle_is =
      let number : length c.ticks.result.now + 1 ≡ length k.chronicle.ticks + 1 =
      omega (arith, length-map c.ticks.result.now tick_in, ap length c.ticks.ensures, ap (λ (k : KeeperData). length k.chronicle.ticks) c.self.view_is) in
      let version = c.go_on-was.ensures.was ∙ ap (λ (k : KeeperData). k.world.version) c.self.view_is in
      let before = ap (λ (k : KeeperData). k.chronicle) c.self.view_is in
      c.add.ensures.chronicle
      ∙ (λ i. record {
        opening = (before i).opening;
        ticks = (before i).ticks ++ record {
          number = number i;
          version = version i;
          windows = (c.new.ensures ∙ c.renew_sectors-windows.ensures.windows) i;
          fates = c.requires.ready.fates i;
        } ∷ [];
      })

  keeper_is : IsKeeper g.A.Naming.first g.A.Places.all
      (keeper_data c.add.new.self c.go_on-was.new.self c.self.inside.view)
  keeper_is =
      let first = g.A.Naming.first in
      let many = g.A.Places.all in
      let seen = ap (λ (k : KeeperData). k.seen) c.self.view_is in
      let counted : next_counts k.counts (map entries_of ss) ≡ map count_of ss =
      ap (λ ns. next_counts ns (map entries_of ss)) held.closed ∙ counts_go_on ss in
      let archive = subst (IsArchive (chronicle_next k ss)) counted
      (archive_grown k.chronicle k.counts (tick first many k c.soundness.ensures ss c.are_sectors.ensures held)
      c.soundness.ensures.archive (is_next first many k c.soundness.ensures ss c.are_sectors.ensures held)
      (length-map ss entries_of ∙ c.requires.each ∙ sym c.soundness.ensures.all)) in
      subst (IsKeeper first many)
      (λ i. record {
        chronicle = sym chronicle_is i;
        counts = sym counts_are i;
        world = sym world_is i;
        seen = sym seen i;
        is_roomy = c.add.new.self.is_roomy;
      })
      (keeps first many k c.soundness.ensures ss c.are_sectors.ensures held (map count_of ss) c.args.ready.version
      c.add.new.self.is_roomy archive (length-map ss count_of ∙ c.requires.each)
      c.requires.ready.version c.requires.more next_whole next_each
      (All-map (λ n. n ≤ most_entries) count_of ss (λ j d within. (c.are_sectors.ensures j d within).most)))

marks_are : (g : Over) (c : goal.Joined-mark g) → AreMarks c.give_all.new.self c.go_on-was.new.self
marks_are g c =
    all_marked c.self.inside.marks c.give_all.new.self c.mark-mark.result c.go_on-was.new.self
    (c.self.invariant.1.0 ∙ before_each g c) c.give_all.ensures c.mark-mark.ensures
  where
    before_each : (g : Over) (c : goal.Joined-mark g)
        → length c.self.inside.known.map.sectors ≡ length c.go_on-was.new.self.map.sectors
    before_each g c =
        omega (
          arith,
          ap (λ (m : MapData). length m.sectors) (map_is g c),
          next_each g c,
          c.soundness.ensures.each,
          ap (λ (k : KeeperData). length k.world.map.sectors) c.self.view_is,
        )

pub invariant_of-self : goal.invariant_of-self
invariant_of-self g c = (
  keeper_is g c,
  marks_are g c,
  subst (λ m. IsWatch m c.args.ready.watch) (sym (map_is g c)) c.requires.ready.watch,
)

pub returns-clause-counts : goal.returns-clause-counts
returns-clause-counts g c = counts_are g c

pub returns-clause-sectors : goal.returns-clause-sectors
returns-clause-sectors g c = sectors_are g c

pub returns-clause-parts : goal.returns-clause-parts
returns-clause-parts g c =
    let many = c.requires.each ∙ sym (next_each g c) in
    subst (λ w. All (IsPartOf w) c.renew_sectors-windows.new.sectors) (sym (world_is g c))
    (subst (All (IsPartOf (record { map = map_next c.args.self.now c.args.sectors.now; version = c.args.ready.version })))
    (sym (sectors_are g c))
    (parts_renewed (map_next c.args.self.now c.args.sectors.now) c.args.ready.version c.args.sectors.now
    (next_whole g c).each many c.are_sectors.ensures))

pub returns-clause-chronicle : goal.returns-clause-chronicle
returns-clause-chronicle g c = chronicle_is g c

pub returns-clause-world : goal.returns-clause-world
returns-clause-world g c = world_is g c

pub returns-clause-fates : goal.returns-clause-fates
returns-clause-fates g c = c.requires.ready.told
