use Rattle.std.proofs.Common.{◌≡◌, length, map, sym, ap, ◌∙◌, subst, arith}
use Rattle.std.specs.Vec.{vec_len}
use Rattle.std.proofs.lemmas.List.{length-map}
use Rattle.std.proofs.lemmas.List.Elements.{All-map, recursion_from_All}
use Rattle.std.proofs.lemmas.Simd.{map-map}
use Rattle.vx_record.specs.Chronicles.{AreWindows, ChronicleData, map_after}
use Rattle.vx_record.specs.Archives.{calls_on}
use Rattle.vx_record.specs.Settling.{open_entries}
use Rattle.vx_keeper.specs.Keepers.{AreByEdits, known}
use Rattle.vx_world.specs.Settlements.{caller_of, sector_here, IsWindowHere}
use Rattle.vx_world.proofs.Opened.{all_on_record, counts_here, open_windows}
use Rattle.vx_world.proofs.Settled.{as_many, all_home, settled}
use Rattle.vx_world.proofs.lifted.Lifted.finish.Goals as goal

pub report-requires-clause-home : goal.report-requires-clause-home
report-requires-clause-home g c =
    all_home c.args.self.slots.items (λ slot. slot.home) (λ home. home.marked) (known c.args.keeper)
    (settled _ _ _ _ c.args.keeper.chronicle.ticks c.found-found.result c.found-found.ensures c.in_default.not-Some).1

pub report-requires-clause-passes : goal.report-requires-clause-passes
report-requires-clause-passes g c =
    let once = (settled _ _ _ _ c.args.keeper.chronicle.ticks c.found-found.result c.found-found.ensures c.in_default.not-Some).0 in
    let lent = c.deref.result.now in
    let callers : length (map caller_of lent) ≡ g.B.Seats.all = as_many _ _ once in
    let passes : length (map caller_of lent) ≡ length lent = length-map lent caller_of in
    let all : length lent ≡ length c.args.passes.items = ap length c.deref.ensures.value in
    let many : vec_len c.args.passes ≡ g.B.Seats.all = omega (arith, callers, passes, all, c.args.passes.ok.0) in
    many

pub returns-clause-open : goal.returns-clause-open
returns-clause-open g c =
    let slots = c.args.self.slots.items in
    let k = c.args.keeper in
    let places = map sector_here slots in
    let long : length places ≡ g.A.Places.all =
    omega (arith, length-map slots sector_here, c.args.self.all_here, c.args.self.slots.ok.0) in
    let all = recursion_from_All IsWindowHere places (All-map IsWindowHere sector_here slots c.report.ensures.open) in
    let cells = (map_after k.chronicle.opening.terrain k.chronicle.ticks).sectors in
    subst (AreWindows k.chronicle.opening.names k.world.version.policy cells)
    (map-map open_entries sector_here slots ∙ sym c.report.ensures.windows)
    (open_windows g.A.Naming.first g.A.Places.all k places c.soundness.ensures long c.in_default.ensures.1 all)

pub returns-clause-recorded : goal.returns-clause-recorded
returns-clause-recorded g c =
    let slots = c.args.self.slots.items in
    let k = c.args.keeper in
    let places = map sector_here slots in
    let long : length places ≡ g.A.Places.all =
    omega (arith, length-map slots sector_here, c.args.self.all_here, c.args.self.slots.ok.0) in
    c.report.ensures.entries ∙ counts_here (λ slot. slot.home) (λ home. home.marked) slots
    ∙ all_on_record g.A.Naming.first g.A.Places.all k places c.soundness.ensures long c.in_default.ensures.1
    ∙ (λ i. calls_on (sym (ap (λ (d : ChronicleData). d.ticks) c.report.ensures.chronicle) i)
    ((map-map open_entries sector_here slots ∙ sym c.report.ensures.windows) i))

pub returns-clause-edits : goal.returns-clause-edits
returns-clause-edits g c =
    subst (λ (d : ChronicleData). AreByEdits g.A.Naming.first c.args.keeper.seen d.ticks c.report.result.version) (sym c.report.ensures.chronicle)
    (subst (AreByEdits g.A.Naming.first c.args.keeper.seen c.args.keeper.chronicle.ticks) (sym c.report.ensures.version)
    c.soundness.ensures.edits)
