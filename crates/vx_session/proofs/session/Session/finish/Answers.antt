use Rattle.std.proofs.Common.{◌≡◌, ◌≤◌, length, map, sym, ap, ◌∙◌, subst, arith}
use mathlib.Core.List.{IsPrefix}
use Rattle.std.specs.List.{All}
use Rattle.std.proofs.lemmas.List.{length-map}
use Rattle.std.proofs.lemmas.Simd.{map-map}
use Rattle.vx_geom.specs.Sizes.{Sizes, sector_count}
use Rattle.vx_windows.specs.Sectors.{entries_in}
use Rattle.vx_record.specs.Chronicles.{ChronicleData}
use Rattle.vx_record.specs.Openings.{OpeningData}
use Rattle.vx_record.specs.Settling.{AllAgree, open_entries}
use Rattle.vx_keeper.specs.Keepers.{KeeperData}
use Rattle.vx_world.specs.Settlements.{sector_here}
use Rattle.vx_audit.specs.Audits.{IsGameOf, record_in}
use Rattle.vx_audit.specs.Marks.{marks_of}
use Rattle.vx_audit.specs.Records.{RecordData, IsByEdits}
use Rattle.vx_session.specs.Sessions.{pass_in}
use Rattle.vx_session.proofs.Ending.{by_front, caller_in, known_of}
use Rattle.vx_session.proofs.session.Session.finish.Goals as goal

pub returns-in-None-clause-game : goal.returns-in-None-clause-game
returns-in-None-clause-game g c deeds is =
    let s = c.args.self in
    let parts = c.into_parts-world.ensures in
    let of = c.into_parts-world.result in
    let slots = c.lift.result.slots.items in
    let report = c.in-Ok.report in
    let settled = c.in-Ok.ensures in
    let r : RecordData = record_in report.chronicle c.deref.result.now report.version in
    let places = map sector_here slots in
    let chronicle : r.chronicle ≡ s.keeper.chronicle = settled.chronicle ∙ ap (λ (k : KeeperData). k.chronicle) parts.keeper in
    let windows : r.windows ≡ map open_entries places =
    ap (map entries_in) c.deref.ensures.value ∙ settled.windows ∙ sym (map-map open_entries sector_here slots) in
    let passes = c.in_ok-passes.passes.items in
    let seen : map pass_in passes ≡ s.passes =
    ap (map pass_in) c.in_ok-passes.ensures ∙ map-map pass_in (λ p. p.pass) of.2.items ∙ parts.players in
    let callers = sym (map-map caller_in pass_in passes) ∙ ap (map caller_in) seen in
    let agree : All (AllAgree s.keeper.chronicle.ticks places) (map caller_in s.passes) =
    subst (λ (k : KeeperData). All (AllAgree k.chronicle.ticks places) (map caller_in s.passes)) parts.keeper
    (subst (All (AllAgree of.1.chronicle.ticks places)) callers settled.settled.2) in
    let opened : c.opening.result.now ≡ s.keeper.chronicle.opening = c.opening.ensures ∙ ap (λ (k : KeeperData). k.chronicle.opening) parts.keeper in
    let many : length s.keeper.chronicle.opening.terrain.sectors ≡ length places =
    omega (
      arith,
      ap (λ (o : OpeningData). length o.terrain.sectors) opened,
      c.soundness-2.ensures.map.all,
      ap (λ (o : OpeningData). sector_count o.terrain.sizes) opened,
      ap sector_count parts.session.sizes,
      ap sector_count parts.bounds,
      of.0.divided,
      length-map slots sector_here,
      c.lift.result.all_here,
      c.lift.result.slots.ok.0,
    ) in
    let learnt : IsPrefix s.edits of.1.seen = subst (λ (k : KeeperData). IsPrefix s.edits k.seen) (sym parts.keeper) parts.session.learnt in
    let within : report.version.edits ≤ length s.edits = omega (arith, c.if-count_of-report.false, c.count_of.ensures, ap length parts.last) in
    let opens : r.chronicle.opening.policy ≡ g.A.Naming.first =
    ap (λ (h : ChronicleData). h.opening.policy) settled.chronicle ∙ c.soundness.ensures.opening in
    let by : IsByEdits s.edits r = by_front g.A.Naming.first s.edits of.1.seen r learnt within opens settled.edits in
    let marks =
    ap (λ (z : Sizes). marks_of z deeds) (ap (λ (h : ChronicleData). h.opening.terrain.sizes) chronicle ∙ sym parts.session.sizes)
    ∙ sym is.marks ∙ sym parts.marks ∙ sym c.deref-2.ensures.value in
    subst (λ ws. IsGameOf (record_in report.chronicle ws report.version) deeds) c.deref.ensures.value
    (c.in_ok-follow.ensures c.in-None.is deeds marks (subst (λ es. IsByEdits es r) is.edits by)
    (known_of s deeds r places parts.session is chronicle windows many agree))
