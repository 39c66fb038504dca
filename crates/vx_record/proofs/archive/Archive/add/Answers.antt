use Rattle.std.proofs.Common.{◌≡◌, ◌++◌, [], ◌∷◌, List, length, map, take, drop, sym, ap, subst, ◌∙◌, arith}
use Rattle.std.proofs.lemmas.List.{map-append, take_at}
use Rattle.vx_record.specs.Chronicles.{TickData}
use Rattle.vx_record.specs.Records.{tick_in, chronicle_in}
use Rattle.vx_record.specs.Archives.{ArchiveData, IsArchive, IsNextTick, next_counts}
use Rattle.vx_record.proofs.Counting.{archive_grown}
use Rattle.vx_record.proofs.archive.Archive.add.Goals as goal

pub count_into-requires-clause-each : goal.count_into-requires-clause-each
count_into-requires-clause-each c =
    c.requires.each
    ∙ sym (ap (λ (a : ArchiveData). length a.counts) c.self.view_is) ∙ sym (ap length c.deref_mut.ensures.value)

pub invariant_of-self : goal.invariant_of-self
invariant_of-self c =
    let was = chronicle_in c.self.inside.chronicle in
    let before = c.self.inside.counts in
    let tick = tick_in c.args.tick in
    let new = c.count_into.new.counts in
    let next : IsNextTick was tick =
    subst (λ (a : ArchiveData). IsNextTick a.chronicle tick) (sym c.self.view_is) c.requires.next in
    let many : length tick.windows ≡ length before.items =
    c.requires.each ∙ ap (λ (a : ArchiveData). length a.counts) (sym c.self.view_is) in
    let counts : next_counts before.items tick.windows
    ≡ take before.len (new ++ drop (length new) before.items) =
    ap (λ ns. next_counts ns tick.windows) (sym c.deref_mut.ensures.value)
    ∙ sym c.count_into.ensures
    ∙ sym (take_at new (drop (length new) before.items) before.len (omega (arith, c.count_into.auto.counts, c.deref_mut.ensures.len))) in
    let ticks : was.ticks ++ tick ∷ [] ≡ map tick_in c.push_reserved.new.self.items =
    sym (map-append tick_in c.self.inside.chronicle.ticks.items (c.args.tick ∷ []))
    ∙ ap (map tick_in) (sym c.push_reserved.ensures.items) in
    subst (λ ns. IsArchive (chronicle_in record { opening = c.self.inside.chronicle.opening; ticks = c.push_reserved.new.self }) ns) counts
    (subst (λ (ts : List TickData). IsArchive (record was { ticks = ts }) (next_counts before.items tick.windows)) ticks
    (archive_grown was before.items tick c.self.invariant next many))
