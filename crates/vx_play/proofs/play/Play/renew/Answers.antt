use Rattle.std.proofs.Common.{◌≡◌, ◌+◌, List, length, map, sym, ap, subst, ◌∙◌, arith}
use Rattle.std.proofs.lemmas.List.{with_items_is}
use Rattle.vx_name.specs.Texts.{texts}
use Rattle.vx_cells.specs.Maps.{MapData, AreSectors}
use Rattle.vx_cells.specs.SectorCells.{SectorCells}
use Rattle.vx_cells.specs.Wholes.{with_cells_on}
use Rattle.vx_geom.specs.Sizes.{Sizes}
use Rattle.vx_still.specs.Watching.{IsWatch}
use Rattle.vx_play.specs.Plays.{PlayData, map_of}
use Rattle.vx_windows.specs.Sectors.{AreOf, AreQuiet, all_renewed, cells_of, map_changed, nexts, renewed_each, window_over, with_changes}
use Rattle.vx_windows.specs.Writing.{map_before}
use Rattle.vx_windows.proofs.Going.{as_many_renewed}
use Rattle.vx_windows.proofs.Renewals.{begins_placed, of_after, renewed_after}
use Rattle.vx_windows.proofs.Sparing.{begun_over}
use Rattle.vx_play.proofs.play.Play.renew.Goals as goal

abbrev map_is : Sizes → List SectorCells → MapData
map_is sizes cells = record { sizes = sizes; sectors = cells }

pub cells_after-requires : goal.cells_after-requires
cells_after-requires g c =
    subst (λ ss. AreSectors c.self.inside.bounds (map cells_of ss)) (sym c.deref.ensures.value) c.self.invariant.2

pub all_fresh-requires-clause-quiet : goal.all_fresh-requires-clause-quiet
all_fresh-requires-clause-quiet g c =
    subst (AreQuiet c.deref-2.result.now) (sym c.deref-3.ensures.value)
    (subst (λ ss. AreQuiet ss c.in_ok-changes.changes.items) (c.deref.ensures.value ∙ sym c.deref-2.ensures.value) c.in_ok-changes.ensures.quiet)

pub all_fresh-requires-clause-same : goal.all_fresh-requires-clause-same
all_fresh-requires-clause-same g c same = cc

pub renew_sectors-windows-requires-clause-fresh : goal.renew_sectors-windows-requires-clause-fresh
renew_sectors-windows-requires-clause-fresh g c =
    let ss = c.self.inside.sectors.items in
    let sizes = c.self.inside.bounds in
    let v = c.in_ok-version.version in
    let changes = c.in_ok-changes.changes.items in
    let cs = with_changes (map cells_of ss) changes in
    let puts = c.args.puts.now in
    let after : map_is sizes cs ≡ with_cells_on (map_is sizes (map cells_of ss)) puts =
    subst (λ ts. map_changed sizes ts changes ≡ with_cells_on (map_is sizes (map cells_of ts)) puts) c.deref.ensures.value c.in_ok-changes.ensures.after in
    let fresh : nexts v.tick ss c.in_ok-fresh.fresh.items ≡ map (window_over v) cs =
    subst (λ ts. nexts v.tick ts c.in_ok-fresh.fresh.items ≡ map (window_over v) (with_changes (map cells_of ts) changes)) c.deref-2.ensures.value
    (c.in_ok-fresh.ensures.fresh ∙ ap (λ ys. map (window_over v) (with_changes (map cells_of c.deref-2.result.now) ys)) c.deref-3.ensures.value) in
    subst (λ ts. AreOf ts (nexts v.tick ts c.in_ok-fresh.fresh.items)) (sym c.deref_mut.ensures.value)
    (subst (AreOf ss) (sym fresh) (of_after v sizes ss cs puts c.self.invariant.2 after))

pub renew_sectors-windows-requires-clause-quiet : goal.renew_sectors-windows-requires-clause-quiet
renew_sectors-windows-requires-clause-quiet g c =
    subst (λ ts. AreQuiet ts c.in_ok-fresh.fresh.items) (c.deref-2.ensures.value ∙ sym c.deref_mut.ensures.value) c.in_ok-fresh.ensures.quiet

pub invariant_of-self : goal.invariant_of-self
invariant_of-self g c =
    let ss = c.self.inside.sectors.items in
    let sizes = c.self.inside.bounds in
    let v = c.in_ok-version.version in
    let changes = c.in_ok-changes.changes.items in
    let cs = with_changes (map cells_of ss) changes in
    let puts = c.args.puts.now in
    let after : map_is sizes cs ≡ with_cells_on (map_is sizes (map cells_of ss)) puts =
    subst (λ ts. map_changed sizes ts changes ≡ with_cells_on (map_is sizes (map cells_of ts)) puts) c.deref.ensures.value c.in_ok-changes.ensures.after in
    let fresh : nexts v.tick ss c.in_ok-fresh.fresh.items ≡ map (window_over v) cs =
    subst (λ ts. nexts v.tick ts c.in_ok-fresh.fresh.items ≡ map (window_over v) (with_changes (map cells_of ts) changes)) c.deref-2.ensures.value
    (c.in_ok-fresh.ensures.fresh ∙ ap (λ ys. map (window_over v) (with_changes (map cells_of c.deref-2.result.now) ys)) c.deref-3.ensures.value) in
    let begun = c.renew_sectors-windows.ensures.renewed
    ∙ ap (λ ts. renewed_each ts (nexts v.tick ts c.in_ok-fresh.fresh.items)) c.deref_mut.ensures.value
    ∙ ap (renewed_each ss) fresh in
    let whole = c.self.invariant.2 in
    let over = begun ∙ renewed_after v sizes ss cs puts whole after in
    let many = as_many_renewed v ss (with_cells_on (map_is sizes (map cells_of ss)) puts).sectors in
    let written = with_items_is c.self.inside.sectors c.renew_sectors-windows.new.sectors (ap length over ∙ many ∙ omega (arith, c.self.inside.sectors.ok.0)) in (
      c.self.invariant.0,
      omega (arith, c.requires.more, ap (λ (p : PlayData). p.ticks) c.self.view_is),
      subst (λ ts. AreSectors sizes (map cells_of ts)) (sym (written ∙ begun)) (begins_placed v sizes ss cs puts whole after),
      subst (λ m. IsWatch m c.args.watch)
          (sym (ap (map_before sizes) (written ∙ over) ∙ begun_over v sizes ss puts whole))
          (subst (λ (p : PlayData). IsWatch (with_cells_on (map_of p) puts) c.args.watch) (sym c.self.view_is) c.requires.watch),
    )

pub returns-clause-ok : goal.returns-clause-ok
returns-clause-ok g c =
    let ss = c.self.inside.sectors.items in
    let sizes = c.self.inside.bounds in
    let v = c.in_ok-version.version in
    let changes = c.in_ok-changes.changes.items in
    let cs = with_changes (map cells_of ss) changes in
    let puts = c.args.puts.now in
    let after : map_is sizes cs ≡ with_cells_on (map_is sizes (map cells_of ss)) puts =
    subst (λ ts. map_changed sizes ts changes ≡ with_cells_on (map_is sizes (map cells_of ts)) puts) c.deref.ensures.value c.in_ok-changes.ensures.after in
    let fresh : nexts v.tick ss c.in_ok-fresh.fresh.items ≡ map (window_over v) cs =
    subst (λ ts. nexts v.tick ts c.in_ok-fresh.fresh.items ≡ map (window_over v) (with_changes (map cells_of ts) changes)) c.deref-2.ensures.value
    (c.in_ok-fresh.ensures.fresh ∙ ap (λ ys. map (window_over v) (with_changes (map cells_of c.deref-2.result.now) ys)) c.deref-3.ensures.value) in
    let begun = c.renew_sectors-windows.ensures.renewed
    ∙ ap (λ ts. renewed_each ts (nexts v.tick ts c.in_ok-fresh.fresh.items)) c.deref_mut.ensures.value
    ∙ ap (renewed_each ss) fresh in
    let i = c.self.inside in
    let next = (with_cells_on (map_is sizes (map cells_of ss)) puts).sectors in
    let over = begun ∙ renewed_after v sizes ss cs puts c.self.invariant.2 after in
    let written = with_items_is i.sectors c.renew_sectors-windows.new.sectors (ap length over ∙ as_many_renewed v ss next ∙ omega (arith, i.sectors.ok.0)) in
    let fixed = c.in_ok-version.ensures in
    let sectors = written ∙ over ∙ ap (λ w. all_renewed w ss next) fixed in
    rw (← c.self.view_is) (λ j. record { sizes = i.bounds; sectors = sectors j; version = fixed j; names = texts i.names.items; first = g.J.Naming.first; accepted = i.desk; ticks = i.ticks + 1 })
