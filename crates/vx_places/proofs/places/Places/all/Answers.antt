use Rattle.std.proofs.Common.{◌<◌, ◌≤◌, nat_eq, [], Some, None, refl, ap, sym, ◌∙◌, append-nil, arith}
use Rattle.std.specs.List.{list_any}
use Rattle.vx_geom.specs.Sizes.{sector_count}
use Rattle.vx_places.specs.Places.{PlacesData, marked_places, steps_between}
use Rattle.vx_places.proofs.Finding.{none_found, sector_found, found_next, found_whole}
use Rattle.vx_places.proofs.Marked.{no_entries}
use Rattle.vx_places.proofs.places.Places.all.Goals as goal

pub returns-then-not-has_entries : goal.returns-then-not-has_entries
returns-then-not-has_entries c = λ p.
    ap (list_any (λ q. nat_eq (steps_between q p) 0)) c.new-found.ensures.items
    ∙ sym (no_entries c.args.self.now p (c.if-not-has_entries.ensures.none refl))

pub loop-sector-preserved-in_default : goal.loop-sector-preserved-in_default
loop-sector-preserved-in_default c p =
    let d = c.args.self.now in
    let k = c.loop-sector.sector in
    let found = c.loop-sector.found.items in
    let count = c.sectors-sector-end.ensures ∙ ap sector_count c.bounds.ensures in
    let low : k < sector_count d.sizes = omega (arith, c.loop-sector-test.true, count) in
    let none = none_found d.sizes k ∙ sector_found d k None c.soundness.ensures low (c.in_default.ensures.none refl) in
    ap (list_any (λ q. nat_eq (steps_between q p) 0)) (sym (append-nil found))
    ∙ found_next d k found [] c.soundness.ensures low c.loop-sector.invariant none p

pub loop-sector-preserved : goal.loop-sector-preserved
loop-sector-preserved c p =
    let d = c.args.self.now in
    let k = c.loop-sector.sector in
    let words = c.in-Some.marks.now in
    let count = c.sectors-sector-end.ensures ∙ ap sector_count c.bounds.ensures in
    let low : k < sector_count d.sizes = omega (arith, c.loop-sector-test.true, count) in
    let here = c.in_ok-places.ensures
    ∙ ap (λ (d : PlacesData). marked_places d.sizes k (Some words)) c.self.view_is
    ∙ sector_found d k (Some words) c.soundness.ensures low c.in-Some.ensures.some in
    ap (list_any (λ q. nat_eq (steps_between q p) 0)) c.in_ok-append.ensures.items
    ∙ found_next d k c.loop-sector.found.items c.in_ok-places.places.items c.soundness.ensures low
    c.loop-sector.invariant here p

pub returns : goal.returns
returns c =
    let d = c.args.self.now in
    let count = c.sectors-sector-end.ensures ∙ ap sector_count c.bounds.ensures in
    let past : sector_count d.sizes ≤ c.loop-sector.sector = omega (arith, c.loop-sector-test.false, count) in
    λ p. c.loop-sector.invariant p ∙ found_whole d c.loop-sector.sector p c.soundness.ensures past
