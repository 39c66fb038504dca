use Rattle.std.proofs.Common.{◌≡◌, ◌<◌, ◌&&◌, ◌||◌, length, None, get_or, set, refl, ap, sym, subst, ◌∙◌, arith}
use Rattle.std.proofs.lemmas.List.{get_or_read}
use Rattle.std.proofs.lemmas.Result.{on_ok_weaker}
use Rattle.vx_geom.specs.Sizes.{is_inside, sector_cells, sector_number}
use Rattle.vx_geom.specs.declared.pos.Pos.{Pos}
use Rattle.vx_marks.specs.Marks.{in_run}
use Rattle.vx_cells.proofs.Indices.{number_below}
use Rattle.vx_cells.proofs.Sectioned.{all_sections}
use Rattle.vx_places.specs.Places.{marked_in, in_run_from, is_at, HasRoom}
use Rattle.vx_places.proofs.Marked.{run_marked}
use Rattle.vx_places.proofs.places.Places.mark_in_entry.Goals as goal
use Rattle.vx_places.proofs.places.Places.mark_in_entry.Goals.{After-sector_cells-count, After-index_mut}

-- the number of the sector
number_is : (c : After-sector_cells-count) → c.args.sector ≡ sector_number c.self.inside.bounds c.args.p
number_is c = rw (← c.self.view_is) at c.requires.number

near : (c : After-sector_cells-count) → sector_number c.self.inside.bounds c.args.p < length c.self.inside.sectors.items
near c =
    let inside = rw (← c.self.view_is) at c.requires.inside in
    let low = number_below c.self.inside.bounds c.args.p c.self.invariant.valid inside in
    let all = rw (← c.self.view_is) at c.requires.all in
    omega (arith, low, all)

pub index_mut-requires : goal.index_mut-requires
index_mut-requires c =
    let b = (goal.at.index_mut-requires c).After-sector_cells-count in
    omega (arith, number_is b, near b)

pub mark_in-requires-clause-count : goal.mark_in-requires-clause-count
mark_in-requires-clause-count c =
    omega (arith, c.sector_cells-count.ensures, all_sections c.self.inside.bounds c.self.invariant.valid)

-- the marks that are changed are those of that sector
read : (c : After-index_mut) → c.args.sector ≡ sector_number c.self.inside.bounds c.args.p
    → sector_number c.self.inside.bounds c.args.p < length c.self.inside.sectors.items
    → c.index_mut.result.now ≡ get_or c.self.inside.sectors.items (sector_number c.self.inside.bounds c.args.p) None
read c is low =
    let items = c.self.inside.sectors.items in
    get_or_read items c.args.sector c.index_mut.result.now (omega (arith, is, low)) c.index_mut.ensures.value None
    ∙ ap (λ k. get_or items k None) is

pub mark_in-requires-clause-room : goal.mark_in-requires-clause-room
mark_in-requires-clause-room c =
    let at = goal.at.mark_in-requires-clause-room c in
    subst (λ n. HasRoom n c.index_mut.result.now) (sym c.sector_cells-count.ensures)
    (subst (HasRoom (sector_cells c.self.inside.bounds)) (sym (read at.After-index_mut (number_is at.After-sector_cells-count) (near at.After-sector_cells-count)))
    (c.self.invariant.each (sector_number c.self.inside.bounds c.args.p)))

pub returns-clause-marked : goal.returns-clause-marked
returns-clause-marked c =
    let at = goal.at.returns-clause-marked c in
    let b = at.After-sector_cells-count in
    let v = c.self.inside.bounds in
    let items = c.self.inside.sectors.items in
    let new = c.mark_in.new.sector in
    let index = c.index_in_sector-index.ensures.value in
    rw (← c.self.view_is) (on_ok_weaker c.mark_in.result
    (λ changed. record {
      sizes = refl;
      marked = subst (λ k. (q : Pos) → is_at (record { sizes = v; marks = set items k new }) q
          ≡ (is_at (record { sizes = v; marks = items }) q || (is_inside v q && in_run_from v c.args.p c.args.bits q)))
          (sym (number_is b))
          (run_marked v items c.args.p c.args.bits new (near b)
          (λ i. changed i ∙ (λ t. marked_in (read at.After-index_mut (number_is b) (near b) t) i || in_run (index t) c.args.bits i)));
    })
    c.mark_in.ensures.marked)
