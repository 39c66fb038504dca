use Rattle.std.proofs.Common.{Bool, ◌≡◌, ◌<◌, ◌≤◌, true, FitsSigned, Some, None, ap, sym, subst, ◌∙◌, arith, rules}
use Rattle.std.specs.Int.{w32}
use Rattle.std.specs.Option.{option_copied}
use Rattle.std.proofs.lemmas.Bool.{and_parts, false_from_ne_true, true≢false}
use Rattle.std.proofs.lemmas.Int.{to_z-of_z}
use Rattle.vx_geom.specs.declared.pos.Pos.{Pos}
use Rattle.vx_geom.specs.Sizes.{Sizes, is_inside, sector_number, sector_of}
use Rattle.vx_geom.proofs.SectorLemmas.{inside_at}
use Rattle.vx_cells.specs.Listed.{place}
use Rattle.vx_cells.specs.Maps.{sector_at, cell_on}
use Rattle.vx_cells.specs.SectorCells.{SectorCells, cell_at}
use Rattle.vx_cells.proofs.Rows as rows
use Rattle.vx_store.specs.MachineMarks.{is_of}
use Rattle.vx_places.specs.Areas.{IsPart, in_area}
use Rattle.vx_places.specs.Around.{is_around, is_kind_around, is_such_around, at_number, layer_of, row_of, column_of, least_within, end_within}
use Rattle.vx_places.proofs.Adding.{adds_same, adds_none, none_below, one_number, all_numbers}
use Rattle.vx_places.proofs.Areas.{IsThere, area_inside, first_of, part_from, stands_there, is_there, kind_inside, no_air}
use Rattle.vx_places.proofs.Near.{parts_of, near_layer, same_in_layer, place_of, below_end, between_near}
use Rattle.vx_places.proofs.places.Places.mark_area.Goals as goal
use Rattle.vx_places.proofs.places.Places.mark_area.Goals.{After-sector_of, After-end_within-y-end}

-- the first position of the lowest layer
corner_inside : (c : After-sector_of) → is_inside c.args.self.now.sizes (place c.args.area.west 0 c.args.area.north) ≡ true
corner_inside c =
    let v = c.args.self.now.sizes in
    let area = c.args.area in
    area_inside v c.soundness.ensures area c.requires.here area.west 0 area.north
    (first_of v c.soundness.ensures area c.requires.here 0) (omega (arith, c.soundness.ensures.h_least))

corner_is : (c : After-sector_of) → c.new-corner.result ≡ place c.args.area.west 0 c.args.area.north
corner_is c =
    let low = rows.low_inside c.args.self.now.sizes c.args.area.west 0 c.args.area.north c.soundness.ensures (corner_inside c) in
    rows.place_is c.args.area.west 0 c.args.area.north c.new-corner.result low.0 low.1 low.2 c.new-corner.ensures

-- the sector that the map has there, if any
found_is : (c : After-sector_of) → option_copied c.sector_of.result
    ≡ sector_at c.args.map.now.sectors (sector_of c.args.map.now.sizes (place c.args.area.west 0 c.args.area.north))
found_is c = c.sector_of.ensures ∙ ap (λ p. sector_at c.args.map.now.sectors (sector_of c.args.map.now.sizes p)) (corner_is c)

-- whether a component stands at a position
abbrev stands : After-sector_of → Pos → Bool
stands c q = is_of c.args.kind (cell_on c.args.map.now q)

pub returns-in_default-clause-marked : goal.returns-in_default-clause-marked
returns-in_default-clause-marked c =
    let b = (goal.at.returns-in_default-clause-marked c).After-sector_of in
    let m = c.args.map.now in
    let v = c.args.self.now.sizes in
    let none = ap option_copied (sym c.in_default.is) ∙ found_is b in
    adds_none _ c.args.self.now
    (λ q inside. false_from_ne_true _ (λ all.
    let is = parts_of (stands b) v c.args.p c.args.steps q inside c.args.area all in
    let stood = (and_parts (is_around c.args.p c.args.steps q) _ is.around).1 in
    let there = inside_at m.sizes q (kind_inside c.args.kind m q stood) in
    let air = ap (cell_on m) (place_of v q inside)
    ∙ stands_there m c.soundness-2.ensures c.args.area c.requires.there None none (column_of q) (layer_of q) (row_of q)
    is.within there.y_below in
    true≢false (sym stood ∙ ap (is_of c.args.kind) air ∙ no_air c.args.kind)))

-- it is a sector of the map
sector_there : (c : After-sector_of) (cells : SectorCells) → option_copied c.sector_of.result ≡ Some cells
    → IsThere c.args.map.now cells (place c.args.area.west 0 c.args.area.north)
sector_there c cells is =
    is_there c.args.map.now c.soundness-2.ensures cells (place c.args.area.west 0 c.args.area.north) (sym is ∙ found_is c)

pub sector_holding-sector-requires : goal.sector_holding-sector-requires
sector_holding-sector-requires c =
    let b = (goal.at.sector_holding-sector-requires c).After-sector_of in
    (λ i. is_inside (c.bounds-bounds.ensures i) (corner_is b i)) ∙ corner_inside b

-- how many layers both worlds have
here : (c : After-end_within-y-end) → c.layers.result ≡ c.args.self.now.sizes.h
here c = c.layers.ensures.value ∙ ap (λ (v : Sizes). v.h) c.bounds-bounds.ensures

there : (c : After-end_within-y-end) → c.layers-2.result ≡ c.args.map.now.sizes.h
there c = c.layers-2.ensures.value ∙ ap (λ (v : Sizes). v.h) c.bounds.ensures

-- where the loop begins, and where it ends
first : (c : After-end_within-y-end)
    → c.least_within-first.result ≡ least_within c.args.p.y c.args.steps c.min-count.result
first c =
    let in_y : FitsSigned w32 c.args.p.y = search rules in
    c.least_within-first.ensures ∙ ap (λ n. least_within n c.args.steps c.min-count.result) (to_z-of_z w32 c.args.p.y in_y)

end : (c : After-end_within-y-end)
    → c.end_within-y-end.result ≡ end_within c.args.p.y c.args.steps c.min-count.result
end c =
    let in_y : FitsSigned w32 c.args.p.y = search rules in
    c.end_within-y-end.ensures ∙ ap (λ n. end_within n c.args.steps c.min-count.result) (to_z-of_z w32 c.args.p.y in_y)

-- the test by which positions are added
abbrev added_by : After-end_within-y-end → Pos → Bool
added_by c = in_area (is_kind_around c.args.kind (cell_on c.args.map.now) c.args.p c.args.steps) c.args.area

-- they lie in these layers
layers_hold : (c : After-end_within-y-end) (q : Pos) → is_inside c.args.self.now.sizes q ≡ true
    → added_by c q ≡ true
    → (least_within c.args.p.y c.args.steps c.min-count.result ≤ layer_of q)
    × (layer_of q < end_within c.args.p.y c.args.steps c.min-count.result)
layers_hold c q inside all =
    let m = c.args.map.now in
    let v = c.args.self.now.sizes in
    let such : Pos → Bool = λ q. is_of c.args.kind (cell_on m q) in
    let is = parts_of such v c.args.p c.args.steps q inside c.args.area all in
    let stood = (and_parts (is_around c.args.p c.args.steps q) _ is.around).1 in
    let in_world = inside_at v q inside in
    let on_map = inside_at m.sizes q (kind_inside c.args.kind m q stood) in
    near_layer such v c.args.p c.args.steps q inside c.min-count.result
    (omega (arith, c.min-count.ensures, here c, there c, in_world.y_below, on_map.y_below)) is.around

pub loop-y-init : goal.loop-y-init
loop-y-init c =
    let b = (goal.at.loop-y-init c).After-end_within-y-end in
    none_below layer_of (added_by b) c.args.self.now c.least_within-first.result
    (λ q inside near. omega (arith, first b, (layers_hold b q inside near).0))

pub mark_layer-requires-clause-low : goal.mark_layer-requires-clause-low
mark_layer-requires-clause-low c =
    let b = (goal.at.mark_layer-requires-clause-low c).After-end_within-y-end in
    let low = below_end c.args.p.y c.args.steps c.min-count.result c.loop-y.y
    (omega (arith, c.loop-y-test.true, end b)) in
    omega (arith, low, c.min-count.ensures, here b, ap (λ (v : Sizes). v.h) c.loop-y.invariant.sizes)

pub mark_layer-requires-clause-near : goal.mark_layer-requires-clause-near
mark_layer-requires-clause-near c =
    let b = (goal.at.mark_layer-requires-clause-near c).After-end_within-y-end in
    between_near c.args.p.y c.args.steps c.min-count.result c.loop-y.y
    (omega (arith, c.loop-y.auto.y, first b)) (omega (arith, c.loop-y-test.true, end b))

pub mark_layer-requires-clause-number : goal.mark_layer-requires-clause-number
mark_layer-requires-clause-number c =
    let b = (goal.at.mark_layer-requires-clause-number c).After-sector_of in
    c.sector_holding-sector.ensures
    ∙ (λ i. sector_number (c.bounds-bounds.ensures i) (corner_is b i))
    ∙ ap (λ v. sector_number v (place c.args.area.west 0 c.args.area.north)) (sym c.loop-y.invariant.sizes)

pub mark_layer-requires-clause-there : goal.mark_layer-requires-clause-there
mark_layer-requires-clause-there c =
    let b = (goal.at.mark_layer-requires-clause-there c).After-sector_of in
    let is = sector_there b c.in-Some.cells.now (ap option_copied c.in-Some.is) in
    subst (λ v. IsPart v c.args.area) (sym (c.bounds-there.ensures ∙ is.size))
    (part_from c.args.map.now.sizes c.soundness-2.ensures.valid c.args.area c.requires.there is.inside)

pub mark_layer-requires-clause-held : goal.mark_layer-requires-clause-held
mark_layer-requires-clause-held c =
    let at = goal.at.mark_layer-requires-clause-held c in
    let b = at.After-end_within-y-end in
    let is = sector_there at.After-sector_of c.in-Some.cells.now (ap option_copied c.in-Some.is) in
    let low = below_end c.args.p.y c.args.steps c.min-count.result c.loop-y.y
    (omega (arith, c.loop-y-test.true, end b)) in
    omega (arith, low, c.min-count.ensures, there b, ap (λ (v : Sizes). v.h) (c.bounds-there.ensures ∙ is.size))

pub mark_layer-requires-clause-sector : goal.mark_layer-requires-clause-sector
mark_layer-requires-clause-sector c =
    let b = (goal.at.mark_layer-requires-clause-sector c).After-sector_of in
    let is = sector_there b c.in-Some.cells.now (ap option_copied c.in-Some.is) in
    is.number ∙ ap (λ v. sector_number v (place c.args.area.west 0 c.args.area.north)) (sym (c.bounds-there.ensures ∙ is.size))

pub loop-y-preserved : goal.loop-y-preserved
loop-y-preserved c =
    let at = goal.at.loop-y-preserved c in
    let b = at.After-end_within-y-end in
    let found = at.After-sector_of in
    let m = c.args.map.now in
    let y = c.loop-y.y in
    let old = c.loop-y.self in
    let new = c.mark_layer.new.self in
    let cells = c.in-Some.cells.now in
    let low = below_end c.args.p.y c.args.steps c.min-count.result y (omega (arith, c.loop-y-test.true, end b)) in
    let such : Pos → Bool = λ q. is_of c.args.kind (cell_at cells q) in
    one_number layer_of (added_by b) c.args.self.now y old new c.loop-y.invariant
    (adds_same (at_number layer_of (in_area (is_such_around such c.args.p c.args.steps) c.args.area) y) _ old new
    c.in_ok-mark_layer.ensures.marked
    (λ q inside. same_in_layer old.sizes c.args.p c.args.steps q inside c.args.area y such (stands found)
    (λ of layer.
    let is = place_of old.sizes q inside in
    ap (is_of c.args.kind) (sym (ap (cell_on m) is
    ∙ stands_there m c.soundness-2.ensures c.args.area c.requires.there (Some cells)
    (ap option_copied (sym c.in-Some.is) ∙ found_is found) (column_of q) (layer_of q) (row_of q) of
    (omega (arith, layer, low, c.min-count.ensures, there b))
    ∙ ap (cell_at cells) (sym is))))))

pub returns-clause-marked : goal.returns-clause-marked
returns-clause-marked c =
    let b = (goal.at.returns-clause-marked c).After-end_within-y-end in
    all_numbers layer_of (added_by b) c.args.self.now c.loop-y.y c.loop-y.self c.loop-y.invariant
    (λ q inside near. omega (arith, end b, c.loop-y-test.false, (layers_hold b q inside near).1))
