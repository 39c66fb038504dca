use Rattle.std.proofs.Common.{◌≡◌, ◌<◌, ◌&&◌, not, true, length, None, get_or, set, nat_eq, refl, ap, sym, subst, ◌∙◌, arith}
use Rattle.std.proofs.lemmas.List.{get_or_read}
use Rattle.vx_geom.specs.Sizes.{is_inside, sector_cells, sector_number}
use Rattle.vx_geom.specs.declared.pos.Pos.{Pos}
use Rattle.vx_cells.proofs.Indices.{number_below}
use Rattle.vx_places.specs.Places.{marked_in, is_at, steps_between, HasRoom}
use Rattle.vx_places.proofs.Forgetting.{none_forgotten, outside_stays, room_for, still_places, place_cleared}
use Rattle.vx_places.proofs.places.Places.forget.Goals as goal
use Rattle.vx_places.proofs.places.Places.forget.Goals.{After-sector_holding-number, After-index_mut}

pub returns-then-not-has_entries-clause-forgotten : goal.returns-then-not-has_entries-clause-forgotten
returns-then-not-has_entries-clause-forgotten c = λ q. none_forgotten c.args.self.now c.args.p q (c.if-not-has_entries.ensures.none refl)

pub returns-then-not-inside-clause-forgotten : goal.returns-then-not-inside-clause-forgotten
returns-then-not-inside-clause-forgotten c =
    rw (← c.self.view_is) (outside_stays _ c.args.p (sym c.inside.ensures ∙ c.if-not-inside.true))

-- the position is of the world, and its sector has an entry
inside : (c : After-sector_holding-number) → is_inside c.self.inside.bounds c.args.p ≡ true
inside c = sym c.inside.ensures ∙ c.if-not-inside.false

near : (c : After-sector_holding-number) → sector_number c.self.inside.bounds c.args.p < length c.self.inside.sectors.items
near c =
    let all = rw (← c.self.view_is) at c.has_entries.ensures.all c.if-not-has_entries.false in
    omega (arith, number_below c.self.inside.bounds c.args.p c.self.invariant.valid (inside c), all)

pub index_mut-requires : goal.index_mut-requires
index_mut-requires c =
    omega (arith, c.sector_holding-number.ensures, near (goal.at.index_mut-requires c).After-sector_holding-number)

-- the marks that are changed are those of that sector
read : (c : After-index_mut) → sector_number c.self.inside.bounds c.args.p < length c.self.inside.sectors.items
    → c.index_mut.result.now ≡ get_or c.self.inside.sectors.items (sector_number c.self.inside.bounds c.args.p) None
read c low =
    let items = c.self.inside.sectors.items in
    let is = c.sector_holding-number.ensures in
    get_or_read items c.sector_holding-number.result c.index_mut.result.now (omega (arith, is, low)) c.index_mut.ensures.value None
    ∙ ap (λ k. get_or items k None) is

has_room : (c : After-index_mut) → sector_number c.self.inside.bounds c.args.p < length c.self.inside.sectors.items
    → HasRoom (sector_cells c.self.inside.bounds) c.index_mut.result.now
has_room c low =
    let v = c.self.inside.bounds in
    subst (HasRoom (sector_cells v)) (sym (read c low)) (c.self.invariant.each (sector_number v c.args.p))

pub clear_in-requires : goal.clear_in-requires
clear_in-requires c =
    let at = goal.at.clear_in-requires c in
    room_for (sector_cells c.self.inside.bounds) c.index_in_sector.result c.index_mut.result.now
    (has_room at.After-index_mut (near at.After-sector_holding-number)) c.index_in_sector.ensures.within

pub invariant_of-self : goal.invariant_of-self
invariant_of-self c =
    let at = goal.at.invariant_of-self c in
    let v = c.self.inside.bounds in
    let items = c.self.inside.sectors.items in
    let low = near at.After-sector_holding-number in
    let number = c.sector_holding-number.ensures in
    still_places v items c.sector_holding-number.result c.clear_in.new.sector c.self.invariant (omega (arith, number, low))
    (c.clear_in.ensures.room (sector_cells v) (has_room at.After-index_mut low))

pub returns-clause-forgotten : goal.returns-clause-forgotten
returns-clause-forgotten c =
    let at = goal.at.returns-clause-forgotten c in
    let b = at.After-sector_holding-number in
    let v = c.self.inside.bounds in
    let items = c.self.inside.sectors.items in
    let new = c.clear_in.new.sector in
    rw (← c.self.view_is)
    (subst (λ k. (q : Pos) → is_at (record { sizes = v; marks = set items k new }) q
    ≡ (is_at (record { sizes = v; marks = items }) q && not (nat_eq (steps_between c.args.p q) 0)))
    (sym c.sector_holding-number.ensures)
    (place_cleared v c.self.invariant.valid items c.args.p new (inside b) (near b)
    (λ i. c.clear_in.ensures.cleared i
    ∙ (λ t. marked_in (read at.After-index_mut (near b) t) i && not (nat_eq i (c.index_in_sector.ensures.value t))))))
