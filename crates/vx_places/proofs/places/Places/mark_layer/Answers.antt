use Rattle.std.proofs.Common.{ℕ, List, Bool, ◌≡◌, ◌+◌, ◌-◌, ◌<◌, true, max, FitsSigned, Some, pos, ◌-ℤ◌, unsigned_abs, ap, sym, subst, ◌∙◌, arith, rules}
use Rattle.std.specs.Int.{w32}
use Rattle.std.specs.Option.{option_copied}
use Rattle.std.proofs.lemmas.Int.{to_z-of_z}
use Rattle.vx_geom.specs.declared.pos.Pos.{Pos}
use Rattle.vx_geom.specs.Sizes.{Sizes, AreSizes, is_inside}
use Rattle.vx_geom.proofs.SectorLemmas.{inside_at}
use Rattle.vx_cells.specs.Listed.{place, AreInLayer}
use Rattle.vx_cells.specs.SectorCells.{holds, cell_at}
use Rattle.vx_store.specs.MachineMarks.{is_of}
use Rattle.vx_places.specs.Areas.{IsColumnOf, IsPart, IsSector, in_area, marked_by}
use Rattle.vx_places.specs.Around.{is_such_around, at_number, layer_of, row_of, column_of, least_within, end_within}
use Rattle.vx_places.proofs.Adding.{adds_same, adds_none, none_below, one_number, all_numbers}
use Rattle.vx_places.proofs.Areas.{area_held}
use Rattle.vx_places.proofs.Near.{row_in_area, none_in_layer, same_in_layer, place_of, end_most, between_near}
use Rattle.vx_places.proofs.places.Places.mark_layer.Goals as goal
use Rattle.vx_places.proofs.places.Places.mark_layer.Goals.{After-marks_in_layer, In-Some, After-end_within-z-end}

-- a position of the layer of the area, and that the sector has it
place_is : (c : After-marks_in_layer) (q : Pos) → is_inside c.args.self.now.sizes q ≡ true → layer_of q ≡ c.args.y
    → q ≡ place (column_of q) c.args.y (row_of q)
place_is c q inside layer = place_of c.args.self.now.sizes q inside ∙ ap (λ y. place (column_of q) y (row_of q)) layer

is_held : (c : After-marks_in_layer) (q : Pos) → is_inside c.args.self.now.sizes q ≡ true
    → IsColumnOf c.args.area (column_of q) (row_of q) → layer_of q ≡ c.args.y → holds c.args.cells.now q ≡ true
is_held c q inside of layer =
    let size = c.requires.size in
    ap (holds c.args.cells.now) (place_is c q inside layer)
    ∙ area_held c.args.cells.now (subst AreSizes size c.soundness-2.ensures) c.args.area
    (subst (λ v. IsPart v c.args.area) size c.requires.there)
    (subst (λ v. IsSector v c.args.area c.args.cells.now.sector) size c.requires.sector) (column_of q) c.args.y (row_of q) of
    (subst (λ (v : Sizes). c.args.y < v.h) size c.requires.held)

layer_is : (c : After-marks_in_layer) (q : Pos) → is_inside c.args.self.now.sizes q ≡ true → layer_of q ≡ c.args.y
    → q.y ≡ pos c.args.y
layer_is c q inside layer = (inside_at c.args.self.now.sizes q inside).y_is ∙ ap pos layer

-- whether a component stands there
abbrev stands : After-marks_in_layer → Pos → Bool
stands c q = is_of c.args.kind (cell_at c.args.cells.now q)

pub returns-in_default-clause-marked : goal.returns-in_default-clause-marked
returns-in_default-clause-marked c =
    let b = (goal.at.returns-in_default-clause-marked c).After-marks_in_layer in
    let none = subst (AreInLayer (stands b) c.args.cells.now c.args.y) (ap option_copied c.in_default.is) c.marks_in_layer.ensures in
    adds_none _ c.args.self.now
    (λ q inside. none_in_layer (stands b) c.args.self.now.sizes c.args.p c.args.steps q inside c.args.area c.args.y
    (λ of layer. none q (is_held b q inside of layer) (layer_is b q inside layer)))

-- which the marks of the page tell
told : (c : After-marks_in_layer) (page : List ℕ) → AreInLayer (stands c) c.args.cells.now c.args.y (Some page)
    → (q : Pos) → is_inside c.args.self.now.sizes q ≡ true → IsColumnOf c.args.area (column_of q) (row_of q) → layer_of q ≡ c.args.y
    → marked_by page c.args.bounds q ≡ stands c q
told c page are q inside of layer =
    ap (λ v. marked_by page v q) c.requires.size ∙ sym (are q (is_held c q inside of layer) (layer_is c q inside layer))

pub returns-then-not-may_have_marks-clause-marked : goal.returns-then-not-may_have_marks-clause-marked
returns-then-not-may_have_marks-clause-marked c =
    let b = (goal.at.returns-then-not-may_have_marks-clause-marked c).After-marks_in_layer in
    let page = c.in-Some.page.now in
    let are = subst (AreInLayer (stands b) c.args.cells.now c.args.y) (ap option_copied c.in-Some.is) c.marks_in_layer.ensures in
    adds_none _ c.args.self.now
    (λ q inside. none_in_layer (stands b) c.args.self.now.sizes c.args.p c.args.steps q inside c.args.area c.args.y
    (λ of layer. sym (told b page are q inside of layer)
    ∙ ap (marked_by page c.args.bounds) (place_is b q inside layer)
    ∙ c.may_have_marks.ensures c.if-not-may_have_marks.true (column_of q) (row_of q) of))

-- how many steps are left in the layer
abbrev left : After-end_within-z-end → ℕ
left c = c.args.steps - c.steps_along.result

rest : (c : After-end_within-z-end) → left c + unsigned_abs (c.args.p.y -ℤ pos c.args.y) ≡ c.args.steps
rest c =
    let in_y : FitsSigned w32 c.args.p.y = search rules in
    let along = c.steps_along.ensures
    ∙ ap (λ n. unsigned_abs (n -ℤ pos c.args.y)) (to_z-of_z w32 c.args.p.y in_y) in
    omega (arith, along, c.requires.near)

-- the first of its rows, and their end
first : (c : After-end_within-z-end)
    → c.max-first.result ≡ max (least_within c.args.p.z (left c) c.args.area.south) c.args.area.north
first c =
    let in_z : FitsSigned w32 c.args.p.z = search rules in
    let least = c.least_within.ensures ∙ ap (λ n. least_within n (left c) c.args.area.south) (to_z-of_z w32 c.args.p.z in_z) in
    omega (arith, c.max-first.ensures, least)

end : (c : After-end_within-z-end) → c.end_within-z-end.result ≡ end_within c.args.p.z (left c) c.args.area.south
end c =
    let in_z : FitsSigned w32 c.args.p.z = search rules in
    c.end_within-z-end.ensures ∙ ap (λ n. end_within n (left c) c.args.area.south) (to_z-of_z w32 c.args.p.z in_z)

-- the test by which positions of the layer are added
abbrev in_page : After-end_within-z-end → Pos → Bool
in_page c = marked_by c.in-Some.page.now c.args.bounds

abbrev layer : After-end_within-z-end → Pos → Bool
layer c = at_number layer_of (in_area (is_such_around (in_page c) c.args.p c.args.steps) c.args.area) c.args.y

pub loop-z-init : goal.loop-z-init
loop-z-init c =
    let b = (goal.at.loop-z-init c).After-end_within-z-end in
    none_below row_of (layer b) c.args.self.now c.max-first.result
    (λ q inside near. omega (
      arith,
      first b,
      (row_in_area (in_page b) c.args.self.now.sizes c.args.p c.args.steps q inside c.args.area c.args.y (left b) (rest b) near).0,
    ))

pub mark_row-requires-clause-near : goal.mark_row-requires-clause-near
mark_row-requires-clause-near c =
    let b = (goal.at.mark_row-requires-clause-near c).After-end_within-z-end in
    let near = between_near c.args.p.z (left b) c.args.area.south c.loop-z.z
    (omega (arith, c.loop-z.auto.z, first b)) (omega (arith, c.loop-z-test.true, end b)) in
    omega (arith, near, rest b)

pub mark_row-requires-clause-south : goal.mark_row-requires-clause-south
mark_row-requires-clause-south c =
    let b = (goal.at.mark_row-requires-clause-south c).After-end_within-z-end in
    omega (arith, c.loop-z-test.true, end b, end_most c.args.p.z (left b) c.args.area.south)

pub loop-z-preserved : goal.loop-z-preserved
loop-z-preserved c =
    let b = (goal.at.loop-z-preserved c).After-end_within-z-end in
    one_number row_of (layer b) c.args.self.now c.loop-z.z c.loop-z.self c.mark_row.new.self c.loop-z.invariant
    c.in_ok-mark_row.ensures.marked

pub returns-clause-marked : goal.returns-clause-marked
returns-clause-marked c =
    let at = goal.at.returns-clause-marked c in
    let b = at.After-end_within-z-end in
    let found = at.After-marks_in_layer in
    let v = c.args.self.now.sizes in
    let are = subst (AreInLayer (stands found) c.args.cells.now c.args.y) (ap option_copied c.in-Some.is) c.marks_in_layer.ensures in
    adds_same (layer b) _ c.args.self.now c.loop-z.self
    (all_numbers row_of (layer b) c.args.self.now c.loop-z.z c.loop-z.self c.loop-z.invariant
    (λ q inside near. omega (
      arith,
      end b,
      c.loop-z-test.false,
      (row_in_area (in_page b) v c.args.p c.args.steps q inside c.args.area c.args.y (left b) (rest b) near).1,
    )))
    (λ q inside. same_in_layer v c.args.p c.args.steps q inside c.args.area c.args.y (in_page b) (stands found)
    (told found c.in-Some.page.now are q inside))
