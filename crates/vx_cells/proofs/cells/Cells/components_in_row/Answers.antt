use Rattle.std.proofs.Common.{◌≡◌, ℕ, ◌+◌, ◌<◌, true, ◌&&◌, nat_lt, inl, inr, refl, ap, sym, subst, ◌∙◌, arith}
use Rattle.std.specs.Option.{option_copied}
use Rattle.std.proofs.lemmas.Bool.{and_left, and_right, cases_lt, le-ltb}
use Rattle.std.proofs.lemmas.Int.{ints}
use Rattle.vx_block.specs.Components.{is_component}
use Rattle.vx_geom.specs.Sizes.{AreSizes, is_inside, index_in_sector}
use Rattle.vx_geom.proofs.SectorLemmas.{inside_at}
use Rattle.vx_marks.proofs.WordBits.{unset}
use Rattle.vx_cells.specs.Listed.{place, AreInLayer}
use Rattle.vx_cells.specs.SectorCells.{holds, cell_at}
use Rattle.vx_cells.proofs.Indices.{inside_from_holds, numbered, same_held}
use Rattle.vx_cells.proofs.Rows.{bits_in_row, column_held, in_word, low_inside, place_is}
use Rattle.vx_cells.proofs.cells.Cells.components_in_row.Goals as goal
use Rattle.vx_cells.proofs.cells.Cells.components_in_row.Goals.{After-soundness, After-new-p}

sizes : (c : After-soundness) → AreSizes c.args.self.now.bounds
sizes c = subst AreSizes c.bounds-bounds.ensures c.soundness.ensures

inside : (c : After-soundness) → is_inside c.args.self.now.bounds (place c.args.x c.args.y c.args.z) ≡ true
inside c = inside_from_holds c.args.self.now (place c.args.x c.args.y c.args.z) c.requires.here

low : (c : After-soundness) → (c.args.x < 512) × (c.args.y < 512) × (c.args.z < 512)
low c = low_inside c.args.self.now.bounds c.args.x c.args.y c.args.z (sizes c) (inside c)

-- the sector holds each of the columns
held : (c : After-soundness) (k : ℕ) → k < c.args.count → holds c.args.self.now (place (c.args.x + k) c.args.y c.args.z) ≡ true
held c k less =
    let v = c.args.self.now.bounds in
    same_held c.args.self.now (place c.args.x c.args.y c.args.z) (place (c.args.x + k) c.args.y c.args.z)
    (column_held v (sizes c) c.args.x c.args.y c.args.z c.args.count (inside c) c.requires.within k less
    ∙ sym (numbered v (place c.args.x c.args.y c.args.z) (inside c))) c.requires.here

pub marks_in_layer-requires : goal.marks_in_layer-requires
marks_in_layer-requires c =
    let b = (goal.at.marks_in_layer-requires c).After-soundness in
    let at = inside_at c.args.self.now.bounds (place c.args.x c.args.y c.args.z) (inside b) in
    omega (arith, at.y_below, (sizes b).h_most)

pub returns-in_default : goal.returns-in_default
returns-in_default c k =
    let b = (goal.at.returns-in_default c).After-soundness in
    let none = subst (AreInLayer (λ p. is_component (cell_at c.args.self.now p)) c.args.self.now c.args.y)
    (ap option_copied c.in_default.is) c.marks_in_layer.ensures in
    unset k ∙ elim (cases_lt k c.args.count) [
      | inl less ↦ sym (and_right (nat_lt k c.args.count) _ (none (place (c.args.x + k) c.args.y c.args.z) (held b k less) refl))
      | inr past ↦ sym (and_left _ _ (le-ltb k c.args.count past))
    ]

pub overflow_cast-x : goal.overflow_cast-x
overflow_cast-x c = omega (arith, ints, (low (goal.at.overflow_cast-x c).After-soundness).0)

pub overflow_cast-y : goal.overflow_cast-y
overflow_cast-y c = omega (arith, ints, (low (goal.at.overflow_cast-y c).After-soundness).1)

pub overflow_cast-z : goal.overflow_cast-z
overflow_cast-z c = omega (arith, ints, (low (goal.at.overflow_cast-z c).After-soundness).2)

-- the position of the first column
first : (c : After-new-p) → (c.args.x < 512) × (c.args.y < 512) × (c.args.z < 512)
    → c.new-p.result ≡ place c.args.x c.args.y c.args.z
first c small =
    place_is c.args.x c.args.y c.args.z c.new-p.result small.0 small.1 small.2 c.new-p.ensures

pub index_in_sector-requires : goal.index_in_sector-requires
index_in_sector-requires c =
    let at = goal.at.index_in_sector-requires c in
    let is = first at.After-new-p (low at.After-soundness) in
    (λ i. is_inside (c.bounds-bounds.ensures i) (is i)) ∙ inside at.After-soundness

pub run-requires-clause-within : goal.run-requires-clause-within
run-requires-clause-within c =
    let at = goal.at.run-requires-clause-within c in
    let is = first at.After-new-p (low at.After-soundness) in
    let v = c.args.self.now.bounds in
    let word = in_word v (sizes at.After-soundness) c.args.x c.args.y c.args.z c.args.count c.index_in_sector.result
    (c.index_in_sector.ensures.value ∙ (λ i. index_in_sector (c.bounds-bounds.ensures i) (is i))) c.requires.within in
    omega (arith, word)

pub returns : goal.returns
returns c k =
    let b = (goal.at.returns c).After-soundness in
    let is = first (goal.at.returns c).After-new-p (low b) in
    let v = c.args.self.now.bounds in
    let at = place (c.args.x + k) c.args.y c.args.z in
    let page = c.in-Some.page.now in
    let are = subst (AreInLayer (λ p. is_component (cell_at c.args.self.now p)) c.args.self.now c.args.y)
    (ap option_copied c.in-Some.is) c.marks_in_layer.ensures in
    bits_in_row v (sizes b) page c.args.x c.args.y c.args.z c.args.count c.index_in_sector.result c.run.result
    (c.index_in_sector.ensures.value ∙ (λ i. index_in_sector (c.bounds-bounds.ensures i) (is i))) c.requires.within c.run.ensures k
    ∙ elim (cases_lt k c.args.count) [
      | inl less ↦ ap (λ s. nat_lt k c.args.count && s) (sym (are at (held b k less) refl))
      | inr past ↦ let none = le-ltb k c.args.count past in and_left _ _ none ∙ sym (and_left _ _ none)
    ]
