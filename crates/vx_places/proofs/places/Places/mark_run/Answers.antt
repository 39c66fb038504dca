use Rattle.std.proofs.Common.{◌≡◌, ap, subst, sym, ◌∙◌, arith}
use Rattle.std.proofs.lemmas.Int.{ints}
use Rattle.std.proofs.lemmas.Result.{on_ok_weaker}
use Rattle.vx_geom.specs.Sizes.{is_inside, sector_number, index_in_sector}
use Rattle.vx_cells.specs.Listed.{place, AreInRow}
use Rattle.vx_cells.proofs.Rows.{bits_in_row, in_word, low_inside, place_is}
use Rattle.vx_places.specs.Areas.{marked_by}
use Rattle.vx_places.specs.Around.{Adds, is_in_run}
use Rattle.vx_places.specs.Places.{in_run_from}
use Rattle.vx_places.proofs.Adding.{adds_same, adds_none}
use Rattle.vx_places.proofs.Runs.{row_run, none_run}
use Rattle.vx_places.proofs.places.Places.mark_run.Goals as goal
use Rattle.vx_places.proofs.places.Places.mark_run.Goals.{After-new-p, After-run-bits}

pub overflow_cast-x : goal.overflow_cast-x
overflow_cast-x c = omega (arith, ints, (low_inside _ _ _ _ c.soundness.ensures c.requires.inside).0)

pub overflow_cast-y : goal.overflow_cast-y
overflow_cast-y c = omega (arith, ints, (low_inside _ _ _ _ c.soundness.ensures c.requires.inside).1)

pub overflow_cast-z : goal.overflow_cast-z
overflow_cast-z c = omega (arith, ints, (low_inside _ _ _ _ c.soundness.ensures c.requires.inside).2)

-- the position of the first column
first : (c : After-new-p) → c.new-p.result ≡ place c.args.x c.args.y c.args.z
first c =
    let low = low_inside _ _ _ _ c.soundness.ensures c.requires.inside in
    place_is c.args.x c.args.y c.args.z c.new-p.result low.0 low.1 low.2 c.new-p.ensures

pub index_in_sector-requires : goal.index_in_sector-requires
index_in_sector-requires c =
    ap (is_inside c.args.bounds) (first (goal.at.index_in_sector-requires c).After-new-p) ∙ c.requires.held

pub run-bits-requires-clause-within : goal.run-bits-requires-clause-within
run-bits-requires-clause-within c =
    let v = c.args.bounds in
    let b = (goal.at.run-bits-requires-clause-within c).After-new-p in
    let word = in_word v c.soundness-2.ensures c.args.x c.args.y c.args.z c.args.length c.index_in_sector.result
    (c.index_in_sector.ensures.value ∙ ap (index_in_sector v) (first b)) c.requires.there in
    omega (arith, word)

-- the bits tell which of the columns have marks
row : (c : After-run-bits) → c.new-p.result ≡ place c.args.x c.args.y c.args.z
    → AreInRow (marked_by c.args.page.now c.args.bounds) c.args.x c.args.y c.args.z c.args.length c.run-bits.result
row c is =
    let v = c.args.bounds in
    bits_in_row v c.soundness-2.ensures c.args.page.now c.args.x c.args.y c.args.z c.args.length c.index_in_sector.result
    c.run-bits.result (c.index_in_sector.ensures.value ∙ ap (index_in_sector v) is) c.requires.there c.run-bits.ensures

pub returns-then-bits-eq0-clause-marked : goal.returns-then-bits-eq0-clause-marked
returns-then-bits-eq0-clause-marked c =
    let at = goal.at.returns-then-bits-eq0-clause-marked c in
    let such = marked_by c.args.page.now c.args.bounds in
    let v = c.args.self.now.sizes in
    adds_none (is_in_run such c.args.x c.args.y c.args.z c.args.length) c.args.self.now
    (none_run such v c.soundness.ensures c.args.x c.args.y c.args.z c.args.length c.requires.inside c.requires.here
    (subst (AreInRow such c.args.x c.args.y c.args.z c.args.length) c.if-bits-eq0.true (row at.After-run-bits (first at.After-new-p))))

pub mark_from-requires-clause-inside : goal.mark_from-requires-clause-inside
mark_from-requires-clause-inside c =
    ap (is_inside c.args.self.now.sizes) (first (goal.at.mark_from-requires-clause-inside c).After-new-p) ∙ c.requires.inside

pub mark_from-requires-clause-number : goal.mark_from-requires-clause-number
mark_from-requires-clause-number c =
    c.requires.number ∙ ap (sector_number c.args.self.now.sizes) (sym (first (goal.at.mark_from-requires-clause-number c).After-new-p))

pub returns-clause-marked : goal.returns-clause-marked
returns-clause-marked c =
    let at = goal.at.returns-clause-marked c in
    let such = marked_by c.args.page.now c.args.bounds in
    let v = c.args.self.now.sizes in
    let old = c.args.self.now in
    let new = c.mark_from.new.self in
    let x = c.args.x in
    let y = c.args.y in
    let z = c.args.z in
    let n = c.args.length in
    let bits = c.run-bits.result in
    on_ok_weaker c.mark_from.result
    (λ added. adds_same (in_run_from v (place x y z) bits) (is_in_run such x y z n) old new
    (subst (λ p. Adds (in_run_from v p bits) old new) (first at.After-new-p) added)
    (row_run such v c.soundness.ensures x y z n c.requires.inside c.requires.here bits (row at.After-run-bits (first at.After-new-p))))
    c.mark_from.ensures.marked
