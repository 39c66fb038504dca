use Rattle.std.proofs.Common.{ℕ, ◌≡◌, ◌+◌, ◌-◌, ◌<◌, ◌≤◌, max, FitsSigned, pos, ◌-ℤ◌, unsigned_abs, ap, sym, ◌∙◌, arith, rules}
use Rattle.std.specs.Int.{w32}
use Rattle.std.proofs.lemmas.Int.{to_z-of_z}
use Rattle.std.proofs.lemmas.Result.{on_ok_weaker}
use Rattle.vx_places.specs.Areas.{IsColumnOf, marked_by}
use Rattle.vx_places.specs.Around.{is_in_run, least_within, end_within}
use Rattle.vx_places.proofs.Adding.{adds_same, adds_none}
use Rattle.vx_places.proofs.Areas.{area_inside, same_sector, run_within}
use Rattle.vx_places.proofs.Near.{end_most, none_in_row, run_in_area}
use Rattle.vx_places.proofs.places.Places.mark_row.Goals as goal
use Rattle.vx_places.proofs.places.Places.mark_row.Goals.{After-end_within-end}

-- how many steps are left in the row
abbrev left : After-end_within-end → ℕ
left c = c.args.steps - c.steps_along.result - c.steps_along-2.result

rest : (c : After-end_within-end) → left c
    + (unsigned_abs (c.args.p.y -ℤ pos c.args.y) + unsigned_abs (c.args.p.z -ℤ pos c.args.z)) ≡ c.args.steps
rest c =
    let p = c.args.p in
    let in_y : FitsSigned w32 p.y = search rules in
    let in_z : FitsSigned w32 p.z = search rules in
    let along_y = c.steps_along.ensures ∙ ap (λ n. unsigned_abs (n -ℤ pos c.args.y)) (to_z-of_z w32 p.y in_y) in
    let along_z = c.steps_along-2.ensures ∙ ap (λ n. unsigned_abs (n -ℤ pos c.args.z)) (to_z-of_z w32 p.z in_z) in
    omega (arith, along_y, along_z, c.requires.near)

-- the first of its columns, and their end
first : (c : After-end_within-end)
    → c.max-first.result ≡ max (least_within c.args.p.x (left c) c.args.area.east) c.args.area.west
first c =
    let in_x : FitsSigned w32 c.args.p.x = search rules in
    let least = c.least_within.ensures ∙ ap (λ n. least_within n (left c) c.args.area.east) (to_z-of_z w32 c.args.p.x in_x) in
    omega (arith, c.max-first.ensures, least)

end : (c : After-end_within-end) → c.end_within-end.result ≡ end_within c.args.p.x (left c) c.args.area.east
end c =
    let in_x : FitsSigned w32 c.args.p.x = search rules in
    c.end_within-end.ensures ∙ ap (λ n. end_within n (left c) c.args.area.east) (to_z-of_z w32 c.args.p.x in_x)

most : (c : After-end_within-end) → c.end_within-end.result ≤ c.args.area.east
most c = omega (arith, end c, end_most c.args.p.x (left c) c.args.area.east)

of : (c : After-end_within-end) → c.max-first.result < c.end_within-end.result → IsColumnOf c.args.area c.max-first.result c.args.z
of c some = record {
  west = omega (arith, first c);
  east = omega (arith, most c, some);
  north = c.requires.north;
  south = c.requires.south;
}

pub returns-then-end-first-clause-marked : goal.returns-then-end-first-clause-marked
returns-then-end-first-clause-marked c =
    let b = (goal.at.returns-then-end-first-clause-marked c).After-end_within-end in
    let area = c.args.area in
    adds_none _ c.args.self.now
    (λ q inside. none_in_row (marked_by c.args.page.now c.args.bounds) c.args.self.now.sizes c.args.p c.args.steps q inside area
    c.args.y c.args.z (left b) (rest b) (omega (arith, first b, end b, c.if-end-first.true)))

pub mark_run-requires-clause-inside : goal.mark_run-requires-clause-inside
mark_run-requires-clause-inside c =
    let b = (goal.at.mark_run-requires-clause-inside c).After-end_within-end in
    area_inside c.args.self.now.sizes c.soundness.ensures c.args.area c.requires.here c.max-first.result c.args.y c.args.z
    (of b c.if-end-first.false) c.requires.low

pub mark_run-requires-clause-here : goal.mark_run-requires-clause-here
mark_run-requires-clause-here c =
    let b = (goal.at.mark_run-requires-clause-here c).After-end_within-end in
    run_within c.args.self.now.sizes c.soundness.ensures c.args.area c.requires.here.one c.max-first.result c.args.z
    (of b c.if-end-first.false) (c.end_within-end.result - c.max-first.result) (omega (arith, most b, c.if-end-first.false))

pub mark_run-requires-clause-number : goal.mark_run-requires-clause-number
mark_run-requires-clause-number c =
    let b = (goal.at.mark_run-requires-clause-number c).After-end_within-end in
    c.requires.number
    ∙ sym (same_sector c.args.self.now.sizes c.soundness.ensures c.args.area c.requires.here.one c.max-first.result c.args.z
    (of b c.if-end-first.false) c.args.y)

pub mark_run-requires-clause-held : goal.mark_run-requires-clause-held
mark_run-requires-clause-held c =
    let b = (goal.at.mark_run-requires-clause-held c).After-end_within-end in
    area_inside c.args.bounds c.soundness-2.ensures c.args.area c.requires.there c.max-first.result c.args.y c.args.z
    (of b c.if-end-first.false) c.requires.held

pub mark_run-requires-clause-there : goal.mark_run-requires-clause-there
mark_run-requires-clause-there c =
    let b = (goal.at.mark_run-requires-clause-there c).After-end_within-end in
    run_within c.args.bounds c.soundness-2.ensures c.args.area c.requires.there.one c.max-first.result c.args.z
    (of b c.if-end-first.false) (c.end_within-end.result - c.max-first.result) (omega (arith, most b, c.if-end-first.false))

pub returns-clause-marked : goal.returns-clause-marked
returns-clause-marked c =
    let b = (goal.at.returns-clause-marked c).After-end_within-end in
    let such = marked_by c.args.page.now c.args.bounds in
    let length = c.end_within-end.result - c.max-first.result in
    on_ok_weaker c.mark_run.result
    (λ added. adds_same (is_in_run such c.max-first.result c.args.y c.args.z length) _ c.args.self.now c.mark_run.new.self added
    (λ q inside.
    (λ i. is_in_run such (first b i) c.args.y c.args.z (end b i - first b i) q)
    ∙ run_in_area such c.args.self.now.sizes c.args.p c.args.steps q inside c.args.area c.args.y c.args.z (left b) (rest b)
    c.requires.north c.requires.south (omega (arith, first b, end b, c.if-end-first.false))))
    c.mark_run.ensures.marked
