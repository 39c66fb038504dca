use Rattle.std.proofs.Common.{◌≡◌, nat_eq, ap, sym, ◌∙◌}
use Rattle.std.proofs.lemmas.Result.{on_ok_weaker}
use Rattle.vx_geom.specs.Sizes.{is_inside}
use Rattle.vx_places.specs.Places.{in_run_from, steps_between}
use Rattle.vx_places.proofs.Adding.{adds_same}
use Rattle.vx_places.proofs.Marked.{outside_marked, place_run}
use Rattle.vx_places.proofs.places.Places.mark.Goals as goal
use Rattle.vx_places.proofs.places.Places.mark.Goals.{After-inside}

-- whether the position is of the world
inside_is : (c : After-inside) → c.inside.result ≡ is_inside c.args.self.now.sizes c.args.p
inside_is c = c.inside.ensures ∙ ap (λ v. is_inside v c.args.p) c.bounds-bounds.ensures

pub returns-then-inside-clause-marked : goal.returns-then-inside-clause-marked
returns-then-inside-clause-marked c =
    let b = (goal.at.returns-then-inside-clause-marked c).After-inside in
    let v = c.args.self.now.sizes in
    let inside = sym (inside_is b) ∙ c.if-inside.true in
    on_ok_weaker c.mark_from.result
    (λ added. (adds_same (in_run_from v c.args.p 1) (λ q. nat_eq (steps_between c.args.p q) 0) c.args.self.now c.mark_from.new.self
    added (place_run v c.args.p c.soundness.ensures inside)).marked)
    c.mark_from.ensures.marked

pub returns-else-inside-clause-marked : goal.returns-else-inside-clause-marked
returns-else-inside-clause-marked c q =
    let b = (goal.at.returns-else-inside-clause-marked c).After-inside in
    outside_marked c.args.self.now.sizes c.args.p (sym (inside_is b) ∙ c.if-inside.false) q _
