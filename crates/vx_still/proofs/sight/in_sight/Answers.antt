use Rattle.std.proofs.Common.{◌≡◌, ◌&&◌, ◌||◌, nat_eq, ◌∙◌}
use Rattle.std.specs.List.{list_any}
use Rattle.std.proofs.lemmas.Result.{IfOk-weaker}
use Rattle.vx_geom.specs.declared.pos.Pos.{Pos}
use Rattle.vx_geom.specs.Sizes.{is_inside}
use Rattle.vx_cells.specs.Maps.{cell_on}
use Rattle.vx_places.specs.Around.{is_kind_around}
use Rattle.vx_places.specs.Places.{is_at, steps_between}
use Rattle.vx_power.specs.Levels.{has}
use Rattle.vx_store.specs.declared.mark_kind.MarkKind.TheVariants.{Component}
use Rattle.vx_still.proofs.Looking.{same_listed}
use Rattle.vx_still.proofs.sight.in_sight.Goals as goal

pub returns : goal.returns
returns c =
    let none = c.new-places.ensures.none in
    let sizes = c.new-places.ensures.sizes ∙ c.bounds.ensures in
    IfOk-weaker c.all.result
    (λ seen. (p : Pos) → list_any (λ q. nat_eq (steps_between q p) 0) seen.items
    ≡ is_at c.mark_around_all.new.places p)
    (λ seen. (p : Pos) → has seen.items p
    ≡ (is_inside c.args.map.now.sizes p
    && list_any (λ d. is_kind_around Component (cell_on c.args.map.now) d 2 p) c.args.changed.now))
    (λ seen known p.
    same_listed seen.items p ∙ known p ∙ c.in_ok-mark_around_all.ensures.marked p
    ∙ (λ i. none p i || (is_inside (sizes i) p
    && list_any (λ d. is_kind_around Component (cell_on c.args.map.now) d 2 p) c.args.changed.now)))
    c.all.ensures
