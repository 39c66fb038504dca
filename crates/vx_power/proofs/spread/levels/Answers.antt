use Rattle.std.proofs.Common.{◌≡◌, ℕ, sym, ap, ◌∙◌, subst}
use Rattle.std.proofs.lemmas.Result.{IfOk-weaker}
use Rattle.vx_cells.specs.Maps.{MapData, cell_on}
use Rattle.vx_geom.specs.declared.pos.Pos.{Pos}
use Rattle.vx_geom.specs.Places.{first_near, end_near}
use Rattle.vx_power.specs.declared.columns.Columns.{Columns}
use Rattle.vx_power.specs.Levels.{columns_around, is_in, level_in, AreLevels}
use Rattle.vx_power.specs.Spreading.{FeedAll, level_within}
use Rattle.vx_power.proofs.Carried.{told_near}
use Rattle.vx_power.proofs.Feeding.{near_feed}
use Rattle.vx_power.proofs.spread.levels.Goals as goal

-- the same of other names
feed_as : (m : MapData) (a b : Columns) (f g e h : ℕ) → b ≡ a → g ≡ f → h ≡ e
    → FeedAll m (is_in b) g h → FeedAll m (is_in a) f e
feed_as m a b f g e h columns first end fed =
    subst (λ e. FeedAll m (is_in a) f e) end
    (subst (λ f. FeedAll m (is_in a) f h) first (subst (λ a. FeedAll m (is_in a) g h) columns fed))

pub levels_in-requires-clause-fed : goal.levels_in-requires-clause-fed
levels_in-requires-clause-fed c =
    let m = c.args.map.now in
    let k = c.args.sector in
    feed_as m c.around-columns.result (columns_around m.sizes k 16)
    c.first_near.result (first_near m.sizes k) c.end_near.result (end_near m.sizes k)
    (sym (c.around-columns.ensures ∙ ap (λ v. columns_around v k 16) c.bounds-bounds.ensures))
    (sym (c.first_near.ensures.value ∙ ap (λ v. first_near v k) c.bounds-bounds.ensures))
    (sym (c.end_near.ensures.value ∙ ap (λ v. end_near v k) c.bounds-bounds.ensures))
    (near_feed m c.soundness.ensures k)

pub returns : goal.returns
returns c =
    let m = c.args.map.now in
    let k = c.args.sector in
    let columns : c.around-columns.result ≡ columns_around m.sizes k 16 =
    c.around-columns.ensures ∙ ap (λ v. columns_around v k 16) c.bounds-bounds.ensures in
    IfOk-weaker c.levels_in.result
    (λ levels. (p : Pos) → level_in levels p ≡ level_within (cell_on m) (is_in c.around-columns.result) p)
    (λ levels. AreLevels m k (level_in levels))
    (λ levels known. told_near m k (level_in levels) (λ p. known p ∙ ap (λ a. level_within (cell_on m) (is_in a) p) columns))
    c.levels_in.ensures
