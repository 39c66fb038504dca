use Rattle.std.proofs.Common.{◌≡◌, sym, ap, ◌∙◌, subst}
use Rattle.std.proofs.lemmas.Result.{IfOk-weaker}
use Rattle.vx_cells.specs.Maps.{cell_on}
use Rattle.vx_geom.specs.declared.pos.Pos.{Pos}
use Rattle.vx_geom.specs.Sizes.{sector_count}
use Rattle.vx_power.specs.Levels.{everywhere, is_in, level_in, AreAllLevels}
use Rattle.vx_power.specs.Spreading.{FeedAll, level_within}
use Rattle.vx_power.proofs.Carried.{told_all}
use Rattle.vx_power.proofs.Feeding.{all_feed}
use Rattle.vx_power.proofs.spread.all_levels.Goals as goal

pub levels_in-requires-clause-fed : goal.levels_in-requires-clause-fed
levels_in-requires-clause-fed c =
    let m = c.args.map.now in
    subst (λ end. FeedAll m (is_in everywhere) 0 end) (sym (c.sectors.ensures ∙ ap sector_count c.bounds.ensures))
    (all_feed m c.soundness.ensures)

pub returns : goal.returns
returns c =
    let m = c.args.map.now in
    IfOk-weaker c.levels_in.result
    (λ levels. (p : Pos) → level_in levels p ≡ level_within (cell_on m) (is_in everywhere) p)
    (λ levels. AreAllLevels m (level_in levels))
    (λ levels known. told_all m c.soundness.ensures.valid (level_in levels) known)
    c.levels_in.ensures
