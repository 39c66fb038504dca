use Rattle.std.proofs.Common.{[], ap, ◌∙◌, subst}
use Rattle.std.proofs.lemmas.Result.{on_ok_weaker}
use Rattle.vx_cells.specs.Maps.{cell_on}
use Rattle.vx_power.specs.Spreading.{SpreadData, Reaches, linked_to}
use Rattle.vx_power.proofs.Reaching.{reaches_same}
use Rattle.vx_power.proofs.spread.Spread.go_on.Goals as goal

pub returns : goal.returns
returns g c =
    let w = cell_on c.args.map.now in
    let i = c.self.inside in
    let s : SpreadData = record { table = i.levels; reached = i.reached.items } in
    let none = ap (λ v. v.items) c.replace-from.ensures.after ∙ c.new.ensures.items in
    let from = c.as_slice.ensures.value ∙ ap (λ v. v.items) c.replace-from.ensures.value in
    on_ok_weaker c.reach_all_links.result
    (λ reaches. subst (λ (old : SpreadData). Reaches (g.R.Region.holds c.args.region.now) c.args.level
    (record old { reached = [] }) c.reach_all_links.new.self (linked_to w old.reached)) c.self.view_is
    (reaches_same (ap (λ ps. record s { reached = ps }) none) (ap (linked_to w) from) reaches))
    c.reach_all_links.ensures
