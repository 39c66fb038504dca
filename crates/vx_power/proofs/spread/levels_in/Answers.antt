use Rattle.std.proofs.Common.{◌≡◌, suc, ◌+◌, ◌-◌, ◌≤◌, [], sym, subst, arith}
use Rattle.vx_geom.specs.declared.pos.Pos.{Pos}
use Rattle.vx_cells.specs.Maps.{cell_on}
use Rattle.vx_power.specs.Levels.{is_in, level_in}
use Rattle.vx_power.specs.Spreading.{SpreadData, Reaches, IsSpread, fed_by_sectors, fed_in, links_in, linked_to, level_within}
use Rattle.vx_power.proofs.Feeding.{all_fed, none_fed}
use Rattle.vx_power.proofs.Rounds.{begun, round_done, all_told, gained_inside}
use Rattle.vx_power.proofs.spread.levels_in.Goals as goal

pub loop-links-init : goal.loop-links-init
loop-links-init c =
    let m = c.args.map.now in
    let w = cell_on m in
    let inside = is_in c.args.columns in
    let fed = fed_by_sectors m w c.args.first (c.args.end - c.args.first) in
    let start : SpreadData = record { table = []; reached = [] } in
    begun inside (fed_in w inside) (links_in w inside) c.begin.new.self fed
    (all_fed m inside c.args.first c.args.end c.requires.fed)
    (subst (λ s. Reaches inside 15 s c.begin.new.self fed) c.new-spread.ensures c.in_ok-begin.ensures)

pub loop-links-preserved : goal.loop-links-preserved
loop-links-preserved c =
    let w = cell_on c.args.map.now in
    let inside = is_in c.args.columns in
    let n = c.loop-links.links in
    let s = c.loop-links.spread in
    let few : n ≤ 13 = omega arith in
    let next : suc n ≡ n + 1 = omega arith in
    subst (λ k. IsSpread inside (fed_in w inside) (links_in w inside) k c.go_on.new.self) next
    (round_done inside (fed_in w inside) (links_in w inside) n s c.go_on.new.self (linked_to w s.reached) few
    c.loop-links.invariant
    (gained_inside w inside (fed_in w inside) (none_fed w inside) n s c.loop-links.invariant)
    c.in_ok-go_on.ensures)

pub returns : goal.returns
returns c =
    let w = cell_on c.args.map.now in
    let inside = is_in c.args.columns in
    let all : c.loop-links.links ≡ 14 = omega arith in
    let spread = subst (λ n. IsSpread inside (fed_in w inside) (links_in w inside) n c.loop-links.spread) all
    c.loop-links.invariant in
    subst (λ table. (p : Pos) → level_in table p ≡ level_within w inside p) (sym c.into_levels.ensures)
    (all_told w inside (fed_in w inside) (none_fed w inside) c.loop-links.spread spread)
