use Rattle.std.proofs.Common.{sym}
use Rattle.std.proofs.lemmas.List.{append-nil}
use Rattle.vx_cells.specs.Maps.{cell_on}
use Rattle.vx_power.specs.Spreading.{fed_from}
use Rattle.vx_power.specs.Turning.{all_on}
use Rattle.vx_power.proofs.Reaching.{devices_give, list_all, list_more}
use Rattle.vx_power.proofs.fed_dust.add_all_fed.Goals as goal

pub loop-p-init : goal.loop-p-init
loop-p-init c = sym (append-nil c.args.list.now.items)

pub loop-p-preserved : goal.loop-p-preserved
loop-p-preserved c =
    list_more (fed_from (all_on (cell_on c.args.map.now))) c.args.parts.now c.loop-p.p-index _ c.args.list.now.items
    c.loop-p-test.true
    c.loop-p.invariant c.in_ok-add_fed.ensures

pub returns : goal.returns
returns c =
    let w = all_on (cell_on c.args.map.now) in
    list_all (fed_from w) c.args.parts.now c.loop-p.p-index _ c.args.list.now.items c.loop-p-test.false
    (devices_give w c.args.parts.now) c.loop-p.invariant
