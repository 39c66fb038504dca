use Rattle.std.proofs.Common.{◌≡◌, ◌-◌, ap, arith}
use Rattle.vx_cells.specs.Maps.{cell_on}
use Rattle.vx_power.specs.Spreading.{fed_by_sectors}
use Rattle.vx_power.proofs.Reaching.{reaches_as, reaches_nothing, sector_reaches}
use Rattle.vx_power.proofs.spread.Spread.begin.Goals as goal

pub loop-number-init : goal.loop-number-init
loop-number-init g c =
    let m = c.args.map.now in
    let none : c.args.first - c.args.first ≡ 0 = omega arith in
    record {
      from = omega arith;
      reaches = reaches_nothing (ap (fed_by_sectors m (cell_on m) c.args.first) none);
    }

pub loop-number-preserved : goal.loop-number-preserved
loop-number-preserved g c =
    let m = c.args.map.now in
    record {
      from = omega (arith, c.loop-number.invariant.from);
      reaches = sector_reaches m (cell_on m) c.args.first c.loop-number.number
          c.loop-number.invariant.from c.loop-number.invariant.reaches c.in_ok-begin_in.ensures;
    }

pub returns : goal.returns
returns g c =
    let m = c.args.map.now in
    let order = c.requires.order in
    let all : c.loop-number.number ≡ c.args.end = omega (arith, order) in
    reaches_as (ap (λ n. fed_by_sectors m (cell_on m) c.args.first (n - c.args.first)) all) c.loop-number.invariant.reaches
