use Rattle.std.proofs.Common.{length, sym, ap, arith}
use Rattle.std.proofs.lemmas.Bool.{ltb-false}
use Rattle.std.proofs.lemmas.List.{nil_from_length}
use Rattle.vx_cells.specs.Listed.{devices_on}
use Rattle.vx_cells.specs.Maps.{cell_on}
use Rattle.vx_power.specs.Spreading.{fed_by}
use Rattle.vx_power.proofs.Reaching.{reaches_nothing}
use Rattle.vx_power.proofs.spread.Spread.begin_in.Goals as goal

pub returns-then-not-has_devices : goal.returns-then-not-has_devices
returns-then-not-has_devices g c =
    let found = devices_on c.args.map.now c.args.sector in
    let few = ltb-false 0 (length found) (sym c.if-not-has_devices.ensures) in
    let none = nil_from_length found (omega (arith, few)) in
    reaches_nothing (ap (λ devices. fed_by (cell_on c.args.map.now) devices) none)
