use Rattle.std.proofs.Common.{Some}
use Rattle.vx_tick.proofs.Nothing.{nothing_planned}
use Rattle.vx_tick.proofs.finishing.undisturbed.Goals as goal

pub returns : goal.returns
returns c =
    nothing_planned c.args.map.now c.args.dust c.requires c.args.version.now.policy c.filling.ensures
    (c.nothing-2.result, record { waking = c.nothing.result; dust = Some c.args.dust }) c.nothing-2.ensures.puts c.nothing-2.ensures.fates
    (λ i. record { waking = c.nothing.ensures i; dust = Some c.args.dust })
