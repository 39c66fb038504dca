use Rattle.std.proofs.Common.{map, sym, ap, ◌∙◌, arith}
use Rattle.vx_session.specs.Blocks.{player_data}
use Rattle.vx_session.specs.Sessions.{pass_in}
use Rattle.vx_session.proofs.Asking.{passes_stay, one_idle}
use Rattle.vx_session.proofs.together.ask_nothing.Goals as goal

pub loop-player-preserved : goal.loop-player-preserved
loop-player-preserved g c =
    let was = c.loop-player.invariant in
    let here = c.player-item.is in (
      passes_stay player_data (map player_data c.args.players.now) c.loop-player.players c.loop-player.player-index c.player-item.result c.ask_nothing.new.self
          was.0 (omega (arith, c.loop-player-test.true, c.loop-player.auto.players)) here (ap pass_in (c.ask_nothing.ensures.pass ∙ ap (λ p. p.pass) (sym here))),
      one_idle player_data c.loop-player.players c.loop-player.player-index c.ask_nothing.new.self was.1 (omega (arith, c.loop-player-test.true, c.loop-player.auto.players)) c.ask_nothing.ensures.asked,
    )
