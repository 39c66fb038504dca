use Rattle.std.proofs.Common.{◌≡◌, None, sym, ap, ◌∙◌, subst}
use Rattle.std.specs.List.{All}
use Rattle.std.proofs.lemmas.List.{take_all}
use Rattle.std.proofs.lemmas.List.Elements.{All-more}
use Rattle.vx_session.proofs.together.first_stop.Goals as goal

pub loop-player-preserved : goal.loop-player-preserved
loop-player-preserved g c =
    All-more (λ p. p.stopped ≡ None) c.args.players.now c.loop-player.player-index c.player-item.result
    c.loop-player-test.true c.loop-player.invariant (ap (λ p. p.stopped) (sym c.player-item.is) ∙ c.in_default.is)

pub returns : goal.returns
returns g c = λ none.
    subst (λ players. All (λ p. p.stopped ≡ None) players)
    (take_all c.loop-player.player-index c.args.players.now c.loop-player-test.false) c.loop-player.invariant
