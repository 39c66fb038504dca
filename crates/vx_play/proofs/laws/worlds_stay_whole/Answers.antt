use Rattle.vx_play.proofs.Whole.{worlds_begin_whole, commands_keep_worlds, ticks_keep_worlds}
use Rattle.vx_play.proofs.Playing.{games_stay_whole}
use Rattle.vx_play.proofs.laws.worlds_stay_whole.Goals as goal

pub returns-clause-begun : goal.returns-clause-begun
returns-clause-begun c = worlds_begin_whole

pub returns-clause-answered : goal.returns-clause-answered
returns-clause-answered c = commands_keep_worlds

pub returns-clause-ticked : goal.returns-clause-ticked
returns-clause-ticked c = ticks_keep_worlds

pub returns-clause-game : goal.returns-clause-game
returns-clause-game c = games_stay_whole
