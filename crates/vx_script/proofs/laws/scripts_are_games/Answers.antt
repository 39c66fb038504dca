use Rattle.vx_script.proofs.Played as played
use Rattle.vx_script.proofs.laws.scripts_are_games.Goals as goal

pub returns : goal.returns
returns c = played.scripts_are_games
