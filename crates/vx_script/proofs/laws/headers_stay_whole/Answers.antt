use Rattle.vx_script.proofs.Filled.{scripts_open_filled}
use Rattle.vx_script.proofs.Openings.{sizes_are_sound, headers_keep_terrain}
use Rattle.vx_script.proofs.laws.headers_stay_whole.Goals as goal

pub returns-clause-sizes : goal.returns-clause-sizes
returns-clause-sizes c = sizes_are_sound

pub returns-clause-header : goal.returns-clause-header
returns-clause-header c = headers_keep_terrain

pub returns-clause-script : goal.returns-clause-script
returns-clause-script c = scripts_open_filled
