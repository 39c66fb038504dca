use Rattle.vx_json.proofs.ReadBack as back
use Rattle.vx_json.proofs.laws.words_read_back.Goals as goal

pub returns : goal.returns
returns c = back.words_read_back
