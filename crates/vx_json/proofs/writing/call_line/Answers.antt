use Rattle.vx_json.proofs.Spelling.{name_plain}
use Rattle.vx_json.proofs.writing.call_line.Goals as goal

pub call_json-requires-clause-player : goal.call_json-requires-clause-player
call_json-requires-clause-player c = rw c.as_str-2.ensures (name_plain _ c.spelling.ensures)
