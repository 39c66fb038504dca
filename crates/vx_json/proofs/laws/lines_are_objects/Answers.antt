use Rattle.std.proofs.Common.{sym}
use Rattle.vx_json.proofs.Compact.{call_written, fate_written}
use Rattle.vx_json.proofs.laws.lines_are_objects.Goals as goal

pub returns-clause-calls : goal.returns-clause-calls
returns-clause-calls c cmd player reply sector tick cmd_is player_is reply_is =
    sym (call_written cmd player reply sector tick cmd_is player_is reply_is)

pub returns-clause-fates : goal.returns-clause-fates
returns-clause-fates c fate tick is = sym (fate_written fate tick is)
