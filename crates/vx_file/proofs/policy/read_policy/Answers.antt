use Rattle.std.proofs.Common.{refl}
use Rattle.vx_file.proofs.FileApplied.{file_gave, file_refused}
use Rattle.vx_file.proofs.policy.read_policy.Goals as goal

pub returns-in-Ok-clause-ok : goal.returns-in-Ok-clause-ok
returns-in-Ok-clause-ok c = file_gave c.args.bytes.now c.in-Ok.policy _ c.in-Ok.ensures.text refl c.in-Ok.ensures.ok

pub returns-in-Err-clause-refused : goal.returns-in-Err-clause-refused
returns-in-Err-clause-refused c same edits says all = file_refused c.args.bytes.now edits (c.in-Err.ensures.refused same) says all
