use Rattle.std.proofs.Common.{subst}
use Rattle.vx_block.specs.Cell.{IsCell}
use Rattle.vx_json.proofs.Spelling.{seen_plain, done_plain, opened_plain}
use Rattle.vx_json.proofs.texts.spelling.Goals as goal

pub returns-in-Seen : goal.returns-in-Seen
returns-in-Seen c = rw c.in-Seen.is (seen_plain c.in-Seen.seen (subst IsCell c.cell.ensures c.ranges-in-Seen.ensures))

pub returns-in-Done : goal.returns-in-Done
returns-in-Done c = rw c.in-Done.is (done_plain c.in-Done.field-0)

pub returns-in-Opened : goal.returns-in-Opened
returns-in-Opened c = rw c.in-Opened.is (opened_plain c.in-Opened.field-0 c.in-Opened.field-1)
