use Rattle.vx_lines.proofs.Feeds.{first_feed}
use Rattle.vx_lines.proofs.input.feed_in.Goals as goal

pub returns : goal.returns
returns c = first_feed c.args.bytes.now c.memchr.result c.memchr.ensures
