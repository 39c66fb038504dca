use Rattle.vx_still.proofs.Watching.{ticks_leave_watch}
use Rattle.vx_tick.specs.Ticks.{stepped}
use Rattle.vx_tick.proofs.finishing.kept.Goals as goal

pub returns : goal.returns
returns c = record {
  puts = c.requires.ended.puts;
  fates = c.requires.ended.fates;
  chests = c.requires.ended.chests;
  watch =
      ticks_leave_watch c.args.map.now (stepped c.args.version.now.policy c.args.map.now)
      (record { waking = c.args.done.1; dust = c.args.dust }) c.requires.ended.left c.requires.dust;
}
