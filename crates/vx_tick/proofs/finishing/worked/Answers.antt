use Rattle.std.proofs.Common.{length, ap, ◌∙◌}
use Rattle.vx_tick.specs.Ticks.{put_down}
use Rattle.vx_tick.proofs.Plans.{is_worked}
use Rattle.vx_tick.proofs.finishing.worked.Goals as goal

pub put_down-requires : goal.put_down-requires
put_down-requires g c = record { each = ap length c.as_slice.ensures.value ∙ c.requires.each }

pub returns : goal.returns
returns g c = λ rs told.
    is_worked c.args.map.now _ rs c.args.moves.now c.args.fates.items c.args.changes.items c.in_ok-moved.moved.items
    c.filling.ensures c.requires.levels c.requires.moves told c.requires.changes
    (c.in_ok-moved.ensures ∙ ap (put_down _ c.args.moves.now) c.as_slice.ensures.value)
