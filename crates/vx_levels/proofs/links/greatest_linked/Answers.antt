use Rattle.std.proofs.Common.{◌/◌, ◌%◌, ap, ◌∙◌}
use Rattle.vx_block.specs.declared.side.Side.TheVariants.{East, West, South, North}
use Rattle.vx_levels.specs.Consistency.{greatest}
use Rattle.vx_levels.specs.Linked.{level_at, linked, linked_on}
use Rattle.vx_levels.proofs.Keeping.{greatest_of_four}
use Rattle.vx_levels.proofs.links.greatest_linked.Goals as goal

pub returns-clause-value : goal.returns-clause-value
returns-clause-value c =
    let p = c.args.p in
    let level = level_at c.args.levels.now in
    let bits = c.links-links.result in
    greatest_of_four level (linked_on (bits % 8) p East) (linked_on (bits / 8 % 8) p West)
    (linked_on (bits / 64 % 8) p South) (linked_on (bits / 512 % 8) p North) _ _ _ _ _ _ _
    c.greatest_on-east.ensures.value c.greatest_on-west.ensures.value c.greatest_on-south.ensures.value c.greatest_on-north.ensures.value
    c.more.ensures c.more-2.ensures c.more-3.ensures
    ∙ ap (λ n. greatest level (linked n p)) c.links-links.ensures.value
