use Rattle.std.proofs.Common.{◌≡◌, false, sym, ◌∙◌}
use Rattle.vx_geom.specs.declared.dir.Dir.TheVariants.{East, West, Up, Down, South}
use Rattle.vx_geom.specs.Neighbor.{neighbor}
use Rattle.vx_block.specs.Components.{is_device}
use Rattle.vx_cells.specs.Maps.{cell_on}
use Rattle.vx_still.specs.Telling.{IsMarked, KeepsMarks}
use Rattle.vx_still.proofs.Marking.{marked_still, none_of_six, six_dirs}
use Rattle.vx_still.proofs.heeders.mark_beside.Goals as goal

pub mark_next-requires-2-clause-sizes : goal.mark_next-requires-2-clause-sizes
mark_next-requires-2-clause-sizes c = c.in_ok-east.ensures.sizes ∙ c.requires.sizes

pub mark_next-requires-3-clause-sizes : goal.mark_next-requires-3-clause-sizes
mark_next-requires-3-clause-sizes c = c.in_ok-west.ensures.sizes ∙ c.in_ok-east.ensures.sizes ∙ c.requires.sizes

pub mark_next-requires-4-clause-sizes : goal.mark_next-requires-4-clause-sizes
mark_next-requires-4-clause-sizes c = c.in_ok-up.ensures.sizes ∙ c.in_ok-west.ensures.sizes ∙ c.in_ok-east.ensures.sizes ∙ c.requires.sizes

pub mark_next-requires-5-clause-sizes : goal.mark_next-requires-5-clause-sizes
mark_next-requires-5-clause-sizes c = c.in_ok-down.ensures.sizes ∙ c.in_ok-up.ensures.sizes ∙ c.in_ok-west.ensures.sizes ∙ c.in_ok-east.ensures.sizes ∙ c.requires.sizes

pub mark_next-requires-6-clause-sizes : goal.mark_next-requires-6-clause-sizes
mark_next-requires-6-clause-sizes c = c.in_ok-south.ensures.sizes ∙ c.in_ok-down.ensures.sizes ∙ c.in_ok-up.ensures.sizes ∙ c.in_ok-west.ensures.sizes ∙ c.in_ok-east.ensures.sizes ∙ c.requires.sizes

pub returns-clause-sizes : goal.returns-clause-sizes
returns-clause-sizes c =
    c.in_ok-north.ensures.sizes ∙ c.in_ok-south.ensures.sizes ∙ c.in_ok-down.ensures.sizes
    ∙ c.in_ok-up.ensures.sizes ∙ c.in_ok-west.ensures.sizes ∙ c.in_ok-east.ensures.sizes

pub returns-clause-kept : goal.returns-clause-kept
returns-clause-kept c q is =
    c.in_ok-north.ensures.kept q (c.in_ok-south.ensures.kept q (c.in_ok-down.ensures.kept q
    (c.in_ok-up.ensures.kept q (c.in_ok-west.ensures.kept q (c.in_ok-east.ensures.kept q is)))))

pub returns-clause-marked : goal.returns-clause-marked
returns-clause-marked c =
    let m = c.args.map.now in
    let p = c.args.p in
    let last = c.mark_next-6.new.places in
    let from_5 : KeepsMarks c.mark_next-5.new.places last = c.in_ok-north.ensures.kept in
    let from_4 : KeepsMarks c.mark_next-4.new.places last = λ q is. from_5 q (c.in_ok-south.ensures.kept q is) in
    let from_3 : KeepsMarks c.mark_next-3.new.places last = λ q is. from_4 q (c.in_ok-down.ensures.kept q is) in
    let from_2 : KeepsMarks c.mark_next-2.new.places last = λ q is. from_3 q (c.in_ok-up.ensures.kept q is) in
    let from_1 : KeepsMarks c.mark_next.new.places last = λ q is. from_2 q (c.in_ok-west.ensures.kept q is) in
    six_dirs (λ d. IsMarked m last (neighbor p d))
    (marked_still m c.mark_next.new.places last (neighbor p East) from_1 c.in_ok-east.ensures.marked)
    (marked_still m c.mark_next-2.new.places last (neighbor p West) from_2 c.in_ok-west.ensures.marked)
    (marked_still m c.mark_next-3.new.places last (neighbor p Up) from_3 c.in_ok-up.ensures.marked)
    (marked_still m c.mark_next-4.new.places last (neighbor p Down) from_4 c.in_ok-down.ensures.marked)
    (marked_still m c.mark_next-5.new.places last (neighbor p South) from_5 c.in_ok-south.ensures.marked)
    c.in_ok-north.ensures.marked

pub returns-clause-none : goal.returns-clause-none
returns-clause-none c is =
    let none = none_of_six c.in_ok-east.east c.in_ok-west.west c.in_ok-up.up c.in_ok-down.down c.in_ok-south.south c.in_ok-north.north
    (sym c.any_of.ensures ∙ is) in
    six_dirs (λ d. is_device (cell_on c.args.map.now (neighbor c.args.p d)) ≡ false)
    (c.in_ok-east.ensures.none none.0) (c.in_ok-west.ensures.none none.1) (c.in_ok-up.ensures.none none.2)
    (c.in_ok-down.ensures.none none.3) (c.in_ok-south.ensures.none none.4)
    (c.in_ok-north.ensures.none none.5)
