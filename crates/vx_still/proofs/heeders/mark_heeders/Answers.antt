use Rattle.std.proofs.Common.{sym, ◌∙◌}
use Rattle.vx_geom.specs.declared.dir.Dir.TheVariants.{East, West, Up, Down, South}
use Rattle.vx_still.specs.Telling.{AreMarkedBeside, KeepsMarks}
use Rattle.vx_still.specs.Unheeded.{NoneBeside}
use Rattle.vx_still.proofs.Marking.{beside_still, heeders_from, marked_still, none_of_six, six_dirs}
use Rattle.vx_still.proofs.heeders.mark_heeders.Goals as goal

pub mark_towards-requires-2-clause-sizes : goal.mark_towards-requires-2-clause-sizes
mark_towards-requires-2-clause-sizes c = c.in_ok-east.ensures.sizes ∙ c.requires.sizes

pub mark_towards-requires-3-clause-sizes : goal.mark_towards-requires-3-clause-sizes
mark_towards-requires-3-clause-sizes c = c.in_ok-west.ensures.sizes ∙ c.in_ok-east.ensures.sizes ∙ c.requires.sizes

pub mark_towards-requires-4-clause-sizes : goal.mark_towards-requires-4-clause-sizes
mark_towards-requires-4-clause-sizes c = c.in_ok-up.ensures.sizes ∙ c.in_ok-west.ensures.sizes ∙ c.in_ok-east.ensures.sizes ∙ c.requires.sizes

pub mark_towards-requires-5-clause-sizes : goal.mark_towards-requires-5-clause-sizes
mark_towards-requires-5-clause-sizes c = c.in_ok-down.ensures.sizes ∙ c.in_ok-up.ensures.sizes ∙ c.in_ok-west.ensures.sizes ∙ c.in_ok-east.ensures.sizes ∙ c.requires.sizes

pub mark_towards-requires-6-clause-sizes : goal.mark_towards-requires-6-clause-sizes
mark_towards-requires-6-clause-sizes c = c.in_ok-south.ensures.sizes ∙ c.in_ok-down.ensures.sizes ∙ c.in_ok-up.ensures.sizes ∙ c.in_ok-west.ensures.sizes ∙ c.in_ok-east.ensures.sizes ∙ c.requires.sizes

pub returns-clause-sizes : goal.returns-clause-sizes
returns-clause-sizes c =
    c.in_ok-north.ensures.sizes ∙ c.in_ok-south.ensures.sizes ∙ c.in_ok-down.ensures.sizes
    ∙ c.in_ok-up.ensures.sizes ∙ c.in_ok-west.ensures.sizes ∙ c.in_ok-east.ensures.sizes

pub returns-clause-kept : goal.returns-clause-kept
returns-clause-kept c q is =
    c.in_ok-north.ensures.kept q (c.in_ok-south.ensures.kept q (c.in_ok-down.ensures.kept q
    (c.in_ok-up.ensures.kept q (c.in_ok-west.ensures.kept q (c.in_ok-east.ensures.kept q is)))))

pub returns-clause-marked : goal.returns-clause-marked
returns-clause-marked c =
    let m = c.args.map.now in
    let p = c.args.p in
    let last = c.mark_towards-6.new.places in
    let from_5 : KeepsMarks c.mark_towards-5.new.places last = c.in_ok-north.ensures.kept in
    let from_4 : KeepsMarks c.mark_towards-4.new.places last = λ q is. from_5 q (c.in_ok-south.ensures.kept q is) in
    let from_3 : KeepsMarks c.mark_towards-3.new.places last = λ q is. from_4 q (c.in_ok-down.ensures.kept q is) in
    let from_2 : KeepsMarks c.mark_towards-2.new.places last = λ q is. from_3 q (c.in_ok-up.ensures.kept q is) in
    let from_1 : KeepsMarks c.mark_towards.new.places last = λ q is. from_2 q (c.in_ok-west.ensures.kept q is) in
    let from_0 : KeepsMarks c.args.places.now last = λ q is. from_1 q (c.in_ok-east.ensures.kept q is) in
    heeders_from m last p (marked_still m c.args.places.now last p from_0 c.requires.own)
    (six_dirs (AreMarkedBeside m last p)
    (beside_still m c.mark_towards.new.places last p East from_1 c.in_ok-east.ensures.marked)
    (beside_still m c.mark_towards-2.new.places last p West from_2 c.in_ok-west.ensures.marked)
    (beside_still m c.mark_towards-3.new.places last p Up from_3 c.in_ok-up.ensures.marked)
    (beside_still m c.mark_towards-4.new.places last p Down from_4 c.in_ok-down.ensures.marked)
    (beside_still m c.mark_towards-5.new.places last p South from_5 c.in_ok-south.ensures.marked)
    c.in_ok-north.ensures.marked)

pub returns-clause-none : goal.returns-clause-none
returns-clause-none c is =
    let none = none_of_six c.in_ok-east.east c.in_ok-west.west c.in_ok-up.up c.in_ok-down.down c.in_ok-south.south c.in_ok-north.north
    (sym c.any_of.ensures ∙ is) in
    six_dirs (NoneBeside c.args.map.now c.args.p)
    (c.in_ok-east.ensures.none none.0) (c.in_ok-west.ensures.none none.1) (c.in_ok-up.ensures.none none.2)
    (c.in_ok-down.ensures.none none.3) (c.in_ok-south.ensures.none none.4)
    (c.in_ok-north.ensures.none none.5)
