use Rattle.std.proofs.Common.{ap, rules, ◌≡◌, length}
use mathlib.Core.List.{IsPrefix}
use Rattle.vx_board.proofs.Fronts.{same_by_counts}
use Rattle.vx_board.proofs.front.Front.is_same.Goals as goal

pub returns : goal.returns
returns g c =
    let mine : IsPrefix c.args.self.now c.learn.new.self.log = rw (ap (λ s. s.log) c.again-both.ensures, c.self.view_is) at c.learn.ensures.2 in
    let its : IsPrefix c.args.other.now c.learn.new.self.log = rw c.other.view_is at c.learn.ensures.3 in
    let my_count : c.self.inside.count ≡ length c.args.self.now = search rules in
    let its_count : c.other.inside.count ≡ length c.args.other.now = search rules in
    same_by_counts c.self.inside.count c.other.inside.count c.args.self.now c.args.other.now c.learn.new.self.log my_count its_count mine its
