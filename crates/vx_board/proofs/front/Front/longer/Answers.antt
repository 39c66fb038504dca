use Rattle.std.proofs.Common.{ap, rules, ◌≤◌, length}
use mathlib.Core.List.{IsPrefix}
use Rattle.vx_board.proofs.Fronts.{shorter_begins}
use Rattle.vx_board.proofs.front.Front.longer.Goals as goal

-- the shorter one begins the longer one
pub returns-then-self-other-clause-this : goal.returns-then-self-other-clause-this
returns-then-self-other-clause-this g c =
    let mine : IsPrefix c.args.self.now c.learn.new.self.log = rw (ap (λ s. s.log) c.again-both.ensures, c.self.view_is) at c.learn.ensures.2 in
    let its : IsPrefix c.args.other.now c.learn.new.self.log = rw c.other.view_is at c.learn.ensures.3 in
    let le : length c.args.self.now ≤ length c.args.other.now = search rules in
    rw c.again.ensures (shorter_begins c.args.self.now c.args.other.now c.learn.new.self.log mine its le)

pub returns-clause-that : goal.returns-clause-that
returns-clause-that g c =
    let mine : IsPrefix c.args.self.now c.learn.new.self.log = rw (ap (λ s. s.log) c.again-both.ensures, c.self.view_is) at c.learn.ensures.2 in
    let its : IsPrefix c.args.other.now c.learn.new.self.log = rw c.other.view_is at c.learn.ensures.3 in
    let le : length c.args.other.now ≤ length c.args.self.now = search rules in
    rw c.again-else-self-other.ensures (shorter_begins c.args.other.now c.args.self.now c.learn.new.self.log its mine le)
