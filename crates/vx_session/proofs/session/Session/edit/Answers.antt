use Rattle.std.proofs.Common.{List, length, Ok, subst}
use Rattle.vx_board.specs.Accepted.{IsAnswer}
use Rattle.vx_policy.specs.Asked.{Asked, asked}
use Rattle.vx_policy.specs.Edits.{after}
use Rattle.vx_session.specs.Sessions.{edits_to}
use Rattle.vx_session.proofs.Passing.{edited_by}
use Rattle.vx_session.proofs.session.Session.edit.Goals as goal

pub returns-clause-accepted : goal.returns-clause-accepted
returns-clause-accepted g c =
    let e = asked c.args.edit in
    let done = c.in-Ok.ensures.ok in
    let all = c.is_next.ensures c.if-not-is_next.false done.0 e done.2 in
    let by = edited_by c.self.inside.bounds c.self.inside.keeper c.learn.new.self _ done.0 (edits_to c.self.inside.last)
    c.in-Ok.listed.front c.self.inside.marks.items c.reserve.new.self.items c.push_reserved.new.self.items e _
    c.self.view_is c.learn.ensures.kept done.2 all c.reserve.ensures.items c.push_reserved.ensures.items in (
      by.0,
      by.2,
      subst (λ (es : List Asked). IsAnswer (after g.A.Naming.first es) (length es) e (Ok c.in-Ok.listed.edited)) by.1 done.3,
    )
