use Rattle.std.proofs.Common.{sym, ◌∙◌, ap, ◌++◌, ◌∷◌, []}
use Rattle.vx_policy.specs.Asked.{asked}
use Rattle.vx_policy.specs.Edits.{edited}
use Rattle.vx_policy.proofs.Turns.{after_push}
use Rattle.vx_board.proofs.locked.Locked.accept.Goals as goal

-- the policy that is kept is the one after the edits of the new front
pub invariant_of-self-2-clause-policy_is : goal.invariant_of-self-2-clause-policy_is
invariant_of-self-2-clause-policy_is g c =
    let first = g.J.Naming.first in
    let before = c.args.self.now.front in
    let e = asked c.args.edit in
    let made = c.in-Ok.ensures.ok in
    let front = c.again-2.ensures ∙ c.grown-front.ensures ∙ ap (λ x. before ++ x ∷ []) made.2 in
    rw front (made.1 ∙ ap (λ rs. edited rs e) c.args.self.now.policy_is ∙ sym (after_push first before e))
