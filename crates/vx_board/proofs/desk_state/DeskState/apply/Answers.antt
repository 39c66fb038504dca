use Rattle.std.proofs.Common.{◌++◌, ◌∷◌, [], ap, sym, ◌∙◌, map}
use Rattle.vx_policy.specs.Asked.{asked}
use Rattle.vx_policy.specs.Edits.{edited}
use Rattle.vx_policy.proofs.Turns.{after_push, accepted_push}
use Rattle.vx_board.proofs.desk_state.DeskState.apply.Goals as goal

-- the list and the policy go one edit on together
pub invariant_of-self-2 : goal.invariant_of-self-2
invariant_of-self-2 g c =
    let first = g.J.Naming.first in
    let before = map asked c.self.inside.accepted.items in
    let e = asked c.args.edit in
    let list = c.settle.ensures.list ∙ ap (λ es. es ++ asked c.in_ok-ready.ready.edit ∷ []) (ap (map asked) c.make_ready.ensures.list) ∙ ap (λ x. before ++ x ∷ []) c.in_ok-ready.ensures.ok.2 in
    rw list (
      accepted_push first before e c.self.invariant.0 (rw c.self.invariant.1 at c.in_ok-ready.ensures.ok.0),
      c.in_ok-ready.ensures.ok.1 ∙ ap (λ rs. edited rs e) c.self.invariant.1 ∙ sym (after_push first before e),
    )
