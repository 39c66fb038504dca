use Rattle.std.proofs.Common.{None, ap, sym, ◌∙◌, subst}
use Rattle.std.specs.Global.{Vec}
use Rattle.std.specs.List.{filter}
use Rattle.vx_name.specs.IdParts.{IdList}
use Rattle.vx_name.specs.IdUpdates.{IsUpdated, is_other}
use Rattle.vx_name.proofs.IdChanges.{taken_out}
use Rattle.vx_name.proofs.id_part.IdPartHasIds.remove.Goals as goal

pub returns-clause-ok : goal.returns-clause-ok
returns-clause-ok c =
    let id = c.args.id.now in
    let others = c.in_ok-numbers.ensures ∙ ap (filter (is_other id)) c.as_slice.ensures in
    let listed = ap (λ (v : Vec _). v.items) c.in_ok-new.ensures.ok ∙ others in
    subst (λ (ids : IdList). IsUpdated id None c.args.self.now ids) (sym listed) (taken_out id c.args.self.now)
