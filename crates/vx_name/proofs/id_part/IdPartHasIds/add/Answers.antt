use Rattle.std.proofs.Common.{◌++◌, ◌∷◌, [], Some, ap, sym, ◌∙◌, subst}
use Rattle.std.specs.Global.{Vec}
use Rattle.std.specs.List.{filter}
use Rattle.vx_name.specs.IdParts.{IdList}
use Rattle.vx_name.specs.IdUpdates.{IsUpdated, is_other}
use Rattle.vx_name.proofs.IdChanges.{put_in}
use Rattle.vx_name.proofs.id_part.IdPartHasIds.add.Goals as goal

pub returns-clause-ok : goal.returns-clause-ok
returns-clause-ok c =
    let id = c.args.id in
    let others = c.in_ok-numbers.ensures ∙ ap (filter (is_other id)) c.as_slice.ensures in
    let listed =
    ap (λ (v : Vec _). v.items) c.in_ok-new.ensures.ok ∙ c.in_ok-push.ensures.items
    ∙ ap (λ (ids : IdList). ids ++ (id, c.args.number) ∷ []) others in
    subst (λ (ids : IdList). IsUpdated id (Some c.args.number) c.args.self.now ids) (sym listed) (put_in id c.args.self.now c.args.number)
