use Rattle.std.proofs.Common.{None, List, is_ok, ap, sym, subst, ◌∙◌}
use Rattle.std.proofs.lemmas.Result.{on_ok_weaker, on_err_weaker}
use Rattle.std.specs.Arc.{arc_value}
use Rattle.std.specs.Global.{Vec}
use Rattle.vx_base.specs.Parts.{all_of}
use Rattle.vx_name.specs.IdParts.{ids_of, AreParted}
use Rattle.vx_name.specs.IdUpdates.{IsUpdated}
use Rattle.vx_name.proofs.Errors.{either_way, on_any_err, refused}
use Rattle.vx_name.proofs.IdParts.{parts_taken, parted_alike, part_changed, part_left, part_number}
use Rattle.vx_name.proofs.parted.take_out.Goals as goal

pub returns-in_err-parts-clause-parted : goal.returns-in_err-parts-clause-parted
returns-in_err-parts-clause-parted g c =
    let ids = g.P.HasIds.ids in
    let same = parts_taken ids g.P.Clone.is_clone g.met.P.HasIds.copied _ _ (refused c.make_mut.result _ c.in_err-parts.was c.make_mut.follows.holds-at-none) in
    parted_alike ids c.args.level _ _ same c.requires.parted

pub returns-in_err-parts-clause-err : goal.returns-in_err-parts-clause-err
returns-in_err-parts-clause-err g c =
    let ids = g.P.HasIds.ids in
    let same = parts_taken ids g.P.Clone.is_clone g.met.P.HasIds.copied _ _ (refused c.make_mut.result _ c.in_err-parts.was c.make_mut.follows.holds-at-none) in
    on_any_err c.from_residual.result (ap all_of same)

pub returns-clause-parted : goal.returns-clause-parted
returns-clause-parted g c =
    let ids = g.P.HasIds.ids in
    let old = (arc_value c.args.shared.now).items in
    let own = c.in_ok-parts.parts.now.items in
    let copied = parts_taken ids g.P.Clone.is_clone g.met.P.HasIds.copied _ _ c.in_ok-parts.ensures.value in
    let at = part_number c.args.level c.args.id.now _ _ c.part_of-index.ensures.value c.requires.hash in
    let whole = ap (λ (v : Vec _). v.items) (c.make_mut.follows.holds _ (ap is_ok c.in_ok-parts.was)) in
    subst (AreParted ids c.args.level) (sym whole) (either_way c.remove.result c.remove.ensures.ok c.remove.ensures.err
    (λ updated. (part_changed ids c.args.level old own c.args.id.now c.part_of-index.result _ c.remove.new.self c.requires.parted copied at c.index_mut.ensures.value None updated).0)
    (λ same. parted_alike ids c.args.level _ _ (part_left ids c.args.level old own c.args.id.now c.part_of-index.result _ c.remove.new.self c.requires.parted copied at c.index_mut.ensures.value same) c.requires.parted))

pub returns-clause-ok : goal.returns-clause-ok
returns-clause-ok g c =
    let ids = g.P.HasIds.ids in
    let old = (arc_value c.args.shared.now).items in
    let own = c.in_ok-parts.parts.now.items in
    let copied = parts_taken ids g.P.Clone.is_clone g.met.P.HasIds.copied _ _ c.in_ok-parts.ensures.value in
    let at = part_number c.args.level c.args.id.now _ _ c.part_of-index.ensures.value c.requires.hash in
    let whole = ap (λ (v : Vec _). v.items) (c.make_mut.follows.holds _ (ap is_ok c.in_ok-parts.was)) in
    on_ok_weaker c.remove.result
    (λ updated. subst (λ (held : List _). IsUpdated c.args.id.now None (ids_of ids old) (ids_of ids held)) (sym whole)
    (part_changed ids c.args.level old own c.args.id.now c.part_of-index.result _ c.remove.new.self c.requires.parted copied at c.index_mut.ensures.value None updated).1)
    c.remove.ensures.ok

pub returns-clause-err : goal.returns-clause-err
returns-clause-err g c =
    let ids = g.P.HasIds.ids in
    let old = (arc_value c.args.shared.now).items in
    let own = c.in_ok-parts.parts.now.items in
    let copied = parts_taken ids g.P.Clone.is_clone g.met.P.HasIds.copied _ _ c.in_ok-parts.ensures.value in
    let at = part_number c.args.level c.args.id.now _ _ c.part_of-index.ensures.value c.requires.hash in
    on_err_weaker c.remove.result
    (λ same. ap (λ (v : Vec _). ids_of ids v.items) (c.make_mut.follows.holds _ (ap is_ok c.in_ok-parts.was))
    ∙ ap all_of (part_left ids c.args.level old own c.args.id.now c.part_of-index.result _ c.remove.new.self c.requires.parted copied at c.index_mut.ensures.value same))
    c.remove.ensures.err
