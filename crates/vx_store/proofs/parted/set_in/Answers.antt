use Rattle.std.proofs.Common.{IsSome, List, slice_set, is_ok, ap, sym, subst, ◌∙◌}
use Rattle.std.proofs.lemmas.Result.{on_ok_weaker, on_err_weaker}
use Rattle.std.specs.Arc.{arc_value}
use Rattle.std.specs.Global.{Vec}
use Rattle.vx_base.specs.Parts.{all_of}
use Rattle.vx_store.specs.ChestParts.{chests_of, AreParted}
use Rattle.vx_store.specs.Chests.{slots_of_chest, Changes, refilled}
use Rattle.vx_store.proofs.ChestParting.{parts_taken, parted_alike, same_there, part_changed, part_left, either_way, on_any_err, refused}
use Rattle.vx_store.proofs.parted.set_in.Goals as goal

pub returns-in_err-parts-clause-parted : goal.returns-in_err-parts-clause-parted
returns-in_err-parts-clause-parted g c =
    let chests = g.P.HasChests.chests in
    let same = parts_taken chests g.P.Clone.is_clone g.met.P.HasChests.copied _ _ (refused c.make_mut.result _ c.in_err-parts.was c.make_mut.follows.holds-at-none) in
    parted_alike chests c.args.stride _ _ same c.requires.parted

pub returns-in_err-parts-clause-err : goal.returns-in_err-parts-clause-err
returns-in_err-parts-clause-err g c =
    let chests = g.P.HasChests.chests in
    let same = parts_taken chests g.P.Clone.is_clone g.met.P.HasChests.copied _ _ (refused c.make_mut.result _ c.in_err-parts.was c.make_mut.follows.holds-at-none) in
    on_any_err c.from_residual.result (ap all_of same)

pub set-requires-clause-there : goal.set-requires-clause-there
set-requires-clause-there g c =
    let chests = g.P.HasChests.chests in
    let old = (arc_value c.args.shared.now).items in
    let own = c.in_ok-parts.parts.now.items in
    let copied = parts_taken chests g.P.Clone.is_clone g.met.P.HasChests.copied _ _ c.in_ok-parts.ensures.value in
    let part = c.index_mut.result.now in
    subst IsSome (sym (same_there chests c.args.stride old own c.args.index c.part_of-number.result part part c.requires.parted copied c.part_of-number.ensures.value c.index_mut.ensures.value)) c.requires.there

pub returns-clause-parted : goal.returns-clause-parted
returns-clause-parted g c =
    let chests = g.P.HasChests.chests in
    let old = (arc_value c.args.shared.now).items in
    let own = c.in_ok-parts.parts.now.items in
    let copied = parts_taken chests g.P.Clone.is_clone g.met.P.HasChests.copied _ _ c.in_ok-parts.ensures.value in
    let whole = ap (λ (v : Vec _). v.items) (c.make_mut.follows.holds _ (ap is_ok c.in_ok-parts.was)) in
    subst (AreParted chests c.args.stride) (sym whole) (either_way c.set.result c.set.ensures.ok c.set.ensures.err
    (λ changed. (part_changed chests c.args.stride old own c.args.index c.part_of-number.result _ c.set.new.self c.requires.parted copied c.part_of-number.ensures.value c.index_mut.ensures.value _ changed).0)
    (λ same. parted_alike chests c.args.stride _ _ (part_left chests c.args.stride old own c.args.index c.part_of-number.result _ c.set.new.self c.requires.parted copied c.part_of-number.ensures.value c.index_mut.ensures.value same) c.requires.parted))

pub returns-clause-ok : goal.returns-clause-ok
returns-clause-ok g c =
    let chests = g.P.HasChests.chests in
    let old = (arc_value c.args.shared.now).items in
    let own = c.in_ok-parts.parts.now.items in
    let copied = parts_taken chests g.P.Clone.is_clone g.met.P.HasChests.copied _ _ c.in_ok-parts.ensures.value in
    let whole = ap (λ (v : Vec _). v.items) (c.make_mut.follows.holds _ (ap is_ok c.in_ok-parts.was)) in
    let there = same_there chests c.args.stride old own c.args.index c.part_of-number.result _ c.set.new.self c.requires.parted copied c.part_of-number.ensures.value c.index_mut.ensures.value in
    on_ok_weaker c.set.result
    (λ changed. subst (λ (ps : List _). Changes (chests_of chests old) (chests_of chests ps) c.args.index (refilled c.args.slot c.args.content (slots_of_chest (chests_of chests old) c.args.index))) (sym whole)
    (subst (λ o. Changes (chests_of chests old) (chests_of chests (slice_set own c.part_of-number.result c.set.new.self)) c.args.index (refilled c.args.slot c.args.content o)) there
    (part_changed chests c.args.stride old own c.args.index c.part_of-number.result _ c.set.new.self c.requires.parted copied c.part_of-number.ensures.value c.index_mut.ensures.value _ changed).1))
    c.set.ensures.ok

pub returns-clause-err : goal.returns-clause-err
returns-clause-err g c =
    let chests = g.P.HasChests.chests in
    let old = (arc_value c.args.shared.now).items in
    let own = c.in_ok-parts.parts.now.items in
    let copied = parts_taken chests g.P.Clone.is_clone g.met.P.HasChests.copied _ _ c.in_ok-parts.ensures.value in
    on_err_weaker c.set.result
    (λ same. ap (λ (v : Vec _). chests_of chests v.items) (c.make_mut.follows.holds _ (ap is_ok c.in_ok-parts.was))
    ∙ ap all_of (part_left chests c.args.stride old own c.args.index c.part_of-number.result _ c.set.new.self c.requires.parted copied c.part_of-number.ensures.value c.index_mut.ensures.value same))
    c.set.ensures.err
