use Rattle.std.proofs.Common.{IsSome, List, is_ok, ap, sym, refl, subst, ◌∙◌}
use Rattle.std.proofs.lemmas.Result.{on_ok_weaker, on_err_weaker}
use Rattle.std.specs.Arc.{arc_value}
use Rattle.std.specs.Global.{Vec}
use Rattle.vx_base.specs.Parts.{all_of}
use Rattle.vx_store.specs.ChestParts.{chests_of, AreParted}
use Rattle.vx_store.specs.Chests.{slots_of_chest, Changes, SameSlots, begun}
use Rattle.vx_store.specs.Codes.{cell_of, is_chest}
use Rattle.vx_store.proofs.ChestParting.{parts_taken, parted_alike, same_there, part_changed, part_still, either_way, on_any_err, refused}
use Rattle.vx_store.proofs.parted.put_down_in.Goals as goal

pub returns-in_err-parts-clause-parted : goal.returns-in_err-parts-clause-parted
returns-in_err-parts-clause-parted g c =
    let chests = g.P.HasChests.chests in
    let same = parts_taken chests g.P.Clone.is_clone g.met.P.HasChests.copied _ _ (refused c.make_mut.result _ c.in_err-parts.was c.make_mut.follows.holds-at-none) in
    parted_alike chests c.args.stride _ _ same c.requires.parted

pub returns-in_err-parts-clause-err : goal.returns-in_err-parts-clause-err
returns-in_err-parts-clause-err g c =
    let chests = g.P.HasChests.chests in
    let same = parts_taken chests g.P.Clone.is_clone g.met.P.HasChests.copied _ _ (refused c.make_mut.result _ c.in_err-parts.was c.make_mut.follows.holds-at-none) in
    on_any_err c.from_residual.result (refl, λ q. ap (λ held. slots_of_chest (all_of held) q) same)

pub put_down-requires : goal.put_down-requires
put_down-requires g c =
    let chests = g.P.HasChests.chests in
    let old = (arc_value c.args.shared.now).items in
    let own = c.in_ok-parts.parts.now.items in
    let copied = parts_taken chests g.P.Clone.is_clone g.met.P.HasChests.copied _ _ c.in_ok-parts.ensures.value in
    let part = c.index_mut.result.now in
    let there = same_there chests c.args.stride old own c.args.index c.part_of-number.result part part c.requires.parted copied c.part_of-number.ensures.value c.index_mut.ensures.value in
    record {
      within = c.requires.can.within;
      codes = c.requires.can.codes;
      coded = c.requires.can.coded;
      none = λ other. there ∙ c.requires.can.none other;
      some = λ chest. subst IsSome (sym there) (c.requires.can.some chest);
    }

pub returns-clause-parted : goal.returns-clause-parted
returns-clause-parted g c =
    let chests = g.P.HasChests.chests in
    let old = (arc_value c.args.shared.now).items in
    let own = c.in_ok-parts.parts.now.items in
    let copied = parts_taken chests g.P.Clone.is_clone g.met.P.HasChests.copied _ _ c.in_ok-parts.ensures.value in
    let whole = ap (λ (v : Vec _). v.items) (c.make_mut.follows.holds _ (ap is_ok c.in_ok-parts.was)) in
    subst (AreParted chests c.args.stride) (sym whole) (either_way c.put_down.result c.put_down.ensures.chests c.put_down.ensures.err
    (λ changed. (part_changed chests c.args.stride old own c.args.index c.part_of-number.result _ c.put_down.new.self c.requires.parted copied c.part_of-number.ensures.value c.index_mut.ensures.value _ changed).0)
    (λ left. (part_still chests c.args.stride old own c.args.index c.part_of-number.result _ c.put_down.new.self c.requires.parted copied c.part_of-number.ensures.value c.index_mut.ensures.value left.1).0))

pub returns-clause-chests : goal.returns-clause-chests
returns-clause-chests g c =
    let chests = g.P.HasChests.chests in
    let old = (arc_value c.args.shared.now).items in
    let own = c.in_ok-parts.parts.now.items in
    let copied = parts_taken chests g.P.Clone.is_clone g.met.P.HasChests.copied _ _ c.in_ok-parts.ensures.value in
    let whole = ap (λ (v : Vec _). v.items) (c.make_mut.follows.holds _ (ap is_ok c.in_ok-parts.was)) in
    on_ok_weaker c.put_down.result
    (λ changed. subst (λ (ps : List _). Changes (chests_of chests old) (chests_of chests ps) c.args.index (begun (is_chest (cell_of c.args.code)))) (sym whole)
    (part_changed chests c.args.stride old own c.args.index c.part_of-number.result _ c.put_down.new.self c.requires.parted copied c.part_of-number.ensures.value c.index_mut.ensures.value _ changed).1)
    c.put_down.ensures.chests

pub returns-clause-err : goal.returns-clause-err
returns-clause-err g c =
    let chests = g.P.HasChests.chests in
    let old = (arc_value c.args.shared.now).items in
    let own = c.in_ok-parts.parts.now.items in
    let copied = parts_taken chests g.P.Clone.is_clone g.met.P.HasChests.copied _ _ c.in_ok-parts.ensures.value in
    let whole = ap (λ (v : Vec _). v.items) (c.make_mut.follows.holds _ (ap is_ok c.in_ok-parts.was)) in
    on_err_weaker c.put_down.result
    (λ left. (
      left.0,
      subst (λ (ps : List _). SameSlots (chests_of chests old) (chests_of chests ps)) (sym whole)
          (part_still chests c.args.stride old own c.args.index c.part_of-number.result _ c.put_down.new.self c.requires.parted copied c.part_of-number.ensures.value c.index_mut.ensures.value left.1).1,
    ))
    c.put_down.ensures.err
