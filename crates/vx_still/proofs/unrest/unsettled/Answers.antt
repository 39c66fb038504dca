use Rattle.std.proofs.Common.{◌≡◌, true, not, ◌&&◌, nat_eq, [], ◌++◌, IfSome, sym, ap, subst, ◌∙◌}
use Rattle.std.specs.List.{list_any}
use Rattle.std.proofs.lemmas.Bool.{or_left}
use Rattle.vx_cells.specs.Maps.{cell_on}
use Rattle.vx_geom.specs.declared.pos.Pos.{Pos}
use Rattle.vx_geom.specs.Sizes.{is_inside}
use Rattle.vx_levels.specs.Linked.{level_at}
use Rattle.vx_levels.specs.Repairs.{ChangesAt, IsRight, IsRightBut}
use Rattle.vx_places.specs.Around.{is_kind_around}
use Rattle.vx_places.specs.Places.{is_at, steps_between}
use Rattle.vx_power.specs.Levels.{has}
use Rattle.vx_power.specs.Spreading.{fed_by}
use Rattle.vx_power.specs.Turning.{all_on}
use Rattle.vx_store.specs.declared.mark_kind.MarkKind.TheVariants.{Component, Device}
use Rattle.vx_still.specs.Telling.{AreMarkedFrom, AreTold}
use Rattle.vx_still.specs.Unheeded.{AreUnheeded}
use Rattle.vx_still.specs.Waking.{WakingData, with_rebuilt}
use Rattle.vx_still.proofs.Marking.{heeders_still}
use Rattle.vx_still.proofs.Unsettling.{around_marked, besides_marked, forgotten, mirror_right, rests_unmarked, still_told}
use Rattle.vx_still.proofs.unrest.unsettled.Goals as goal
use Rattle.vx_still.proofs.unrest.unsettled.Goals.{After-forget_all}

-- where the map is not still, with what was written
abbrev all : After-forget_all → WakingData
all c = with_rebuilt c.args.waking.now c.args.written.now

rebuilt_is : (c : After-forget_all) → c.extend_from_slice.new.self.items ≡ (all c).rebuilt
rebuilt_is c =
    c.in_ok-extend_from_slice.ensures.items
    ∙ ap (λ ps. ps ++ c.args.written.now)
    (c.in_ok-rebuilt.ensures.items ∙ c.deref.ensures.value ∙ ap (λ d. d.rebuilt) c.waking.view_is)

-- what is listed sees what was rebuilt
sight : (c : After-forget_all) (p : Pos) → has c.in_ok-unsure.unsure.items p
    ≡ (is_inside c.args.map.now.sizes p
    && list_any (λ d. is_kind_around Component (cell_on c.args.map.now) d 2 p) (all c).rebuilt)
sight c p =
    c.in_ok-unsure.ensures p
    ∙ ap (λ ps. is_inside c.args.map.now.sizes p
    && list_any (λ d. is_kind_around Component (cell_on c.args.map.now) d 2 p) ps) (c.as_slice.ensures.value ∙ rebuilt_is c)

listed_is : (c : After-forget_all) → c.extend_from_slice-2.new.self.items ≡ c.in_ok-unsure.unsure.items ++ (all c).rebuilt
listed_is c =
    c.in_ok-extend_from_slice-2.ensures.items
    ∙ ap (λ ps. c.in_ok-unsure.unsure.items ++ ps) (c.as_slice-2.ensures.value ∙ rebuilt_is c)

-- so what is known of the rest of the dust that no device heeds holds on the whole map
unheeded : (c : After-forget_all) → AreUnheeded c.args.map.now [] c.forget_all.new.self
unheeded c =
    forgotten c.args.map.now (all c).rebuilt c.in_ok-unsure.unsure.items c.args.dust.now.unheeded c.forget_all.new.self
    c.requires.mirror.unheeded (sight c)
    (λ q. c.forget_all.ensures.forgotten q
    ∙ ap (λ ps. is_at c.args.dust.now.unheeded q && not (list_any (λ p. nat_eq (steps_between p q) 0) ps))
    (c.as_slice-3.ensures.value ∙ listed_is c))

pub repair-requires : goal.repair-requires
repair-requires c =
    let b = (goal.at.repair-requires c).After-forget_all in
    let m = c.args.map.now in
    subst (IsRightBut (cell_on m) c.args.dust.now.levels)
    (ap (λ ps. ps ++ fed_by (all_on (cell_on m)) (all b).turned) (sym (listed_is b))
    ∙ ap (λ ps. c.extend_from_slice-2.new.self.items ++ fed_by (all_on (cell_on m)) ps)
    (sym (c.as_slice-4.ensures.value ∙ ap (λ d. d.turned) c.waking.view_is))
    ∙ sym c.in_ok-add_all_fed.ensures)
    (mirror_right m (all b) c.in_ok-unsure.unsure.items c.args.dust.now c.requires.still c.requires.mirror (sight b))

pub returns-then-components-saturating_mul-clause-dust : goal.returns-then-components-saturating_mul-clause-dust
returns-then-components-saturating_mul-clause-dust c =
    let b = (goal.at.returns-then-components-saturating_mul-clause-dust c).After-forget_all in
    record {
      right = subst (λ o. IfSome o (λ p. IsRight (cell_on c.args.map.now) c.repair.new.levels)) c.in-Some.is c.in_ok-put.ensures.right;
      unheeded = unheeded b;
    }

pub tell_all-requires-clause-dust : goal.tell_all-requires-clause-dust
tell_all-requires-clause-dust c =
    let b = (goal.at.tell_all-requires-clause-dust c).After-forget_all in
    record {
      right = subst (λ o. IfSome o (λ p. IsRight (cell_on c.args.map.now) c.repair.new.levels)) c.in-Some.is c.in_ok-put.ensures.right;
      unheeded = unheeded b;
    }

pub returns-clause-look : goal.returns-clause-look
returns-clause-look c =
    let b = (goal.at.returns-clause-look c).After-forget_all in
    let m = c.args.map.now in
    let is = rebuilt_is b in
    let put = c.in-Some.put.items in
    let old = c.args.dust.now in
    let new = c.repair.new.levels in
    let level = level_at new in
    let first = c.mark_around_all.new.places in
    let heeded = c.mark_all_heeders.new.places in
    let second = c.mark_all.new.self in
    let third = c.tell_all.new.places in
    let last = c.tell_all-2.new.places in
    let sizes_0 = c.new-places.ensures.sizes ∙ c.bounds.ensures in
    let sizes_1 = c.mark_around_all.ensures.sizes ∙ sizes_0 in
    let sizes_2 = c.in_ok-mark_all_heeders.ensures.sizes ∙ sizes_1 in
    let after_marks : (q : Pos) → is_at second q ≡ true → is_at last q ≡ true =
    λ q at. c.in_ok-tell_all-2.ensures.kept q (c.in_ok-tell_all.ensures.kept q at) in
    let after_heeded : (q : Pos) → is_at heeded q ≡ true → is_at last q ≡ true =
    λ q at. after_marks q (c.in_ok-mark_all.ensures.marked q ∙ or_left (is_at heeded q) _ at) in
    let after_first : (q : Pos) → is_at first q ≡ true → is_at last q ≡ true =
    λ q at. after_heeded q (c.in_ok-mark_all_heeders.ensures.kept q at) in
    let sizes_4 = c.in_ok-tell_all-2.ensures.sizes ∙ c.in_ok-tell_all.ensures.sizes ∙ c.mark_all.ensures.sizes ∙ sizes_2 in (
      sizes_4,
      rests_unmarked m (all b) put old new last c.requires.still c.requires.mirror
          (subst (λ o. IfSome o (λ p. IsRight (cell_on m) new)) c.in-Some.is c.in_ok-put.ensures.right)
          (subst (λ o. IfSome o (λ p. ChangesAt p.items old.levels new)) c.in-Some.is c.in_ok-put.ensures.changes)
          (λ q there. still_told m level third last q c.in_ok-tell_all-2.ensures.kept
          (subst (AreTold m level third) (c.as_slice-8.ensures.value ∙ is) c.in_ok-tell_all.ensures.told q there))
          (subst (λ t. AreTold m (level_at t) last put) c.in_ok-tell_all.ensures.levels
          (subst (AreTold m (level_at c.tell_all.new.dust.levels) last) c.as_slice-9.ensures.value c.in_ok-tell_all-2.ensures.told))
          (λ q there. heeders_still m heeded last q after_heeded
          (subst (AreMarkedFrom m heeded) (c.as_slice-6.ensures.value ∙ ap (λ d. d.turned) c.waking.view_is)
          c.in_ok-mark_all_heeders.ensures.marked q there))
          (λ q stands near. after_first q
          (around_marked m c.as_slice-5.result.now c.new-places.result first sizes_0 c.in_ok-mark_around_all.ensures.marked q stands
          (ap (list_any (λ d. is_kind_around Device (cell_on m) d 4 q)) (c.as_slice-5.ensures.value ∙ is) ∙ near)))
          (λ q stands listed. after_marks q
          (besides_marked m c.as_slice-7.result.now heeded second sizes_2 c.in_ok-mark_all.ensures.marked q stands
          (subst (λ ps. has ps q ≡ true) (sym (c.as_slice-7.ensures.value ∙ ap (λ d. d.besides) c.waking.view_is)) listed))),
    )
