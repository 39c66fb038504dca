use Rattle.std.proofs.Common.{◌≡◌, ◌+◌, ◌<◌, true, ◌++◌, ◌∷◌, [], length, map, take, get_or, None, MatchOption, unwrap_or, sym, ap, ◌∙◌, subst, arith}
use Rattle.std.proofs.lemmas.List.{length-map, length-take, take_all, take_more}
use Rattle.vx_sector.specs.SectorData.{SectorData, FreshData}
use Rattle.vx_windows.specs.Sectors.{AreQuiet, cells_of, next_of, nexts, window_over, with_changes}
use Rattle.vx_windows.proofs.Changing.{as_many_changed, as_many_quiet, quiet_at, quiet_more}
use Rattle.vx_windows.proofs.Onward.{begins_over, nexts_more, no_next, none_changed, over_at}
use Rattle.vx_windows.proofs.changes.all_fresh.Goals as goal

pub loop-at-init : goal.loop-at-init
loop-at-init c =
    let ss = c.args.sectors.now in (
      ap (nexts c.args.version.now.tick ss) c.in_ok-all.ensures.items ∙ no_next c.args.version.now.tick ss,
      subst (AreQuiet (take 0 ss)) (sym c.in_ok-all.ensures.items) tt,
    )

pub bounds-changes-at : goal.bounds-changes-at
bounds-changes-at c = omega (arith, as_many_quiet c.args.sectors.now c.args.changes.now c.requires.quiet, c.loop-at-test.true)

pub loop-at-preserved : goal.loop-at-preserved
loop-at-preserved c =
    let ss = c.args.sectors.now in
    let ys = c.args.changes.now in
    let v = c.args.version.now in
    let i = c.loop-at.at in
    let s = c.index-sectors-at.result in
    let y = c.index-changes-at.result in
    let fs = c.loop-at.all.items in
    let f = c.in_ok-fresh_over.field-0 in
    let windows = map (window_over v) (with_changes (map cells_of ss) ys) in
    let w : FreshData = window_over v s.cells in
    let within : i < length ss = c.loop-at-test.true in
    let near : i < length ys = omega (arith, as_many_quiet ss ys c.requires.quiet, within) in
    let many : length fs ≡ i = omega (arith, as_many_quiet (take i ss) fs c.loop-at.invariant.1, length-take i ss, within) in
    let all : i < length windows =
    omega (arith, within, length-map (with_changes (map cells_of ss) ys) (window_over v), as_many_changed (map cells_of ss) ys, length-map ss cells_of) in
    let over : MatchOption f ((y ≡ None) × (c.args.is_same_policy ≡ true)) (λ fresh. fresh ≡ window_over v (unwrap_or y s.cells)) =
    subst (λ cells. MatchOption f ((y ≡ None) × (c.args.is_same_policy ≡ true)) (λ fresh. fresh ≡ window_over v (unwrap_or y cells))) c.cells.ensures.cells c.in_ok-fresh_over.ensures in
    let policy : c.args.is_same_policy ≡ true → record s.version { tick = v.tick } ≡ v =
    λ is. subst (λ (t : SectorData). record t.version { tick = v.tick } ≡ v) (sym c.index-sectors-at.is) (c.requires.same is i s within) in
    let quiet : f ≡ None → s.entries ≡ [] =
    λ none. ap (λ (t : SectorData). t.entries) c.index-sectors-at.is
    ∙ quiet_at ss ys i s y c.requires.quiet within (sym c.index-changes-at.is ∙ none_changed c.args.is_same_policy y f (window_over v (unwrap_or y s.cells)) over none) in
    let here : next_of v.tick (get_or ss (length fs) s) f ≡ get_or windows i w =
    ap (λ k. next_of v.tick (get_or ss k s) f) many ∙ ap (λ t. next_of v.tick t f) (sym c.index-sectors-at.is) ∙ begins_over v c.args.is_same_policy s y f policy over
    ∙ (λ j. window_over v (unwrap_or (c.index-changes-at.is j) (c.index-sectors-at.is j).cells)) ∙ sym (over_at v ss ys i s y w within near) in
    let one_more = ap (λ t. take i ss ++ t ∷ []) c.index-sectors-at.is ∙ sym (take_more ss i s within) in (
      ap (nexts v.tick ss) c.in_ok-push.ensures.items ∙ nexts_more v.tick ss fs f s (omega (arith, many, within))
          ∙ (λ j. c.loop-at.invariant.0 j ++ (here j ∷ [])) ∙ sym (take_more windows i w all),
      subst (AreQuiet (take (i + 1) ss)) (sym c.in_ok-push.ensures.items)
          (subst (λ ts. AreQuiet ts (fs ++ f ∷ [])) one_more (quiet_more (take i ss) fs s f c.loop-at.invariant.1 quiet)),
    )

pub returns-clause-fresh : goal.returns-clause-fresh
returns-clause-fresh c =
    let ss = c.args.sectors.now in
    let windows = map (window_over c.args.version.now) (with_changes (map cells_of ss) c.args.changes.now) in
    c.loop-at.invariant.0 ∙ take_all c.loop-at.at windows
    (omega (arith, c.loop-at-test.false, length-map (with_changes (map cells_of ss) c.args.changes.now) (window_over c.args.version.now), as_many_changed (map cells_of ss) c.args.changes.now, length-map ss cells_of))

pub returns-clause-quiet : goal.returns-clause-quiet
returns-clause-quiet c =
    subst (λ ts. AreQuiet ts c.loop-at.all.items) (take_all c.loop-at.at c.args.sectors.now c.loop-at-test.false) c.loop-at.invariant.1
