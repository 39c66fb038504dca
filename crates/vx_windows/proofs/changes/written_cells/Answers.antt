use Rattle.std.proofs.Common.{◌≡◌, ◌+◌, ◌<◌, ◌++◌, ◌∷◌, [], length, map, take, get_or, unwrap_or, sym, ap, ◌∙◌, subst, arith}
use Rattle.std.proofs.lemmas.List.{length-take, take_all, take_more}
use Rattle.vx_sector.specs.SectorData.{SectorData}
use Rattle.vx_windows.specs.Sectors.{AreQuiet, cells_of, with_changes}
use Rattle.vx_windows.proofs.Changing.{as_many_quiet, changed_none, quiet_more, same_more}
use Rattle.vx_windows.proofs.changes.written_cells.Goals as goal

pub loop-sector-init : goal.loop-sector-init
loop-sector-init c =
    let ss = c.args.sectors.now in (
      ap (with_changes (map cells_of ss)) c.in_ok-changes.ensures.items ∙ changed_none (map cells_of ss),
      subst (AreQuiet (take 0 ss)) (sym c.in_ok-changes.ensures.items) tt,
    )

pub loop-sector-preserved : goal.loop-sector-preserved
loop-sector-preserved c =
    let ss = c.args.sectors.now in
    let i = c.loop-sector.sector-index in
    let s = c.sector-item.result in
    let ys = c.loop-sector.changes.items in
    let y = c.in_ok-written_in.field-0 in
    let within : i < length ss = c.loop-sector-test.true in
    let many : length ys ≡ i = omega (arith, as_many_quiet (take i ss) ys c.loop-sector.invariant.1, length-take i ss, within) in
    let same = subst (λ (t : SectorData). unwrap_or y t.cells ≡ t.cells) (c.sector-item.is ∙ ap (λ k. get_or ss k s) (sym many)) c.in_ok-written_in.ensures.same in
    let one_more = ap (λ t. take i ss ++ t ∷ []) c.sector-item.is ∙ sym (take_more ss i s within) in (
      ap (with_changes (map cells_of ss)) c.in_ok-push.ensures.items ∙ same_more ss ys y s (omega (arith, many, within)) same c.loop-sector.invariant.0,
      subst (AreQuiet (take (i + 1) ss)) (sym c.in_ok-push.ensures.items)
          (subst (λ ts. AreQuiet ts (ys ++ y ∷ [])) one_more (quiet_more (take i ss) ys s y c.loop-sector.invariant.1 c.in_ok-written_in.ensures.quiet)),
    )

pub returns-clause-quiet : goal.returns-clause-quiet
returns-clause-quiet c =
    subst (λ ts. AreQuiet ts c.loop-sector.changes.items) (take_all c.loop-sector.sector-index c.args.sectors.now c.loop-sector-test.false) c.loop-sector.invariant.1
