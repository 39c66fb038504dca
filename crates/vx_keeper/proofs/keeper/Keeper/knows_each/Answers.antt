use Rattle.std.proofs.Common.{◌<◌, ◌+◌, false, Some, length, sym, ap, ◌∙◌, subst, arith}
use Rattle.std.proofs.lemmas.List.{take_all}
use Rattle.std.proofs.lemmas.List.Elements.{All-more}
use Rattle.vx_sector.specs.SectorData.{SectorData}
use Rattle.vx_record.specs.Settling.{IsKnown}
use Rattle.vx_keeper.specs.Busy.{AreBusyOf}
use Rattle.vx_keeper.specs.Keepers.{KeeperData, known}
use Rattle.vx_keeper.specs.Marks.{IsPartOf}
use Rattle.vx_keeper.proofs.Parts.{as_many_said, part_at}
use Rattle.vx_keeper.proofs.Renewing.{ascend_more}
use Rattle.vx_keeper.proofs.keeper.Keeper.knows_each.Goals as goal

pub bounds-are_parts-at : goal.bounds-are_parts-at
bounds-are_parts-at g c =
    let many = as_many_said c.args.self.now.world c.args.are_parts.now c.args.sectors.now c.requires.parts in
    omega (arith, many, c.loop-at-test.true)

pub knows-requires-clause-part : goal.knows-requires-clause-part
knows-requires-clause-part g c is =
    subst (IsPartOf c.args.self.now.world) (sym c.index-sectors-at.is)
    (part_at c.args.self.now.world c.args.are_parts.now c.args.sectors.now c.requires.parts c.loop-at.at false
    c.index-sectors-at.result c.loop-at-test.true is)

pub loop-at-preserved : goal.loop-at-preserved
loop-at-preserved g c =
    let k = c.args.self.now in
    let s = c.index-sectors-at.result in
    let n = c.number_of-number.result in
    let counts = c.counts.ensures ∙ ap (λ (k : KeeperData). k.counts) c.self.view_is in
    let below : s.base.sector < length k.counts =
    omega (arith, c.number_of-number.ensures, c.if-counts-number.false, ap length counts) in
    let is : IsKnown (Some s) (known k s.base.sector) =
    subst (λ m. IsKnown (Some s) (known k m)) c.number_of-number.ensures (c.knows.ensures.0 c.if-not-knows.false) in
    let knows = λ (t : SectorData). (t.base.sector < length k.counts) × IsKnown (Some t) (known k t.base.sector) in
    let lower = λ (t : SectorData). t.base.sector < n + 1 in
    let ss = c.args.sectors.now in
    let at = c.loop-at.at in
    let within = c.loop-at-test.true in
    let before = c.loop-at.invariant in (
      (
        All-more knows ss at s within before.0.0 (subst knows c.index-sectors-at.is (below, is)),
        ascend_more ss at c.loop-at.least s within c.index-sectors-at.is before.0.1 before.1
            (omega (arith, c.number_of-number.ensures, c.if-number-least.false)),
      ),
      All-more lower ss at s within (λ i d near. omega (arith, before.1 i d near, c.if-number-least.false))
          (subst lower c.index-sectors-at.is (omega (arith, c.number_of-number.ensures))),
    )

pub returns : goal.returns
returns g c is =
    subst (AreBusyOf c.args.self.now) (take_all c.loop-at.at c.args.sectors.now c.loop-at-test.false) c.loop-at.invariant.0
