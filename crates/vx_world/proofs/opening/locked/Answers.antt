use Rattle.std.proofs.Common.{◌≡◌, length, ap, ◌∙◌, subst, arith}
use Rattle.std.proofs.lemmas.List.Elements.{All-head, All-rest}
use Rattle.std.specs.List.{All}
use Rattle.vx_sector.specs.SectorData.{SectorData}
use Rattle.vx_sector.specs.Windows.{count_of}
use Rattle.vx_keeper.specs.Marks.{IsPartOf}
use Rattle.vx_world.proofs.opening.locked.Goals as goal

pub locked_slot-requires-clause-none : goal.locked_slot-requires-clause-none
locked_slot-requires-clause-none g c =
    let P : SectorData → Type 0 = λ s. count_of s ≡ 0 in
    All-head P _ _ (subst (All P) c.in-Some.ensures.steps.0 c.loop-sector.invariant.0)

pub loop-sector-preserved : goal.loop-sector-preserved
loop-sector-preserved g c =
    let left = c.in-Some.ensures.steps.0 in
    let before = c.loop-sector.invariant in (
      All-rest (λ (s : SectorData). count_of s ≡ 0) _ _ _ left before.0,
      All-rest (IsPartOf c.args.keeper.now.world) _ _ _ left before.1,
      omega (arith, c.locked_slot.ensures.parts, before.2, ap length left),
      c.locked_slot.ensures.amount,
      omega (arith, c.push_reserved.ensures.len, c.locked_slot.ensures.parts, before.4),
      c.push_reserved.ensures.capacity ∙ before.5,
    )
