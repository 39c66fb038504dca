use Rattle.std.proofs.Common.{sym, subst, ◌∙◌, refl}
use Rattle.vx_cells.specs.Maps.{cell_on}
use Rattle.vx_levels.specs.Repairs.{IsUnderRepair}
use Rattle.vx_levels.proofs.Mending.{begun_right, all_right}
use Rattle.vx_levels.proofs.repairing.repair.Goals as goal

pub loop-init : goal.loop-init
loop-init c =
    let w = cell_on c.args.map.now in
    record {
      right = subst (IsUnderRepair w c.args.levels.now) (sym c.at-pending.ensures)
          (begun_right w c.args.levels.now c.args.unsure.items c.requires);
      changes = λ p none. refl;
    }

pub loop-preserved : goal.loop-preserved
loop-preserved c = record {
  right = c.in_ok-turn.ensures.right;
  changes = λ p none.
      let after = c.in_ok-turn.ensures.follows p none in
      after.1 ∙ c.loop.invariant.changes p after.0;
}

pub turn-requires : goal.turn-requires
turn-requires c = c.loop.invariant.right

pub returns-then-is_empty-clause-right : goal.returns-then-is_empty-clause-right
returns-then-is_empty-clause-right c =
    let w = cell_on c.args.map.now in
    all_right w c.loop.levels (subst (IsUnderRepair w c.loop.levels) (c.if-is_empty.ensures refl) c.loop.invariant.right)

pub returns-then-is_empty-clause-changes : goal.returns-then-is_empty-clause-changes
returns-then-is_empty-clause-changes c = c.loop.invariant.changes
