use Rattle.std.proofs.Common.{◌+◌, ◌-◌, ◌≤◌, inl, inr, sym, subst, arith}
use Rattle.vx_power.proofs.Bare.{has_north, close_row, in_rows}
use Rattle.vx_power.proofs.nearby.is_bare.Goals as goal

pub overflow_sub-row : goal.overflow_sub-row
overflow_sub-row c =
    subst (λ n. 1 ≤ n) (sym c.row_of-row.ensures.value)
    (has_north c.args.map.now c.args.cells.now c.args.p c.soundness.ensures c.requires.around)

pub is_bare_row-requires-clause-close : goal.is_bare_row-requires-clause-close
is_bare_row-requires-clause-close c =
    close_row c.args.map.now c.args.cells.now c.args.p c.soundness.ensures c.requires.around c.args.other c.requires.close
    c.row_of-row.result (c.row_of-row.result - 1) c.row_of-row.ensures.value (omega arith) (omega arith)

pub is_bare_row-requires-2-clause-close : goal.is_bare_row-requires-2-clause-close
is_bare_row-requires-2-clause-close c =
    close_row c.args.map.now c.args.cells.now c.args.p c.soundness.ensures c.requires.around c.args.other c.requires.close
    c.row_of-row.result c.row_of-row.result c.row_of-row.ensures.value (omega arith) (omega arith)

pub is_bare_row-requires-3-clause-close : goal.is_bare_row-requires-3-clause-close
is_bare_row-requires-3-clause-close c =
    close_row c.args.map.now c.args.cells.now c.args.p c.soundness.ensures c.requires.around c.args.other c.requires.close
    c.row_of-row.result (c.row_of-row.result + 1) c.row_of-row.ensures.value (omega arith) (omega arith)

pub returns : goal.returns
returns c south q close in_layer =
    elim (in_rows c.args.map.now c.args.cells.now c.args.p c.soundness.ensures c.requires.around q close c.row_of-row.result c.row_of-row.ensures.value) [
      | inl first ↦ c.is_bare_row.ensures c.if-not-is_bare_row.false q close in_layer first
      | inr rest ↦ elim rest [
        | inl second ↦ c.is_bare_row-2.ensures c.if-not-is_bare_row-2.false q close in_layer second
        | inr third ↦ c.is_bare_row-3.ensures south q close in_layer third
      ]
    ]
