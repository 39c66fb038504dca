use Rattle.std.proofs.Common.{◌+◌, ◌-◌, ◌%◌, ◌≤◌, sym, subst}
use Rattle.std.proofs.lemmas.Bool.{eqb-true}
use Rattle.vx_geom.specs.Sizes.{span}
use Rattle.vx_power.proofs.Bare.{has_west, row_held, bare_row}
use Rattle.vx_power.proofs.nearby.is_bare_row.Goals as goal

pub overflow_sub-column_of : goal.overflow_sub-column_of
overflow_sub-column_of c =
    subst (λ n. 1 ≤ n) (sym c.column_of.ensures)
    (has_west c.args.map.now c.args.cells.now c.args.p c.soundness.ensures c.requires.around)

pub components_in_row-requires-clause-here : goal.components_in_row-requires-clause-here
components_in_row-requires-clause-here c =
    row_held c.args.map.now c.args.cells.now c.args.p c.soundness.ensures c.requires.around c.args.other c.args.row c.requires.close
    c.column_of.result c.layer_of.result c.column_of.ensures c.layer_of.ensures

pub components_in_row-requires-clause-within : goal.components_in_row-requires-clause-within
components_in_row-requires-clause-within c =
    let width = span c.args.cells.now.bounds in
    subst (λ n. (n - 1) % width + 3 ≤ width) (sym c.column_of.ensures) c.requires.around.columns

pub returns : goal.returns
returns c none q close in_layer in_row =
    bare_row c.args.map.now c.args.cells.now c.args.p c.soundness.ensures c.requires.around c.args.other c.args.row c.requires.close
    c.column_of.result c.layer_of.result c.column_of.ensures c.layer_of.ensures
    c.components_in_row.result (eqb-true c.components_in_row.result 0 none) c.components_in_row.ensures q close in_layer in_row
