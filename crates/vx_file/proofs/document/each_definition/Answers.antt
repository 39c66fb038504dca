use Rattle.std.proofs.Common.{map, ap}
use Rattle.std.proofs.lemmas.List.{drop_all}
use Rattle.toml.specs.View.{view}
use Rattle.vx_file.specs.RegionsFile.{definition_at}
use Rattle.vx_file.proofs.InTurn.{next_left, turned, all_added}
use Rattle.vx_file.proofs.document.each_definition.Goals as goal

pub loop-value-preserved : goal.loop-value-preserved
loop-value-preserved c =
    turned (definition_at c.args.version) _ _ _ _ c.loop-value.invariant _ _
    (ap (map view) (next_left c.args.values.now c.loop-value.value-index c.value-item.result c.loop-value-test.true c.value-item.is))
    _ c.in_ok-definition.ensures

pub returns : goal.returns
returns c =
    all_added (definition_at c.args.version) _ _ _ _ c.loop-value.invariant
    (ap (map view) (drop_all c.loop-value.value-index c.args.values.now c.loop-value-test.false))
