use Rattle.std.proofs.Common.{◌≡◌, drop, map}
use Rattle.toml.specs.View.{view}
use Rattle.vx_policy.specs.Asked.{asked}
use Rattle.vx_file.specs.FileReads.{behind}
use Rattle.vx_file.specs.FileValues.{joined}
use Rattle.vx_file.specs.RegionsFile.{definition_at}
use Rattle.vx_file.proofs.document.each_definition.Given as goal

-- what is left means the edits that are missing
abbrev pub invariant-loop-value : goal.invariant-loop-value
invariant-loop-value l =
    behind (map asked l.edits.items) (joined (map (definition_at l.version) (map view (drop l.value-index l.values))))
    ≡ behind (map asked l.initial.edits.items) (joined (map (definition_at l.version) (map view l.values)))
