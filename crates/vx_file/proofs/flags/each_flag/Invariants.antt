use Rattle.std.proofs.Common.{◌≡◌, drop, map}
use Rattle.toml.specs.Data.{get_member}
use Rattle.toml.specs.View.{table_view}
use Rattle.vx_flag.specs.Flag.{flag_text}
use Rattle.vx_policy.specs.Asked.{asked}
use Rattle.vx_file.specs.FileReads.{behind}
use Rattle.vx_file.specs.FileValues.{joined}
use Rattle.vx_file.specs.RegionsFile.{if_there, flag_in}
use Rattle.vx_file.proofs.flags.each_flag.Given as goal

-- what is left means the edits that are missing
abbrev pub invariant-loop-flag : goal.invariant-loop-flag
invariant-loop-flag l =
    behind (map asked l.edits.items) (joined (map (λ flag. if_there (flag_in l.id flag) (get_member (flag_text flag) (table_view l.table))) (drop l.flag-index l.flags)))
    ≡ behind (map asked l.initial.edits.items) (joined (map (λ flag. if_there (flag_in l.id flag) (get_member (flag_text flag) (table_view l.table))) l.flags))
