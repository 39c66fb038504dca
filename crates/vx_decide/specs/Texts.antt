use Rattle.std.specs.Prelude.{ℕ, List, ◌++◌, codes, decimal}
use Rattle.vx_flag.specs.Flag.{flag_text}
use Rattle.vx_decide.specs.declared.rule.Rule.{Rule}
use Rattle.vx_decide.specs.declared.rule.Rule.TheVariants as rule

-- the words of a rule in a reply
abbrev pub rule_text : Rule → List ℕ
rule_text (rule.Flag flag at from) =
    codes "flag " ++ flag_text flag ++ codes " at " ++ decimal at.0
    ++ codes " from " ++ decimal from.0
rule_text (rule.Build at from) =
    codes "build at " ++ decimal at.0 ++ codes " from " ++ decimal from.0
rule_text (rule.Member at) = codes "member at " ++ decimal at.0
rule_text rule.Default = codes "default"
