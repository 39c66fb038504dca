use Rattle.std.proofs.Common.{◌≡◌, rules}
use Rattle.vx_base.proofs.Named.{none_named}
use Rattle.vx_flag.specs.Flag.{flag_text, flags, flag_of}
use Rattle.vx_flag.specs.declared.flag.Flag.{Flag}
use Rattle.vx_flag.proofs.flag.Flag.read.Goals as goal

pub returns-in_default-clause-named : goal.returns-in_default-clause-named
unfolding flag_of
returns-in_default-clause-named c =
    let unlike : (f : Flag) → flag_text f ≡ c.args.text.now → ⊥ = search rules in
    none_named flag_text flags c.args.text.now unlike
