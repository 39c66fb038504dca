use Rattle.std.proofs.Common.{◌≡◌, rules}
use Rattle.vx_base.proofs.Named.{none_named}
use Rattle.vx_flag.specs.Group.{group_text, groups, group_of}
use Rattle.vx_flag.specs.declared.group.Group.{Group}
use Rattle.vx_flag.proofs.group.Group.read.Goals as goal

pub returns-in_default-clause-named : goal.returns-in_default-clause-named
unfolding group_of
returns-in_default-clause-named c =
    let unlike : (g : Group) → group_text g ≡ c.args.text.now → ⊥ = search rules in
    none_named group_text groups c.args.text.now unlike
