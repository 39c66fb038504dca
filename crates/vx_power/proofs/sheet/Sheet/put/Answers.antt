use Rattle.std.proofs.Common.{Some, set, sym, ap, subst, ◌∙◌}
use Rattle.vx_power.specs.Levels.{IsSheet, level_of}
use Rattle.vx_power.proofs.Tables.{sheet_put, sheet_is}
use Rattle.vx_power.proofs.sheet.Sheet.put.Goals as goal

pub invariant_of-self : goal.invariant_of-self
invariant_of-self c =
    let sheet = c.self.inside.bytes.items in
    subst (λ k. IsSheet (set sheet k c.args.level)) (sym c.column.ensures.value)
    (sheet_is sheet c.args.p c.args.level c.requires.place c.self.invariant.whole c.self.invariant c.requires.most)

pub returns : goal.returns
returns c =
    let sheet = c.self.inside.bytes.items in
    rw (← c.self.view_is)
    (λ q here. ap (λ k. level_of (Some (set sheet k c.args.level)) q) c.column.ensures.value
    ∙ sheet_put sheet c.args.p c.args.level c.requires.place c.self.invariant.whole q here)
