use Rattle.std.proofs.Common.{refl, ap, ◌∙◌, arith}
use Rattle.vx_power.specs.Levels.{level_in}
use Rattle.vx_power.proofs.Tables.{level_still}
use Rattle.vx_levels.proofs.words.Words.reach_sheet.Goals as goal

pub loop-self-init : goal.loop-self-init
loop-self-init c = λ p. refl

pub loop-self-preserved : goal.loop-self-preserved
loop-self-preserved c = λ p.
    ap (λ table. level_in table p) c.in_ok-push.ensures.items
    ∙ level_still c.loop-self.self-inside.sheets.items p ∙ c.loop-self.invariant p

pub returns : goal.returns
returns c = record {
  there = omega (arith, c.loop-self-test.false, c.len.ensures, c.loop-self.self-inside.sheets.ok.0);
  same = rw (← c.self.view_is) c.loop-self.invariant;
}
