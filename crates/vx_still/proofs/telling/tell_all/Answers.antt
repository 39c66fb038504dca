use Rattle.std.proofs.Common.{◌≡◌, suc, ◌+◌, take, length, refl, sym, ap, subst, ◌∙◌, arith}
use Rattle.std.proofs.Math.Seq.{take-suc, take-length}
use Rattle.std.proofs.lemmas.Bool.{false≢true}
use Rattle.vx_levels.specs.Linked.{level_at}
use Rattle.vx_still.specs.Telling.{AreTold}
use Rattle.vx_still.proofs.Told.{told_more_by}
use Rattle.vx_still.proofs.telling.tell_all.Goals as goal

pub loop-p-init : goal.loop-p-init
loop-p-init c = record {
  sizes = refl;
  kept = λ q is. is;
  told = λ p there. absurd (false≢true there);
  levels = refl;
  dust = c.requires.dust;
}

pub tell-requires-clause-sizes : goal.tell-requires-clause-sizes
tell-requires-clause-sizes c = c.loop-p.invariant.sizes ∙ c.requires.sizes

pub loop-p-preserved : goal.loop-p-preserved
loop-p-preserved c =
    let m = c.args.map.now in
    let positions = c.args.positions.now in
    let k = c.loop-p.p-index in
    let within = c.loop-p-test.true in
    let level = level_at c.args.dust.now.levels in
    let new = c.tell.new.places in
    let next : suc k ≡ k + 1 = omega arith in
    record {
      sizes = c.in_ok-tell.ensures.sizes ∙ c.loop-p.invariant.sizes;
      kept = λ q is. c.in_ok-tell.ensures.kept q (c.loop-p.invariant.kept q is);
      told = subst (AreTold m level new)
          (sym (take-suc positions k _ (omega (arith, within))) ∙ ap (λ n. take n positions) next)
          (told_more_by m c.args.dust.now.levels c.loop-p.dust.levels c.loop-p.places new (take k positions) _ c.loop-p.invariant.levels
          c.in_ok-tell.ensures.kept c.loop-p.invariant.told c.in_ok-tell.ensures.told);
      levels = c.in_ok-tell.ensures.levels ∙ c.loop-p.invariant.levels;
      dust = c.in_ok-tell.ensures.dust;
    }

pub returns-clause-sizes : goal.returns-clause-sizes
returns-clause-sizes c = c.loop-p.invariant.sizes

pub returns-clause-kept : goal.returns-clause-kept
returns-clause-kept c = c.loop-p.invariant.kept

pub returns-clause-told : goal.returns-clause-told
returns-clause-told c =
    let positions = c.args.positions.now in
    let all : c.loop-p.p-index ≡ length positions = omega arith in
    subst (AreTold c.args.map.now (level_at c.args.dust.now.levels) c.loop-p.places)
    (ap (λ n. take n positions) all ∙ take-length positions) c.loop-p.invariant.told

pub returns-clause-levels : goal.returns-clause-levels
returns-clause-levels c = c.loop-p.invariant.levels

pub returns-clause-dust : goal.returns-clause-dust
returns-clause-dust c = c.loop-p.invariant.dust
