use Rattle.std.proofs.Common.{◌≡◌, suc, ◌+◌, take, length, refl, sym, ap, subst, ◌∙◌, arith}
use Rattle.std.proofs.Math.Seq.{take-suc, take-length}
use Rattle.std.proofs.lemmas.Bool.{false≢true}
use Rattle.vx_still.specs.Telling.{AreMarkedFrom}
use Rattle.vx_still.proofs.Marking.{from_more}
use Rattle.vx_still.proofs.heeders.mark_all_heeders.Goals as goal

pub loop-p-init : goal.loop-p-init
loop-p-init c = record {
  sizes = refl;
  kept = λ q is. is;
  marked = λ p there. absurd (false≢true there);
}

pub mark_with_heeders-requires : goal.mark_with_heeders-requires
mark_with_heeders-requires c = record { sizes = c.loop-p.invariant.sizes ∙ c.requires.sizes }

pub loop-p-preserved : goal.loop-p-preserved
loop-p-preserved c =
    let positions = c.args.positions.now in
    let k = c.loop-p.p-index in
    let within = c.loop-p-test.true in
    let next : suc k ≡ k + 1 = omega arith in
    record {
      sizes = c.in_ok-mark_with_heeders.ensures.sizes ∙ c.loop-p.invariant.sizes;
      kept = λ q is. c.in_ok-mark_with_heeders.ensures.kept q (c.loop-p.invariant.kept q is);
      marked = subst (AreMarkedFrom c.args.map.now c.mark_with_heeders.new.places)
          (sym (take-suc positions k _ (omega (arith, within))) ∙ ap (λ n. take n positions) next)
          (from_more c.args.map.now c.loop-p.places c.mark_with_heeders.new.places (take k positions) _
          c.in_ok-mark_with_heeders.ensures.kept c.loop-p.invariant.marked c.in_ok-mark_with_heeders.ensures.marked);
    }

pub returns-clause-sizes : goal.returns-clause-sizes
returns-clause-sizes c = c.loop-p.invariant.sizes

pub returns-clause-kept : goal.returns-clause-kept
returns-clause-kept c = c.loop-p.invariant.kept

pub returns-clause-marked : goal.returns-clause-marked
returns-clause-marked c =
    let positions = c.args.positions.now in
    let all : c.loop-p.p-index ≡ length positions = omega arith in
    subst (AreMarkedFrom c.args.map.now c.loop-p.places)
    (ap (λ n. take n positions) all ∙ take-length positions) c.loop-p.invariant.marked
