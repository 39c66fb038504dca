use Rattle.std.proofs.Common.{◌≡◌, suc, ◌+◌, ◌++◌, take, length, sym, ap, subst, ◌∙◌, append_assoc, append-nil, arith}
use Rattle.std.proofs.Math.Seq.{take-suc, take-length}
use Rattle.vx_cells.specs.Maps.{cell_on}
use Rattle.vx_levels.specs.Repairs.{IsRightAt}
use Rattle.vx_levels.proofs.mapping.add_all.Goals as goal

pub loop-p-init : goal.loop-p-init
loop-p-init c done right =
    subst (IsRightAt (cell_on c.args.map.now) c.args.linked.now) (sym (append-nil done)) right

pub loop-p-preserved : goal.loop-p-preserved
loop-p-preserved c done right =
    let places = c.args.places.now in
    let k = c.loop-p.p-index in
    let next : suc k ≡ k + 1 = omega arith in
    let within = c.loop-p-test.true in
    subst (IsRightAt (cell_on c.args.map.now) c.add.new.linked)
    (append_assoc done (take k places) _
    ∙ ap (λ ps. done ++ ps) (sym (take-suc places k _ (omega (arith, within))) ∙ ap (λ n. take n places) next))
    (c.in_ok-add.ensures (done ++ take k places) (c.loop-p.invariant done right))

pub returns : goal.returns
returns c done right =
    let places = c.args.places.now in
    let all : c.loop-p.p-index ≡ length places = omega arith in
    subst (IsRightAt (cell_on c.args.map.now) c.loop-p.linked)
    (ap (λ ps. done ++ ps) (ap (λ n. take n places) all ∙ take-length places))
    (c.loop-p.invariant done right)
