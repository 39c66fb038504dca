use Rattle.std.proofs.Common.{◌≡◌, ℕ, ◌<◌, ◌++◌, ◌∷◌, [], Option, length, set, take, sym, ap, ◌∙◌, arith, rules}
use Rattle.std.proofs.lemmas.Iterator.Consumers.{YieldsList-turn, YieldsList-end, YieldsList-from_enumerate}
use Rattle.std.proofs.lemmas.Iterator.Adapters.{YieldsList-from_vec}
use Rattle.std.proofs.lemmas.List.{length-map, length_push, length-take-le, take_all, take_more}
use Rattle.std.proofs.lemmas.List.FromFn.{get_or-enumerate_from, length-enumerate_from}
use Rattle.vx_cells.specs.SectorCells.{SectorCells}
use Rattle.vx_windows.specs.Sectors.{with_changes}
use Rattle.vx_windows.proofs.Changing.{as_many_changed, changed_more, changed_none, changed_one_more}
use Rattle.vx_windows.proofs.changes.change_all.Goals as goal

pub loop-at-init : goal.loop-at-init
loop-at-init c = sym (changed_none c.args.cells.now)

pub bounds-cells-at : goal.bounds-cells-at
bounds-cells-at c =
    let fs = c.args.changes.items in
    let k = length c.loop-at.yielded in
    let y = c.in-Some.change in
    let turn = YieldsList-turn (YieldsList-from_enumerate (YieldsList-from_vec fs (search rules) (search rules)) (search rules))
    c.loop-at.yielded c.loop-at.at-iterator c.loop-at.yielded_by c.next.result c.next.new.self (c.in-Some.at, y) c.in-Some.is c.next.ensures.steps in
    let within : k < length fs = omega (arith, turn.0, length-enumerate_from 0 fs) in
    let here = turn.1 ∙ get_or-enumerate_from 0 fs k (c.in-Some.at, y) within in
    let number : c.in-Some.at ≡ k = omega (arith, ap (λ (p : ℕ × Option SectorCells). p.0) here) in
    omega (arith, within, number, c.requires, ap length c.loop-at.invariant, as_many_changed c.args.cells.now (take k fs))

pub loop-at-preserved-in-Some-change : goal.loop-at-preserved-in-Some-change
loop-at-preserved-in-Some-change c =
    let fs = c.args.changes.items in
    let k = length c.loop-at.yielded in
    let y = c.in-Some.change in
    let turn = YieldsList-turn (YieldsList-from_enumerate (YieldsList-from_vec fs (search rules) (search rules)) (search rules))
    c.loop-at.yielded c.loop-at.at-iterator c.loop-at.yielded_by c.next.result c.next.new.self (c.in-Some.at, y) c.in-Some.is c.next.ensures.steps in
    let within : k < length fs = omega (arith, turn.0, length-enumerate_from 0 fs) in
    let here = turn.1 ∙ get_or-enumerate_from 0 fs k (c.in-Some.at, y) within in
    let number : c.in-Some.at ≡ k = omega (arith, ap (λ (p : ℕ × Option SectorCells). p.0) here) in
    let cs = c.args.cells.now in
    let now = c.in-Some-change.change in
    let behind : c.in-Some.at ≡ length (take k fs) = omega (arith, number, length-take-le k fs (omega (arith, within))) in
    (λ i. set (c.loop-at.invariant i) (behind i) now)
    ∙ sym (changed_one_more cs (take k fs) now (omega (arith, within, length-take-le k fs (omega (arith, within)), c.requires)))
    ∙ ap (λ o. with_changes cs (take k fs ++ o ∷ [])) (sym c.in-Some-change.is ∙ ap (λ (p : ℕ × Option SectorCells). p.1) here)
    ∙ ap (with_changes cs) (sym (take_more fs k y within))
    ∙ ap (λ n. with_changes cs (take n fs)) (sym (length_push c.loop-at.yielded (c.in-Some.at, y)))

pub loop-at-preserved : goal.loop-at-preserved
loop-at-preserved c =
    let fs = c.args.changes.items in
    let k = length c.loop-at.yielded in
    let y = c.in-Some.change in
    let turn = YieldsList-turn (YieldsList-from_enumerate (YieldsList-from_vec fs (search rules) (search rules)) (search rules))
    c.loop-at.yielded c.loop-at.at-iterator c.loop-at.yielded_by c.next.result c.next.new.self (c.in-Some.at, y) c.in-Some.is c.next.ensures.steps in
    let within : k < length fs = omega (arith, turn.0, length-enumerate_from 0 fs) in
    let here = turn.1 ∙ get_or-enumerate_from 0 fs k (c.in-Some.at, y) within in
    let cs = c.args.cells.now in
    c.loop-at.invariant
    ∙ sym (changed_more cs (take k fs))
    ∙ ap (λ o. with_changes cs (take k fs ++ o ∷ [])) (sym c.in_default.is ∙ ap (λ (p : ℕ × Option SectorCells). p.1) here)
    ∙ ap (with_changes cs) (sym (take_more fs k y within))
    ∙ ap (λ n. with_changes cs (take n fs)) (sym (length_push c.loop-at.yielded (c.in-Some.at, y)))

pub returns : goal.returns
returns c =
    let fs = c.args.changes.items in
    let ended = YieldsList-end (YieldsList-from_enumerate (YieldsList-from_vec fs (search rules) (search rules)) (search rules))
    c.loop-at.yielded c.loop-at.at-iterator c.loop-at.yielded_by c.next.result c.next.new.self c.in-None.is c.next.ensures.steps in
    c.loop-at.invariant
    ∙ ap (with_changes c.args.cells.now) (take_all (length c.loop-at.yielded) fs
    (omega (arith, ap length ended.0, length-map {B = ℕ × Option SectorCells} c.loop-at.yielded (λ p. (p.0, p.1)), length-enumerate_from 0 fs)))
