use Rattle.std.proofs.Common.{◌/◌, ◌<◌, length, inl, inr, refl, arith}
use Rattle.std.proofs.lemmas.Bool.{cases_lt}
use Rattle.vx_marks.specs.declared.page.TheConstants.{PAGE}
use Rattle.vx_store.proofs.Outside.{lie}
use Rattle.vx_store.proofs.Paging.{none_to_next, first_of_all}
use Rattle.vx_store.proofs.machine_marks.MachineMarks.first_from.Goals as goal

pub loop-next-init : goal.loop-next-init
loop-next-init c =
    let are = c.self.invariant in
    let lies = lie c.self.inside.pages.items c.self.inside.first c.self.inside.end are c.args.kind in (
      omega (arith, c.max-next.ensures),
      λ i low high. lies.before i (omega arith) (omega (arith, low, high, c.max-next.ensures)),
    )

pub returns-in-Some : goal.returns-in-Some
returns-in-Some c =
    let pages = c.self.inside.pages.items in
    let next = c.loop-next.next in
    let near : next / PAGE < length pages = omega (arith, c.loop-next-test.true, c.self.invariant.within) in
    let held = c.loop-next.invariant in
    rw (← c.self.view_is)
    (first_of_all c.args.kind pages (next / PAGE) c.index.result.now c.self.invariant.pages near c.index.ensures c.args.from next
    c.in-Some.index refl held.0 held.1 c.in-Some.ensures)

pub loop-next-preserved : goal.loop-next-preserved
loop-next-preserved c =
    let pages = c.self.inside.pages.items in
    let next = c.loop-next.next in
    let near : next / PAGE < length pages = omega (arith, c.loop-next-test.true, c.self.invariant.within) in
    let held = c.loop-next.invariant in (
      omega (arith, held.0),
      none_to_next c.args.kind pages (next / PAGE) c.index.result.now c.self.invariant.pages near c.index.ensures c.args.from next
          refl held.1 c.in_default.ensures,
    )

pub returns : goal.returns
returns c =
    let next = c.loop-next.next in
    let lies = lie c.self.inside.pages.items c.self.inside.first c.self.inside.end c.self.invariant c.args.kind in
    rw (← c.self.view_is)
    (λ i low high. elim (cases_lt i next) [
      | inl before ↦ c.loop-next.invariant.1 i low before
      | inr on ↦ lies.behind i (omega (arith, on, c.loop-next-test.false)) high
    ])
