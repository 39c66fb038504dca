use Rattle.std.proofs.Common.{◌/◌, ◌<◌, length, refl, arith}
use Rattle.vx_marks.specs.declared.page.TheConstants.{PAGE}
use Rattle.vx_marks.proofs.Paging.{pages_length, none_to_next, first_of_all}
use Rattle.vx_marks.proofs.marks.Marks.first_from.Goals as goal

pub returns-in-Some : goal.returns-in-Some
returns-in-Some c =
    let pages = c.self.inside.pages.items in
    let next = c.loop-next.next in
    let near : next / PAGE < length pages = omega (arith, c.loop-next-test.true, c.len.ensures) in
    let held = c.loop-next.invariant in
    rw (← c.self.view_is)
    (first_of_all (λ page. page) pages c.self.invariant (next / PAGE) c.index.result.now near c.index.ensures c.args.from next
    c.in-Some.index refl held.0 held.1 c.in-Some.ensures)

pub loop-next-preserved : goal.loop-next-preserved
loop-next-preserved c =
    let pages = c.self.inside.pages.items in
    let next = c.loop-next.next in
    let near : next / PAGE < length pages = omega (arith, c.loop-next-test.true, c.len.ensures) in
    let held = c.loop-next.invariant in (
      omega (arith, held.0),
      none_to_next (λ page. page) pages c.self.invariant (next / PAGE) c.index.result.now near c.index.ensures c.args.from next
          refl held.1 c.in_default.ensures,
    )

pub returns : goal.returns
returns c =
    let pages = c.self.inside.pages.items in
    let all = pages_length (λ page. page) pages c.self.invariant in
    rw (← c.self.view_is)
    (λ i low high. c.loop-next.invariant.1 i low (omega (arith, high, all, c.loop-next-test.false, c.len.ensures)))
