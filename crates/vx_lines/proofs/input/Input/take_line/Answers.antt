use Rattle.std.proofs.Common.{◌≡◌, ◌≤◌, ◌-◌, length, arith, sym, ap, ◌∙◌, position, slice_range, take, drop, Some, None}
use Rattle.vx_lines.proofs.Feeds.{is_feed, cut_in, uncut}
use Rattle.vx_lines.proofs.input.Input.take_line.Goals as goal

pub returns-in_ok-extend_from_slice-in-Some-clause-ok : goal.returns-in_ok-extend_from_slice-in-Some-clause-ok
returns-in_ok-extend_from_slice-in-Some-clause-ok c =
    let i = c.self.inside in
    let same = c.deref.ensures.value in
    let fits : i.end ≤ length i.buffer.items = omega (arith, i.buffer.ok.0, c.self.invariant.1) in
    let found : position is_feed (slice_range i.buffer.items i.at i.end) ≡ Some c.in-Some.length = rw (← same) (sym c.in-Some.ensures) in
    let cut = cut_in i.buffer.items i.at i.end c.in-Some.length fits found in
    (_, (cut.0, ap (λ b. b.rest) (sym c.self.view_is) ∙ cut.1), rw same at c.in_ok-extend_from_slice-in-Some.ensures.items)

pub returns-in_ok-extend_from_slice-in-None-clause-ok : goal.returns-in_ok-extend_from_slice-in-None-clause-ok
returns-in_ok-extend_from_slice-in-None-clause-ok c =
    let i = c.self.inside in
    let same = c.deref.ensures.value in
    let none : position is_feed (slice_range i.buffer.items i.at i.end) ≡ None = rw (← same) (sym c.in-None.ensures) in
    let nothing : i.end - i.end ≡ 0 = omega arith in (
      slice_range i.buffer.items i.at i.end,
      (uncut _ none, ap (λ b. b.rest) (sym c.self.view_is), ap (λ n. take n (drop i.end i.buffer.items)) nothing),
      rw same at c.in_ok-extend_from_slice-in-None.ensures.items,
    )
