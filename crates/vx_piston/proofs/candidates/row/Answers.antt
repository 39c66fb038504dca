use Rattle.std.proofs.Common.{◌≡◌, ◌+◌, ◌-◌, suc, inl, inr, ap, sym, ◌∙◌, arith}
use Rattle.vx_piston.specs.declared.moves.TheConstants.{MAX_ROW}
use Rattle.vx_block.specs.Mobilities.{mobility_of}
use Rattle.vx_piston.proofs.Rows.{leaves, too_long, goes_on, ends, stops}
use Rattle.vx_piston.proofs.candidates.row.Goals as goal

pub returns-in_err-last : goal.returns-in_err-last
returns-in_err-last c =
    let left : MAX_ROW - c.loop.counter ≡ suc (MAX_ROW - (c.loop.counter + 1)) = omega (arith, c.loop-test.true) in
    rw c.from_residual.ensures (leaves c.args.map.now c.args.facing _ c.loop.cells.items _ _
    (rw left at c.loop.invariant.rest) c.in_err-last.ensures.value)

pub returns-in-Empty : goal.returns-in-Empty
returns-in-Empty c =
    let left : MAX_ROW - c.loop.counter ≡ suc (MAX_ROW - (c.loop.counter + 1)) = omega (arith, c.loop-test.true) in
    rw c.push-in-loop.ensures.items (ends c.args.map.now c.args.facing _ c.loop.cells.items _ _
    (rw left at c.loop.invariant.rest) c.in_ok-last.last c.in_ok-last.ensures.value (elim c.in-Empty.is [
      | inl is ↦ inl (sym is ∙ c.mobility.ensures ∙ ap mobility_of c.cell.ensures)
      | inr is ↦ inr (sym is ∙ c.mobility.ensures ∙ ap mobility_of c.cell.ensures)
    ]))

pub returns-in-Stays : goal.returns-in-Stays
returns-in-Stays c =
    let left : MAX_ROW - c.loop.counter ≡ suc (MAX_ROW - (c.loop.counter + 1)) = omega (arith, c.loop-test.true) in
    stops c.args.map.now c.args.facing _ c.loop.cells.items _ _ (rw left at c.loop.invariant.rest)
    c.in_ok-last.last c.in_ok-last.ensures.value (c.in-Stays.ensures ∙ ap mobility_of c.cell.ensures)

pub loop-preserved : goal.loop-preserved
loop-preserved c =
    let left : MAX_ROW - c.loop.counter ≡ suc (MAX_ROW - (c.loop.counter + 1)) = omega (arith, c.loop-test.true) in
    record {
      len = omega (arith, c.push-in-loop.ensures.len, c.loop.invariant.len);
      rest = rw c.push-in-loop.ensures.items (goes_on c.args.map.now c.args.facing _ c.loop.cells.items _ _
          (rw left at c.loop.invariant.rest) c.in_ok-last.last c.in_ok-last.ensures.value
          (c.in-Moves.ensures ∙ ap mobility_of c.cell.ensures));
    }

pub returns : goal.returns
returns c =
    let over : MAX_ROW - c.loop.counter ≡ 0 = omega (arith, c.loop-test.false) in
    too_long c.args.map.now c.args.facing _ c.loop.cells.items _ _ c.loop.invariant.rest over
