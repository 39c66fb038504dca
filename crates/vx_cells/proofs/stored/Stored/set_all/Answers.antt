use Rattle.std.proofs.Common.{◌≡◌, ℕ, ◌+◌, ◌<◌, List, length, drop, get_or, ap, sym, ◌∙◌}
use Rattle.std.proofs.lemmas.List.{drop_more}
use Rattle.vx_block.specs.declared.cell.Cell.{Cell}
use Rattle.vx_geom.specs.declared.pos.Pos.{Pos}
use Rattle.vx_cells.specs.SectorCells.{SectorCells, holds, with_block, with_cell, with_cells}
use Rattle.vx_cells.proofs.stored.Stored.set_all.Goals as goal

-- one cell of those that are left is put down
one_put : (c d e : SectorCells) (puts : List (Pos × Cell)) (i : ℕ) (put : Pos × Cell) → i < length puts → put ≡ get_or puts i put
    → d ≡ with_cell c put.0 put.1 → with_cells c (drop i puts) ≡ e → with_cells d (drop (i + 1) puts) ≡ e
one_put c d e puts i put within item made before =
    ap (λ x. with_cells x (drop (i + 1) puts)) (made ∙ ap (λ (q : Pos × Cell). with_cell c q.0 q.1) item)
    ∙ sym (ap (with_cells c) (drop_more puts i put within))
    ∙ before

-- a cell that is put down leaves the sector the same positions
same_positions : (c d : SectorCells) (p : Pos) (cell : Cell) (q : Pos) → d ≡ with_cell c p cell → holds d q ≡ holds c q
unfolding with_block holds
same_positions c d p cell q is = ap (λ e. holds e q) is

pub loop-p-preserved : goal.loop-p-preserved
loop-p-preserved c = (
  one_put c.loop-p.self c.set.new.self _ c.args.puts.now c.loop-p.p-index c.loop-p-item.result c.loop-p-test.true c.loop-p-item.is
      c.in_ok-set.ensures.ok c.loop-p.invariant.0,
  λ q. same_positions c.loop-p.self c.set.new.self _ _ q c.in_ok-set.ensures.ok ∙ c.loop-p.invariant.1 q,
)
