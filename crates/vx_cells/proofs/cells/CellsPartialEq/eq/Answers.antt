use Rattle.std.proofs.Common.{◌∙◌}
use Rattle.std.proofs.lemmas.Bool.Decides.{same_from_decides}
use Rattle.vx_cells.specs.CellsLaws.{cells_decided}
use Rattle.vx_cells.specs.SameCells.{same_cells}
use Rattle.vx_cells.proofs.cells.CellsPartialEq.eq.Goals as goal

pub returns : goal.returns
returns c =
    same_from_decides _ _ c.is_same.ensures (cells_decided _ _)
    ∙ (λ i. same_cells ((c.deref.ensures ∙ c.self.view_is) i) ((c.deref-2.ensures ∙ c.other.view_is) i))
