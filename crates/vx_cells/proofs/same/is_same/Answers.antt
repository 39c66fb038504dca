use Rattle.std.proofs.Common.{nat_eq, sym, ap, ◌∙◌}
use Rattle.std.proofs.lemmas.Bool.{eq-eqb, eqb-true}
use Rattle.std.proofs.lemmas.Bool.Decides.{same_from_decides}
use Rattle.vx_cells.specs.CellsLaws.{cell_decided}
use Rattle.vx_store.specs.Codes.{cell_of}
use Rattle.vx_store.proofs.CodeLemmas.{same_code}
use Rattle.vx_cells.proofs.same.is_same.Goals as goal

pub returns : goal.returns
returns c =
    let a = c.encode.result in
    let b = c.encode-2.result in
    same_from_decides (nat_eq a b) _ (
      λ e. sym c.encode.ensures.cell ∙ ap cell_of (eqb-true a b e) ∙ c.encode-2.ensures.cell,
      λ same. eq-eqb a b (same_code a b c.encode.ensures.within c.encode-2.ensures.within
          (c.encode.ensures.cell ∙ same ∙ sym c.encode-2.ensures.cell)),
    ) (cell_decided c.args.a.now c.args.b.now)
