use Rattle.std.proofs.Common.{◌≡◌, IfOk, subst}
use Rattle.vx_cells.proofs.Listing.{components_same}
use Rattle.vx_cells.proofs.frozen.Frozen.components.Goals as goal

pub returns : goal.returns
returns c =
    subst (λ all. IfOk c.components.result (λ found. found.items ≡ all))
    (components_same c.args.self.now c.args.sector c.sector_at.result.now c.soundness.ensures c.requires c.sector_at.ensures)
    c.components.ensures
