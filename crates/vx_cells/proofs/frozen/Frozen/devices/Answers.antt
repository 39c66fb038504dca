use Rattle.std.proofs.Common.{◌≡◌, IfOk, subst}
use Rattle.vx_cells.proofs.Listing.{devices_same}
use Rattle.vx_cells.proofs.frozen.Frozen.devices.Goals as goal

pub returns : goal.returns
returns c =
    subst (λ all. IfOk c.devices.result (λ found. found.items ≡ all))
    (devices_same c.args.self.now c.args.sector c.sector_at.result.now c.soundness.ensures c.requires c.sector_at.ensures)
    c.devices.ensures
