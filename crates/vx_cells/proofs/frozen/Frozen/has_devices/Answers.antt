use Rattle.std.proofs.Common.{nat_lt, length, ap, ◌∙◌}
use Rattle.vx_cells.proofs.Listing.{devices_same}
use Rattle.vx_cells.proofs.frozen.Frozen.has_devices.Goals as goal

pub returns : goal.returns
returns c =
    c.has_devices.ensures
    ∙ ap (λ ps. nat_lt 0 (length ps))
    (devices_same c.args.self.now c.args.sector c.sector_at.result.now c.soundness.ensures c.requires c.sector_at.ensures)
