-- What a part is after a tick, by its kind.
use Rattle.std.proofs.Common.{◌≡◌, not, if◌then◌else◌, sym, ap, ◌∙◌}
use Rattle.vx_geom.specs.Neighbor.{neighbor}
use Rattle.vx_block.specs.declared.cell.Cell.TheVariants as cell
use Rattle.vx_block.specs.States.{mount_dir, side_dir}
use Rattle.vx_block.specs.Sides.{side_back}
use Rattle.vx_power.specs.Signals.{is_powered, activates}
use Rattle.vx_part.specs.Parts.{next_of, next_part, next_repeater, counted}
use Rattle.vx_part.specs.Laws.{DustKeepsItsLevel, TorchesInvert, LockedRepeatersStay}

pub dust_keeps_its_level : DustKeepsItsLevel
unfolding next_of
dust_keeps_its_level w level p old is = ap (next_of w level p) is

pub torches_invert : TorchesInvert
unfolding next_of
torches_invert w level p facing lit is =
    let next : next_part w level p ≡ cell.Torch facing (not (is_powered w level (neighbor p (mount_dir facing)))) = ap (next_of w level p) is in (
      λ powered. next ∙ ap (λ b. cell.Torch facing (not b)) powered,
      λ unpowered. next ∙ ap (λ b. cell.Torch facing (not b)) unpowered,
    )

pub locked_repeaters_stay : LockedRepeatersStay
unfolding next_of next_repeater
locked_repeaters_stay w level p r is locked =
    ap (next_of w level p) is
    ∙ ap (λ b. cell.Repeater (if b then r else counted r (activates w level p (side_dir (side_back r.facing))))) locked
    ∙ sym is
