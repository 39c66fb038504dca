use Rattle.std.proofs.Common.{map, sym, ap, ◌∙◌, subst, lit≤}
use Rattle.vx_cells.specs.Maps.{AreSectors}
use Rattle.vx_windows.specs.Sectors.{cells_of}
use Rattle.vx_play.proofs.Whole.{cells_opened}
use Rattle.vx_play.proofs.play.Play.open.Goals as goal

pub invariant_of-result : goal.invariant_of-result
invariant_of-result g c =
    let parts = c.into_parts-bounds.ensures in
    let cells = ap (map cells_of) c.in_ok-sectors.ensures ∙ cells_opened c.in_ok-version.version _ ∙ parts.sectors in (
      c.requires.seats,
      lit≤ tt,
      subst (λ sizes. AreSectors sizes (map cells_of c.in_ok-sectors.sectors.items)) (sym parts.bounds) (subst (AreSectors c.args.terrain.sizes) (sym cells) parts.whole),
      tt,
    )
