use Rattle.std.specs.Option.{option_copied}
use Rattle.std.proofs.Common.{◌≡◌, List, rules, sym, subst}
use Rattle.std.specs.Arc.{arc_value}
use Rattle.std.specs.List.{All}
use Rattle.vx_index.specs.Tiles.{TellsOf}
use Rattle.vx_index.specs.Shapes.{renewed_at, shape_at}
use Rattle.vx_index.specs.declared.tile.Tile.{Tile}
use Rattle.vx_index.proofs.Along.{made_holds, rows_hold}
use Rattle.vx_index.proofs.land.Land.renewed.Goals as goal

pub returns : goal.returns
returns c =
    let shapes = shape_at c.args.regions.now in
    let rows = (arc_value c.self.inside.rows).items in
    let same : c.deref-2.result.now ≡ rows = search rules in
    let tell = rows_hold (TellsOf shapes) rows (subst (λ (cs : List Tile). All (TellsOf shapes) cs) (sym c.self.view_is) c.requires) in
    made_holds (TellsOf (renewed_at shapes c.args.number.0 (option_copied c.args.shape))) c.in_ok-rows.rows.items c.made.result c.made.ensures
    (c.in_ok-rows.ensures shapes (subst (λ (all : List (List Tile)). All (All (TellsOf shapes)) all) (sym same) tell) c.of-touched.ensures)
