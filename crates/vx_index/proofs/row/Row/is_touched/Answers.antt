use Rattle.std.proofs.Common.{◌∙◌, List, sym, subst}
use Rattle.std.specs.List.{All, slice_index_or}
use Rattle.vx_index.specs.Tiles.{TellsOf}
use Rattle.vx_index.specs.Plots.{LiesAlong}
use Rattle.vx_index.specs.declared.tile.Tile.{Tile}
use Rattle.vx_index.proofs.Along.{untouched_along}
use Rattle.vx_index.proofs.Renewing.{renewed_elsewhere}
use Rattle.vx_index.proofs.row.Row.is_touched.Goals as goal

-- neither the shape nor the one before it lies in any tile of the row
pub returns : goal.returns
returns c apart shapes number shape tell are =
    let row = c.args.self.now in
    let columns = c.self.inside.columns in
    let along : All (LiesAlong columns) row = subst (λ (cs : List Tile). All (LiesAlong columns) cs) c.self.view_is c.self.invariant in
    λ k d below.
    let tile = slice_index_or row k d in
    let tells : TellsOf shapes tile = tell k d below in
    record {
      patches = renewed_elsewhere shapes tile.columns number shape tile.patches.items tells.patches c.args.touched.now are
          (untouched_along c.args.touched.now columns tile (along k d below) (sym c.touches_row.ensures ∙ apart));
      numbers = tells.numbers;
    }
