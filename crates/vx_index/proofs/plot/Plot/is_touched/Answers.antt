use Rattle.std.proofs.Common.{rules, ◌≡◌, ap, sym, ◌∙◌}
use Rattle.vx_geom.specs.declared.extent.Extent.{Extent}
use Rattle.vx_index.specs.Touching.{touches}
use Rattle.vx_index.proofs.Renewing.{renewed_elsewhere}
use Rattle.vx_index.proofs.plot.Plot.is_touched.Goals as goal

-- neither the shape nor the one before it lies there
pub returns : goal.returns
returns c apart shapes number shape tells are =
    let here = c.args.self.now in
    let same : c.columns.result.now ≡ here.columns = search rules in
    record {
      patches = renewed_elsewhere shapes here.columns number shape here.patches.items tells.patches c.args.touched.now are
          (ap (λ (e : Extent). touches c.args.touched.now e) (sym same) ∙ sym c.touches.ensures ∙ apart);
      numbers = tells.numbers;
    }
