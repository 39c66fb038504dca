use Rattle.std.proofs.Common.{◌≡◌, [], ◌∷◌, ◌++◌, rules}
use Rattle.vx_index.specs.Tiles.{IsTile}
use Rattle.vx_index.proofs.Told.{push_holds}
use Rattle.vx_index.proofs.indexed.Indexed.build.Goals as goal

pub loop-sector-preserved : goal.loop-sector-preserved
loop-sector-preserved c =
    let tiles = c.loop-sector.tiles.items in
    let tile = c.in_ok-tile_of.field-0 in
    let pushed : c.push.new.self.items ≡ tiles ++ tile ∷ [] = search rules in
    push_holds (IsTile c.args.regions.now) tiles c.push.new.self.items tile pushed c.loop-sector.invariant c.in_ok-tile_of.ensures
