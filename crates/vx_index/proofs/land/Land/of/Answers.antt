use Rattle.std.proofs.Common.{◌≡◌, ◌++◌, [], ◌∷◌, List, rules}
use Rattle.std.specs.List.{All}
use Rattle.std.proofs.lemmas.List.Elements.{All-push, All-same}
use Rattle.vx_index.specs.Tiles.{IsTile}
use Rattle.vx_index.specs.declared.tile.Tile.{Tile}
use Rattle.vx_index.proofs.Along.{made_holds}
use Rattle.vx_index.proofs.land.Land.of.Goals as goal

pub loop-row-preserved : goal.loop-row-preserved
loop-row-preserved c =
    let rows = c.loop-row.rows.items in
    let row = c.in_ok-of.field-0 in
    let P = λ (cs : List Tile). All (IsTile c.args.regions.now) cs in
    let pushed : c.push.new.self.items ≡ rows ++ row ∷ [] = search rules in
    All-same P c.push.new.self.items (rows ++ row ∷ []) pushed (All-push P rows row c.loop-row.invariant c.in_ok-of.ensures)

pub returns : goal.returns
returns c = made_holds (IsTile c.args.regions.now) c.loop-row.rows.items c.made.result c.made.ensures c.loop-row.invariant
