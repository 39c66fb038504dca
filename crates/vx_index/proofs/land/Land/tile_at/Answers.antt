use Rattle.std.proofs.Common.{◌≡◌, ◌<◌, length, get_or, Contains, rules}
use Rattle.std.specs.Arc.{arc_value}
use Rattle.std.proofs.lemmas.List.Elements.{All-contains, All-contains_itself}
use Rattle.vx_index.proofs.Along.{row_holds}
use Rattle.vx_index.proofs.land.Land.tile_at.Goals as goal

-- a tile of a row is one of the land's
pub returns-clause-among : goal.returns-clause-among
returns-clause-among c =
    let land = c.args.self.now in
    let rows = (arc_value c.self.inside.rows).items in
    let row = c.in_ok-get.field-0.now in
    let i = c.in_ok-row.row in
    let below : i < length rows = search rules in
    let read : row ≡ get_or rows i row = search rules in
    All-contains (Contains land) row c.in_ok-tile.tile.now
    (row_holds (Contains land) land rows i row c.self.view_is (All-contains_itself land) below read) c.in_ok-tile.ensures
