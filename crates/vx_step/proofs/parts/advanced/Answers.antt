use Rattle.std.proofs.Common.{◌≡◌, sym, ◌∙◌, subst}
use Rattle.vx_cells.specs.Maps.{MapData}
use Rattle.vx_cells.specs.Wholes.{IsMap}
use Rattle.vx_geom.specs.Sizes.{sector_count}
use Rattle.vx_step.specs.Shares.{AreFromTo}
use Rattle.vx_tick.specs.Pieces.{changed_in}
use Rattle.vx_step.proofs.Gathering.{gathered_by, advanced_whole}
use Rattle.vx_step.proofs.parts.advanced.Goals as goal

pub from_parts-requires : goal.from_parts-requires
from_parts-requires g c =
    let m : MapData = record { sizes = c.args.bounds; sectors = c.args.cells.now } in
    let work = c.new-work.result in
    let own = subst (AreFromTo (λ i v. v.items ≡ changed_in m i) 0 (sector_count m.sizes))
    (sym c.new-work.ensures.changes) c.requires.changes in
    subst IsMap
    (sym (gathered_by (λ v. v.items) m work.cells.now c.in_ok-next.next.items work.changes.now work.sectors
    c.new-work.ensures.cells (c.new-work.ensures.sectors ∙ c.sectors.ensures) c.requires.map own c.in_ok-next.ensures))
    (advanced_whole m c.requires.map)

pub returns : goal.returns
returns g c =
    let m : MapData = record { sizes = c.args.bounds; sectors = c.args.cells.now } in
    let work = c.new-work.result in
    let own = subst (AreFromTo (λ i v. v.items ≡ changed_in m i) 0 (sector_count m.sizes))
    (sym c.new-work.ensures.changes) c.requires.changes in
    c.from_parts.ensures
    ∙ gathered_by (λ v. v.items) m work.cells.now c.in_ok-next.next.items work.changes.now work.sectors
    c.new-work.ensures.cells (c.new-work.ensures.sectors ∙ c.sectors.ensures) c.requires.map own c.in_ok-next.ensures
