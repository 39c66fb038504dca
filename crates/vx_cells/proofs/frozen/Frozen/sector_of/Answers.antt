use Rattle.std.proofs.Common.{◌≡◌, Some, ap, sym, ◌∙◌}
use Rattle.vx_geom.specs.Sizes.{AreSizes, sector_of}
use Rattle.vx_geom.proofs.SectorLemmas.{held_at, in_sector}
use Rattle.vx_cells.specs.Maps.{MapData, sector_at}
use Rattle.vx_cells.proofs.frozen.Frozen.sector_of.Goals as goal
use Rattle.vx_cells.proofs.frozen.Frozen.sector_of.Goals.{In-Some}

-- the number of the position's sector
number_is : (c : In-Some) → sector_of c.args.self.now.sizes c.args.p ≡ Some c.in-Some.number
number_is c =
    ap (λ (m : MapData). sector_of m.sizes c.args.p) (sym c.self.view_is) ∙ sym c.sector_of.ensures ∙ c.in-Some.is

pub sector_at-requires : goal.sector_at-requires
sector_at-requires c =
    let v = c.args.self.now.sizes in
    let sizes : AreSizes v = rw (← c.self.view_is) c.self.invariant.valid in
    let held = number_is (goal.at.sector_at-requires c).In-Some in
    (in_sector v c.args.p c.in-Some.number sizes (held_at v c.args.p c.in-Some.number sizes held)).0

pub returns-in-Some : goal.returns-in-Some
returns-in-Some c =
    sym (ap (sector_at c.args.self.now.sectors) (number_is (goal.at.returns-in-Some c).In-Some) ∙ c.sector_at.ensures)
