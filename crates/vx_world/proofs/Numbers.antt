-- Sectors are numbered below how many there are.
use Rattle.std.proofs.Common.{◌≡◌, ℕ, ◌<◌, true, false, nat_eq, Option, Some, None, IfSome, ap, sym, subst, ◌∙◌}
use Rattle.std.specs.Option.{option_map_or}
use Rattle.std.proofs.lemmas.Bool.{eq-eqb}
use Rattle.vx_cells.specs.SectorCells.{holds}
use Rattle.vx_geom.specs.declared.pos.Pos.{Pos}
use Rattle.vx_geom.specs.Sizes.{Sizes, AreSizes, sector_count, sector_of}
use Rattle.vx_geom.proofs.SectorLemmas.{held_at, in_sector}
use Rattle.vx_sector.specs.SectorData.{SectorData}
use Rattle.vx_world.specs.Numbered.{IsSectorOf}

pub below_all : (v : Sizes) (p : Pos) (all : ℕ) (found : Option ℕ) → AreSizes v
    → found ≡ sector_of v p → sector_count v ≡ all → IfSome found (λ number. number < all)
below_all v p all None sizes is count = tt
below_all v p all (Some k) sizes is count =
    subst (λ n. k < n) count (in_sector v p k sizes (held_at v p k sizes (sym is))).0

-- the sector of the number of a position holds it
pub held_here : (v : Sizes) (p : Pos) (number : ℕ) (s : SectorData) → sector_of v p ≡ Some number
    → IsSectorOf v number s → holds s.cells p ≡ true
unfolding holds
held_here v p number s here is =
    ap (λ sizes. option_map_or (nat_eq s.cells.sector) (sector_of sizes p) false) is.bounds
    ∙ ap (λ found. option_map_or (nat_eq s.cells.sector) found false) here
    ∙ eq-eqb s.cells.sector number is.sector
