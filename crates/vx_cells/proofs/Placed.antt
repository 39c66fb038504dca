-- Each sector of a world stands in its place.
use Rattle.std.proofs.Common.{◌≡◌, ℕ, zero, suc, ◌+◌, true, List, [], ◌∷◌, ◌++◌, length, set, slice_get, Some, refl, sym, ap, ◌∙◌, arith}
use Rattle.std.proofs.lemmas.Bool.{eq-eqb}
use Rattle.std.proofs.lemmas.List.{length-append}
use Rattle.vx_geom.specs.declared.pos.Pos.{Pos}
use Rattle.vx_geom.specs.Sizes.{Sizes, sector_of}
use Rattle.vx_cells.specs.SectorCells.{SectorCells, only_air, holds}
use Rattle.vx_cells.specs.Maps.{AreFrom}
use Rattle.vx_cells.specs.Wholes.{airs}

pub from_push : (sizes : Sizes) (k : ℕ) (cs : List SectorCells) (c : SectorCells) → AreFrom sizes k cs → c.bounds ≡ sizes → c.sector ≡ k + length cs
    → AreFrom sizes k (cs ++ c ∷ [])
from_push sizes k [] c each bounds sector = (bounds, omega (arith, sector), tt)
from_push sizes k (d ∷ cs) c each bounds sector = (each.0, each.1, from_push sizes (suc k) cs c each.2 bounds (omega (arith, sector)))

-- another in its place, of the same number
pub placed_again : (sizes : Sizes) (k i : ℕ) (cs : List SectorCells) (c d : SectorCells) → AreFrom sizes k cs → slice_get cs i ≡ Some c
    → d.bounds ≡ c.bounds → d.sector ≡ c.sector → AreFrom sizes k (set cs i d)
placed_again sizes k i [] c d each found bounds sector = cc
placed_again sizes k zero (e ∷ cs) c d each found bounds sector =
    let same : e ≡ c = cc in (
      bounds ∙ ap (λ s. s.bounds) (sym same) ∙ each.0,
      sector ∙ ap (λ s. s.sector) (sym same) ∙ each.1,
      each.2,
    )
placed_again sizes k (suc i) (e ∷ cs) c d each found bounds sector = (each.0, each.1, placed_again sizes (suc k) i cs c d each.2 found bounds sector)

pub airs_count : (sizes : Sizes) (n : ℕ) → length (airs sizes n) ≡ n
airs_count sizes zero = refl
airs_count sizes (suc n) = length-append (airs sizes n) (only_air sizes n ∷ []) ∙ omega (arith, airs_count sizes n)

pub airs_placed : (sizes : Sizes) (n : ℕ) → AreFrom sizes 0 (airs sizes n)
airs_placed sizes zero = tt
airs_placed sizes (suc n) = from_push sizes 0 (airs sizes n) (only_air sizes n) (airs_placed sizes n) refl (omega (arith, airs_count sizes n))

-- the sector that is found for a position holds it
pub holds_found : (c : SectorCells) (p : Pos) (k : ℕ) → sector_of c.bounds p ≡ Some k → c.sector ≡ k → holds c p ≡ true
unfolding holds
holds_found c p k found same = rw found (eq-eqb c.sector k same)
