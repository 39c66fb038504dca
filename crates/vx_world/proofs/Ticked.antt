-- How many entries sectors have in their next windows.
use Rattle.std.proofs.Common.{◌≡◌, List, [], ◌∷◌, map, refl, arith}
use Rattle.vx_cells.specs.SectorCells.{SectorCells}
use Rattle.vx_policy.specs.declared.version.Version.{Version}
use Rattle.vx_sector.specs.SectorData.{SectorData}
use Rattle.vx_sector.specs.Windows.{count_of, renewed}
use Rattle.vx_windows.specs.Sectors.{renewed_over, all_renewed}

-- a sector in its next window has as many entries as before
count_again : (version : Version) (s : SectorData) (c : SectorCells)
    → count_of (renewed_over version s c) ≡ count_of s
unfolding renewed
count_again version s c = omega arith

-- and so has each of them
pub counts_again : (version : Version) (sectors : List SectorData) (cells : List SectorCells)
    → map count_of (all_renewed version sectors cells) ≡ map count_of sectors
counts_again version [] cells = refl
counts_again version (s ∷ sectors) [] =
    λ i. count_again version s s.cells i ∷ counts_again version sectors [] i
counts_again version (s ∷ sectors) (c ∷ cells) =
    λ i. count_again version s c i ∷ counts_again version sectors cells i
