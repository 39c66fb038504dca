-- What is known of the slots at a position.
use Rattle.std.proofs.Common.{◌≡◌, false, List, [], ◌∷◌, length, refl}
use Rattle.vx_geom.specs.declared.pos.Pos.{Pos}
use Rattle.vx_store.specs.Codes.{is_chest}
use Rattle.vx_cells.specs.SectorCells.{SectorCells, IsWhole, cell_at}
use Rattle.vx_cells.proofs.Copying.{is_block_at}
use Rattle.vx_sector.specs.Acting.{slots_at}

nothing_in : {X : Type 0} (xs : List X) → length xs ≡ 0 → xs ≡ []
nothing_in [] none = refl
nothing_in (x ∷ xs) none = cc

-- where no chest is, there are no slots
pub no_slots : (c : SectorCells) (p : Pos) → IsWhole c → is_chest (cell_at c p) ≡ false → slots_at c p ≡ []
no_slots c p whole none = nothing_in _ (rw none at (is_block_at c p whole).slots)
