-- Positions of copies of a sector, and what stands there.
use Rattle.std.proofs.Common.{◌≡◌, true, length, refl, sym, subst, inl, inr, arith}
use Rattle.std.proofs.lemmas.Bool.{cases_lt}
use Rattle.std.proofs.Math.ListN.{get_or-eq_default}
use Rattle.vx_block.specs.declared.cell.Cell.TheVariants.{Air}
use Rattle.vx_geom.specs.declared.pos.Pos.{Pos}
use Rattle.vx_geom.specs.Sizes.{index_in_sector}
use Rattle.vx_cells.specs.SectorCells.{SectorCells, IsBlock, IsWhole, placed, holds, block_at}

-- a position of a sector is one of each copy of it
pub held_too : (c d : SectorCells) (p : Pos) → d.bounds ≡ c.bounds → d.sector ≡ c.sector → holds c p ≡ true → holds d p ≡ true
unfolding holds
held_too c d p bounds sector held = rw (bounds, sector) held

air_is_block : IsBlock (placed Air)
air_is_block = record { slots = refl; each = λ k d near. absurd (omega (arith, near)) }

pub is_block_at : (c : SectorCells) (p : Pos) → IsWhole c → IsBlock (block_at c p)
unfolding block_at
is_block_at c p whole = elim (cases_lt (index_in_sector c.bounds p) (length c.blocks)) [
  | inl below ↦ whole.each (index_in_sector c.bounds p) (placed Air) below
  | inr above ↦ subst IsBlock (sym (get_or-eq_default c.blocks (placed Air) above)) air_is_block
]
