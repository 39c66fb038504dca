-- What is read at a position, after a cell was set.
use Rattle.std.proofs.Common.{arith}
use Rattle.std.proofs.lemmas.List.{get_or-set_same, get_or-set_other}
use Rattle.vx_block.specs.declared.cell.Cell.TheVariants.{Air}
use Rattle.vx_geom.specs.Sizes.{index_in_sector}
use Rattle.vx_geom.proofs.SectorLemmas.{held_at, same_index}
use Rattle.vx_cells.specs.SectorCells.{block_at, with_block, placed}
use Rattle.vx_cells.specs.Laws.{SetBlockIsRead, OtherBlocksStay}
use Rattle.vx_cells.proofs.Indices.{inside_from_holds, index_below, sector_at}

pub set_block_is_read : SetBlockIsRead
unfolding block_at with_block
set_block_is_read cells p block sizes whole held =
    get_or-set_same cells.blocks (index_in_sector cells.bounds p) block (placed Air) (omega (arith, whole.whole, index_below cells.bounds p sizes (inside_from_holds cells p held)))

pub other_blocks_stay : OtherBlocksStay
unfolding block_at with_block
other_blocks_stay cells p q block sizes held_p held_q differ =
    let at_p = held_at cells.bounds p cells.sector sizes (sector_at cells p held_p) in
    let at_q = held_at cells.bounds q cells.sector sizes (sector_at cells q held_q) in
    get_or-set_other cells.blocks (index_in_sector cells.bounds p) (index_in_sector cells.bounds q) block (placed Air)
    (λ same. differ (same_index cells.bounds q p cells.sector sizes at_q at_p same))
