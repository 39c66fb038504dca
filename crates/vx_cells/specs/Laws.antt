use Rattle.std.specs.Prelude.{◌≡◌, ◌≢◌, ◌↔◌, true}
use Rattle.vx_geom.specs.declared.pos.Pos.{Pos}
use Rattle.vx_geom.specs.Sizes.{AreSizes}
use Rattle.vx_cells.specs.SameCells.{same_cells}
use Rattle.vx_cells.specs.SectorCells.{SectorCells, Block, IsWhole, holds, block_at, with_block}

-- what was put at a position stands there
abbrev pub SetBlockIsRead : Type 0
SetBlockIsRead = (c : SectorCells) (p : Pos) (block : Block)
    → AreSizes c.bounds → IsWhole c → holds c p ≡ true
    → block_at (with_block c p block) p ≡ block

-- it changes what stands at no other, cell and slots
abbrev pub OtherBlocksStay : Type 0
OtherBlocksStay = (c : SectorCells) (p q : Pos) (block : Block)
    → AreSizes c.bounds → holds c p ≡ true → holds c q ≡ true → q ≢ p
    → block_at (with_block c p block) q ≡ block_at c q

-- `==` says yes exactly where all is the same: size, number, each cell and each slot
abbrev pub EqualIsTheSame : Type 0
EqualIsTheSame = (c d : SectorCells) → (same_cells c d ≡ true) ↔ (c ≡ d)
