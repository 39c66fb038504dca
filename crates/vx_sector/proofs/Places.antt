-- What the entries of a window keep of its sector: the size, the number, and so the places.
use Rattle.std.proofs.Common.{◌≡◌, [], ◌∷◌, List, refl, sym, ap, ◌∙◌}
use Rattle.std.proofs.lemmas.List.{set-get_or}
use Rattle.vx_block.specs.declared.cell.Cell.TheVariants.{Air}
use Rattle.vx_geom.specs.declared.pos.Pos.{Pos}
use Rattle.vx_geom.specs.Sizes.{index_in_sector}
use Rattle.vx_cells.specs.SectorCells.{SectorCells, Block, placed, block_at, with_block, with_content}
use Rattle.vx_cells.proofs.Copying.{held_too}
use Rattle.vx_region.specs.Regions.{Regions}
use Rattle.vx_sector.specs.Acting.{applied, cells_by}
use Rattle.vx_sector.specs.SectorData.{EntryData}
use Rattle.vx_sector.specs.Windows.{cells_after, IsWindow, HoldsPlaces}
use Rattle.vx_sector.specs.declared.effect.Effect.{Effect}
use Rattle.vx_sector.specs.declared.effect.Effect.TheVariants.{Same, NewCell, NewSlot}

-- what is done at a position puts a block down there
pub block_done : (c : SectorCells) (p : Pos) (effect : Effect) → (b : Block) × (applied c p effect ≡ with_block c p b)
unfolding with_block block_at
block_done c p Same = (block_at c p, λ i. record c { blocks = sym (set-get_or c.blocks (index_in_sector c.bounds p) (placed Air)) i })
block_done c p (NewCell cell) = (placed cell, refl)
block_done c p (NewSlot slot content) = (with_content (block_at c p) slot content, refl)

with_bounds : (c : SectorCells) (p : Pos) (b : Block) → (with_block c p b).bounds ≡ c.bounds
unfolding with_block
with_bounds c p b = refl

with_sector : (c : SectorCells) (p : Pos) (b : Block) → (with_block c p b).sector ≡ c.sector
unfolding with_block
with_sector c p b = refl

pub by_bounds : (c : SectorCells) (p : Pos) (effect : Effect) → (applied c p effect).bounds ≡ c.bounds
by_bounds c p effect = let done = block_done c p effect in ap (λ (d : SectorCells). d.bounds) done.1 ∙ with_bounds c p done.0

pub by_sector : (c : SectorCells) (p : Pos) (effect : Effect) → (applied c p effect).sector ≡ c.sector
by_sector c p effect = let done = block_done c p effect in ap (λ (d : SectorCells). d.sector) done.1 ∙ with_sector c p done.0

pub after_bounds : (c : SectorCells) (entries : List EntryData) → (cells_after c entries).bounds ≡ c.bounds
after_bounds c [] = refl
after_bounds c (entry ∷ entries) = after_bounds (cells_by c entry.cmd entry.answer) entries ∙ by_bounds c _ _

pub after_sector : (c : SectorCells) (entries : List EntryData) → (cells_after c entries).sector ≡ c.sector
after_sector c [] = refl
after_sector c (entry ∷ entries) = after_sector (cells_by c entry.cmd entry.answer) entries ∙ by_sector c _ _

pub places_too : (c d : SectorCells) (entries : List EntryData) → d.bounds ≡ c.bounds → d.sector ≡ c.sector → HoldsPlaces c entries → HoldsPlaces d entries
places_too c d [] bounds sector held = tt
places_too c d (entry ∷ entries) bounds sector held = (held_too c d _ bounds sector held.0, places_too c d entries bounds sector held.1)

-- a window is of places of its sector
pub window_places : (regions : Regions) (c : SectorCells) (entries : List EntryData) → IsWindow regions c entries → HoldsPlaces c entries
window_places regions c [] window = tt
window_places regions c (entry ∷ entries) window =
    (window.0, places_too (cells_by c entry.cmd entry.answer) c entries (sym (by_bounds c _ _)) (sym (by_sector c _ _)) (window_places regions (cells_by c entry.cmd entry.answer) entries window.2))
