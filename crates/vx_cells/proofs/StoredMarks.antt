-- Marks beside the store: which cells they tell.
use Rattle.std.proofs.Common.{◌≡◌, ℕ, pos, unsigned_abs, ◌*◌, ◌/◌, ◌<◌, ◌≤◌, Bool, List, length, get_or, Option, Some, None, inl, inr, ap, sym, ◌∙◌, arith}
use Rattle.std.proofs.lemmas.Bool.{cases_lt}
use Rattle.std.proofs.lemmas.List.{get_or_past}
use Rattle.std.specs.List.{filter}
use Rattle.vx_block.specs.declared.cell.Cell.{Cell}
use Rattle.vx_block.specs.declared.cell.Cell.TheVariants.{Air}
use Rattle.vx_geom.specs.declared.pos.Pos.{Pos}
use Rattle.vx_geom.specs.Places.{positions}
use Rattle.vx_geom.specs.Sizes.{Sizes, AreSizes, span, sector_count, sector_cells, index_in_sector}
use Rattle.vx_marks.specs.Marks.{is_marked}
use Rattle.vx_marks.specs.Pages.{IsPage}
use Rattle.vx_marks.specs.declared.page.TheConstants.{PAGE}
use Rattle.vx_store.specs.Chests.{ChestData}
use Rattle.vx_store.specs.Codes.{cell_of}
use Rattle.vx_store.specs.MarkedPlaces.{marked_places}
use Rattle.vx_cells.specs.Listed.{AreInLayer}
use Rattle.vx_cells.specs.SectorCells.{placed, block_at, cell_at}
use Rattle.vx_store.specs.MachineMarks.{is_of, words_of, AreMachineMarks, AreMarks, MarkWords}
use Rattle.vx_store.specs.declared.mark_kind.MarkKind.{MarkKind}
use Rattle.vx_store.specs.declared.mark_kind.MarkKind.TheVariants.{Component, Device}
use Rattle.vx_cells.specs.Stored.{blocks_from, stored}
use Rattle.vx_cells.proofs.Listing.{same_found}
use Rattle.vx_cells.proofs.Rows.{layer_page}
use Rattle.vx_cells.proofs.StoredBlocks.{block-at, length-blocks}

-- the marks of a kind tell where cells of it stand
pub marks_of_kind : (kind : MarkKind) (codes : List ℕ) (marks : MarkWords) → AreMachineMarks codes marks
    → AreMarks (is_of kind) codes (words_of kind marks)
marks_of_kind Component codes marks are = are.components
marks_of_kind Device codes marks are = are.devices

-- the cell at each index is that of its byte; past the last one both are air
cell_here : (codes : List ℕ) (chests : ChestData) (k : ℕ)
    → cell_of (get_or codes k 0) ≡ (get_or (blocks_from 0 codes chests) k (placed Air)).cell
unfolding cell_of
cell_here codes chests k = elim (cases_lt k (length codes)) [
  | inl near ↦ ap (λ b. b.cell) (sym (block-at codes chests k (placed Air) near))
  | inr past ↦
      let blocks = blocks_from 0 codes chests in
      let no_block : length blocks ≤ k = omega (arith, past, length-blocks 0 codes chests) in
      ap (λ n. cell_of n) (get_or_past codes k 0 past)
      ∙ ap (λ b. b.cell) (sym (get_or_past blocks k (placed Air) no_block))
]

-- the mark at the index of a position tells what stands there
pub marked_at : (test : Cell → Bool) (bounds : Sizes) (sector : ℕ) (codes marks : List ℕ) (chests : ChestData)
    → AreMarks test codes marks → (p : Pos)
    → is_marked marks (index_in_sector bounds p) ≡ test (cell_at (stored bounds sector codes chests) p)
unfolding block_at
marked_at test bounds sector codes marks chests are p =
    are.each (index_in_sector bounds p) ∙ ap test (cell_here codes chests (index_in_sector bounds p))

-- a page of the marks tells where something stands in a layer whose indices it has
pub in_layer : (test : Cell → Bool) (bounds : Sizes) (sector : ℕ) (codes marks : List ℕ) (chests : ChestData)
    → AreMarks test codes marks → AreSizes bounds → (y number : ℕ) → number ≡ span bounds * span bounds * y / PAGE
    → (page : Option (List ℕ)) → IsPage marks number page
    → AreInLayer (λ p. test (cell_at (stored bounds sector codes chests) p)) (stored bounds sector codes chests) y page
in_layer test bounds sector codes marks chests are sizes y number is page has = by page has
  where
    here : (p : Pos) → p.y ≡ pos y → index_in_sector bounds p / PAGE ≡ number
    here p at = layer_page bounds p sizes ∙ ap (λ c. span bounds * span bounds * unsigned_abs c / PAGE) at ∙ sym is

    by : (page : Option (List ℕ)) → IsPage marks number page
        → AreInLayer (λ p. test (cell_at (stored bounds sector codes chests) p)) (stored bounds sector codes chests) y page
    by None none =
        λ p held at. sym (marked_at test bounds sector codes marks chests are p) ∙ none (index_in_sector bounds p) (here p at)
    by (Some words) same =
        λ p held at. sym (marked_at test bounds sector codes marks chests are p) ∙ same (index_in_sector bounds p) (here p at)

-- marks tell the positions at which something stands
module _ (bounds : Sizes) (sector : ℕ) (codes : List ℕ) (chests : ChestData) (sizes : AreSizes bounds)
    (low : sector < sector_count bounds) where
  pub marked_are : (test : Cell → Bool) (marks : List ℕ) → AreMarks test codes marks
      → marked_places bounds sector marks
      ≡ filter (λ p. test (cell_at (stored bounds sector codes chests) p)) (positions bounds sector)
  unfolding positions
  marked_are test marks are =
      same_found (λ p. is_marked marks (index_in_sector bounds p))
      (λ p. test (cell_at (stored bounds sector codes chests) p)) bounds sector sizes low
      (λ p held. marked_at test bounds sector codes marks chests are p)
      (sector_cells bounds) 0 (omega arith)
