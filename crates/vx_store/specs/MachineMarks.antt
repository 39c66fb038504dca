-- Marks of components of machines and of devices, in pages of 4,096 indices.
use Rattle.std.specs.Prelude.{◌≡◌, ℕ, ◌*◌, ◌≤◌, Bool, List, length, replicate, slice_index_or}
use Rattle.vx_block.specs.declared.cell.Cell.{Cell}
use Rattle.vx_block.specs.Components.{is_device, is_component}
use Rattle.vx_marks.specs.Marks.{is_marked, AreUnmarked, IsMarkSet}
use Rattle.vx_marks.specs.Pages as pages
use Rattle.vx_marks.specs.declared.page.TheConstants.{PAGE}
use Rattle.vx_store.specs.Codes.{cell_of}
use Rattle.vx_store.specs.declared.mark_kind.MarkKind.{MarkKind}
use Rattle.vx_store.specs.declared.mark_kind.MarkKind.TheVariants.{Component, Device}

-- the words of the marks of components, and those of the marks of devices
pub record MarkWords : Type 0 where
  pub components : List ℕ
  pub devices : List ℕ

-- those of one kind
abbrev pub words_of : MarkKind → MarkWords → List ℕ
words_of Component marks = marks.components
words_of Device marks = marks.devices

-- and the cells that these are of
abbrev pub is_of : MarkKind → Cell → Bool
is_of Component c = is_component c
is_of Device c = is_device c

-- a page in which nothing is marked
unfoldable pub blank_page : MarkWords
blank_page = record { components = replicate 64 0; devices = replicate 64 0 }

-- pages one after another
abbrev pub joined : List MarkWords → MarkWords
joined all = record {
  components = pages.joined (λ page. page.components) all;
  devices = pages.joined (λ page. page.devices) all;
}

-- pages of marks of either kind
pub record ArePages (all : List MarkWords) : Type 0 where
  pub components : pages.ArePages (λ (page : MarkWords). page.components) all
  pub devices : pages.ArePages (λ (page : MarkWords). page.devices) all

-- nothing is marked outside the pages from one number up to below another
pub record LieInPages (words : List ℕ) (first end : ℕ) : Type 0 where
  pub before : AreUnmarked words 0 (PAGE * first)
  pub behind : AreUnmarked words (PAGE * end) (64 * length words)

-- pages of marks of either kind, none of which has any outside those from one number up to below
-- another
pub record AreMarkedPages (all : List MarkWords) (first end : ℕ) : Type 0 where
  pub pages : ArePages all
  pub start : first ≤ length all
  pub within : end ≤ length all
  pub components : LieInPages (joined all).components first end
  pub devices : LieInPages (joined all).devices first end

-- the marks of one index become those of a byte's cell
pub record AreMarksSet (old new : MarkWords) (index code : ℕ) : Type 0 where
  pub components : IsMarkSet old.components new.components index (is_component (cell_of code))
  pub devices : IsMarkSet old.devices new.devices index (is_device (cell_of code))

-- marked are exactly the indices whose cell passes a test
pub record AreMarks (test : Cell → Bool) (store marks : List ℕ) : Type 0 where
  pub long : 64 * length marks ≡ length store
  pub each : (index : ℕ)
      → is_marked marks index ≡ test (cell_of (slice_index_or store index 0))

-- marks tell where components stand, and which of them are devices
pub record AreMachineMarks (store : List ℕ) (marks : MarkWords) : Type 0 where
  pub components : AreMarks is_component store marks.components
  pub devices : AreMarks is_device store marks.devices
