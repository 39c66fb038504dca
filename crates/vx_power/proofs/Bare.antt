-- Rows close to a position in which no component stands.
use Rattle.std.proofs.Common.{◌≡◌, ℕ, ℤ, pos, ◌+◌, ◌-◌, ◌<◌, ◌≤◌, ◌⊎◌, inl, inr, true, false, ◌&&◌, ap, sym, ◌∙◌, arith}
use Rattle.std.specs.Prelude.{◌-ℤ◌, unsigned_abs}
use Rattle.std.proofs.lemmas.Bool.{cases_eq, lt-ltb}
use Rattle.std.proofs.lemmas.Int.{ints}
use Rattle.vx_block.specs.Components.{is_component}
use Rattle.vx_cells.specs.Listed.{place, AreInRow}
use Rattle.vx_cells.specs.Maps.{MapData, AreSectors, cell_on}
use Rattle.vx_cells.specs.Nearby.{IsClose, HasAround}
use Rattle.vx_cells.specs.SectorCells.{SectorCells, holds, cell_at}
use Rattle.vx_cells.proofs.Nearby.{close_here, close_beside, inside_around}
use Rattle.vx_geom.specs.declared.dir.Dir.TheVariants.{West, North}
use Rattle.vx_geom.specs.declared.pos.Pos.{Pos}
use Rattle.vx_geom.specs.Neighbor.{neighbor}
use Rattle.vx_geom.proofs.Positions.{same_pos}
use Rattle.vx_geom.proofs.SectorLemmas.{inside_at}
use Rattle.vx_marks.specs.Marks.{is_set}
use Rattle.vx_marks.proofs.WordBits.{unset}

-- a coordinate is over 0 where the one before it is natural
over_0 : (c : ℤ) (n : ℕ) → c ≡ pos (unsigned_abs c) → c -ℤ pos 1 ≡ pos n → 1 ≤ unsigned_abs c
over_0 c n natural before = omega (arith, ints, natural, before)

module _ (m : MapData) (c : SectorCells) (p : Pos) (whole : AreSectors m.sizes m.sectors) (around : HasAround m c p) where
  here : (p.x ≡ pos (unsigned_abs p.x)) × (p.y ≡ pos (unsigned_abs p.y)) × (p.z ≡ pos (unsigned_abs p.z))
  here = let at = inside_at m.sizes p (inside_around m c p whole around p (close_here p)) in (at.x_is, at.y_is, at.z_is)

  -- there is a column to the west of the position, and a row to the north
  pub has_west : 1 ≤ unsigned_abs p.x
  has_west =
      let west = neighbor p West in
      let at = inside_at m.sizes west (inside_around m c p whole around west (close_beside p West)) in
      over_0 p.x _ here.0 at.x_is

  pub has_north : 1 ≤ unsigned_abs p.z
  has_north =
      let north = neighbor p North in
      let at = inside_at m.sizes north (inside_around m c p whole around north (close_beside p North)) in
      over_0 p.z _ here.2 at.z_is

  -- one of three rows
  pub in_rows : (q : Pos) → IsClose p q → (n : ℕ) → n ≡ unsigned_abs p.z
      → (q.z ≡ pos (n - 1)) ⊎ ((q.z ≡ pos n) ⊎ (q.z ≡ pos (n + 1)))
  in_rows q close n row =
      let at = inside_at m.sizes q (inside_around m c p whole around q close) in
      let z = unsigned_abs q.z in
      elim (cases_eq z (n - 1)) [
        | inl north ↦ inl (at.z_is ∙ ap pos north)
        | inr off ↦ inr (elim (cases_eq z n) [
          | inl here_row ↦ inl (at.z_is ∙ ap pos here_row)
          | inr south ↦ inr (at.z_is ∙ ap pos
              (omega (arith, ints, here.2, at.z_is, close.north, close.south, row, off, south, has_north)))
        ])
      ]

  -- rows of a layer that lie close
  pub close_row : (other : Pos) → IsClose p other → (n row : ℕ) → n ≡ unsigned_abs p.z → n ≤ row + 1 → row ≤ n + 1
      → IsClose p (record other { z = pos row; x = p.x })
  close_row other close n row is low high = record {
    west = omega (arith, ints);
    east = omega (arith, ints);
    under = close.under;
    over = close.over;
    north = omega (arith, ints, here.2, is, low, high);
    south = omega (arith, ints, here.2, is, low, high);
  }

  module _ (other : Pos) (row : ℕ) (close_other : IsClose p (record other { z = pos row; x = p.x }))
      (column layer : ℕ) (column_is : column ≡ unsigned_abs p.x) (layer_is : layer ≡ unsigned_abs other.y) where
    -- the layer is one of the world
    natural_layer : other.y ≡ pos layer
    natural_layer =
        let at = inside_at m.sizes _ (inside_around m c p whole around (record other { z = pos row; x = p.x }) close_other) in
        at.y_is ∙ ap pos (sym layer_is)

    -- the sector holds the first column of the row
    pub row_held : holds c (place (column - 1) layer row) ≡ true
    row_held = around.held (place (column - 1) layer row) (record {
      west = omega (arith, ints, here.0, column_is, has_west);
      east = omega (arith, ints, here.0, column_is, has_west);
      under = omega (arith, ints, natural_layer, close_other.under);
      over = omega (arith, ints, natural_layer, close_other.over);
      north = close_other.north;
      south = close_other.south;
    })

    -- where no bit is set nothing stands in the row
    pub bare_row : (bits : ℕ) → bits ≡ 0
        → AreInRow (λ q. is_component (cell_at c q)) (column - 1) layer row 3 bits
        → (q : Pos) → IsClose p q → q.y ≡ other.y → q.z ≡ pos row → is_component (cell_on m q) ≡ false
    bare_row bits none are q close in_layer in_row =
        let west = column - 1 in
        let at = inside_at m.sizes q (inside_around m c p whole around q close) in
        let k = unsigned_abs q.x - west in
        let low : k < 3 = omega (arith, ints, here.0, at.x_is, close.west, close.east, has_west, column_is) in
        let same_column : west + k ≡ unsigned_abs q.x = omega (arith, ints, here.0, at.x_is, close.west, has_west, column_is) in
        let same : q ≡ place (west + k) layer row =
        same_pos q (place (west + k) layer row) (in_layer ∙ natural_layer) in_row (at.x_is ∙ ap pos (sym same_column)) in
        ap is_component (sym (around.stands q close))
        ∙ ap (λ r. is_component (cell_at c r)) same
        ∙ sym (ap (λ b. b && is_component (cell_at c (place (west + k) layer row))) (lt-ltb k 3 low))
        ∙ sym (are k) ∙ ap (λ n. is_set n k) none ∙ unset k
