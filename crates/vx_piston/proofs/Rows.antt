-- Turns of the walk along a row.
use Rattle.std.proofs.Common.{◌≡◌, ℕ, zero, suc, true, false, ◌⊎◌, inl, inr, List, [], ◌∷◌, ◌++◌, Option, Some, None, option_map, if◌then◌else◌, refl, sym, ap, ◌∙◌}
use Rattle.std.proofs.lemmas.Bool.{cases_Bool}
use Rattle.std.proofs.lemmas.List.{append_assoc}
use Rattle.vx_block.specs.declared.mobility.Mobility.{Mobility}
use Rattle.vx_block.specs.declared.mobility.Mobility.TheVariants.{Empty, Moves, Breaks, Stays}
use Rattle.vx_block.specs.Mobilities.{mobility_of}
use Rattle.vx_cells.specs.Maps.{MapData, cell_on}
use Rattle.vx_geom.specs.declared.dir.Dir.{Dir}
use Rattle.vx_geom.specs.declared.pos.Pos.{Pos}
use Rattle.vx_geom.specs.Neighbor.{neighbor}
use Rattle.vx_geom.specs.Sizes.{is_inside}
use Rattle.vx_piston.specs.Moves.{row, row_at}

-- these cells and then the rest of a row, if there is one
abbrev pub followed : List Pos → Option (List Pos) → Option (List Pos)
followed cells rest = option_map (λ ps. cells ++ ps) rest

-- the first cell of the rest may be the last before it
moved_over : (cells : List Pos) (p : Pos) (rest : Option (List Pos))
    → followed (cells ++ p ∷ []) rest ≡ followed cells (option_map (λ ps. p ∷ ps) rest)
moved_over cells p None = refl
moved_over cells p (Some ps) = ap Some (append_assoc cells (p ∷ []) ps)

module _ (m : MapData) (d : Dir) (n : ℕ) (p : Pos) where
  -- a row inside the world is what its first cell makes of the rest
  pub row_inside : is_inside m.sizes p ≡ true
      → row m d (suc n) p ≡ row_at p (mobility_of (cell_on m p)) (row m d n (neighbor p d))
  unfolding row
  row_inside inside =
      ap (λ b. if b then row_at p (mobility_of (cell_on m p)) (row m d n (neighbor p d)) else None) inside

  -- one that leads out of the world is none
  pub row_outside : is_inside m.sizes p ≡ false → row m d (suc n) p ≡ None
  unfolding row
  row_outside outside =
      ap (λ b. if b then row_at p (mobility_of (cell_on m p)) (row m d n (neighbor p d)) else None) outside

-- a row of no cells is none
pub no_row : (m : MapData) (d : Dir) (p : Pos) → row m d zero p ≡ None
unfolding row
no_row m d p = refl

-- the row from p on is still to be taken, behind these cells
module _ (m : MapData) (d : Dir) (p : Pos) (cells : List Pos) (taken : Option (List Pos)) where
  -- it is none after too many cells
  pub too_long : (k : ℕ) → followed cells (row m d k p) ≡ taken → k ≡ 0 → None ≡ taken
  too_long k so_far over =
      ap (followed cells) (sym (no_row m d p)) ∙ ap (λ k. followed cells (row m d k p)) (sym over) ∙ so_far

  module _ (n : ℕ) (so_far : followed cells (row m d (suc n) p) ≡ taken) where
    -- and out of the world
    pub leaves : (is_inside m.sizes p ≡ true → ⊥) → None ≡ taken
    leaves away = elim (cases_Bool (is_inside m.sizes p)) [
      | inl inside ↦ absurd (away inside)
      | inr outside ↦ ap (followed cells) (sym (row_outside m d n p outside)) ∙ so_far
    ]

    module _ (q : Pos) (found : (is_inside m.sizes p ≡ true) × (q ≡ p)) where
      -- else its first cell tells what becomes of the rest
      turn : (c : Mobility) → c ≡ mobility_of (cell_on m q)
          → followed cells (row_at q c (row m d n (neighbor q d))) ≡ taken
      turn c is =
          ap (λ c. followed cells (row_at q c (row m d n (neighbor q d)))) is
          ∙ ap (λ q. followed cells (row_at q (mobility_of (cell_on m q)) (row m d n (neighbor q d))))
          found.1
          ∙ ap (followed cells) (sym (row_inside m d n p found.0))
          ∙ so_far

      -- a cell that is pushed is taken, and the row goes on
      pub goes_on : Moves ≡ mobility_of (cell_on m q)
          → followed (cells ++ q ∷ []) (row m d n (neighbor q d)) ≡ taken
      goes_on is = moved_over cells q (row m d n (neighbor q d)) ∙ turn Moves is

      -- one that is empty or breaks is the last
      pub ends : (Empty ≡ mobility_of (cell_on m q)) ⊎ (Breaks ≡ mobility_of (cell_on m q))
          → Some (cells ++ q ∷ []) ≡ taken
      ends (inl is) = turn Empty is
      ends (inr is) = turn Breaks is

      -- one that stays stops the row
      pub stops : Stays ≡ mobility_of (cell_on m q) → None ≡ taken
      stops is = turn Stays is
