-- What a push takes.
use Rattle.std.proofs.Common.{◌≡◌, ℕ, zero, suc, ◌<◌, true, ◌⊎◌, inl, inr, List, [], ◌∷◌, ◌++◌, length, Bool, Option, Some, None, option_map, refl, sym, ap, ◌∙◌, subst, arith}
use Rattle.std.specs.Option.{IfSome}
use Rattle.std.proofs.lemmas.Bool.{cases_Bool, false≢true}
use Rattle.vx_piston.specs.declared.moves.TheConstants.{MAX_ROW}
use Rattle.vx_block.specs.declared.mobility.Mobility.{Mobility}
use Rattle.vx_block.specs.declared.mobility.Mobility.TheVariants.{Empty, Moves, Breaks, Stays}
use Rattle.vx_block.specs.Mobilities.{mobility_of}
use Rattle.vx_cells.specs.Maps.{MapData, cell_on}
use Rattle.vx_geom.specs.declared.dir.Dir.{Dir}
use Rattle.vx_geom.specs.declared.pos.Pos.{Pos}
use Rattle.vx_geom.specs.Neighbor.{neighbor}
use Rattle.vx_geom.specs.Sizes.{is_inside}
use Rattle.vx_power.specs.Walks.{IsAmong}
use Rattle.vx_piston.specs.Moves.{row, row_at, pushing, drawing}
use Rattle.vx_piston.specs.Laws.{OfCandidates, PushesFewCells}
use Rattle.vx_piston.proofs.Cases.{each_candidate}
use Rattle.vx_piston.proofs.Rows.{no_row, row_inside, row_outside}

-- a row of fewer than n cells that move, and one that is empty or breaks
record IsRow (m : MapData) (n : ℕ) (ps : List Pos) : Type 0 where
  pushed : List Pos
  last : Pos
  cells : ps ≡ pushed ++ last ∷ []
  few : length pushed < n
  each : (q : Pos) → IsAmong pushed q → mobility_of (cell_on m q) ≡ Moves
  end : (mobility_of (cell_on m last) ≡ Empty) ⊎ (mobility_of (cell_on m last) ≡ Breaks)

module _ (m : MapData) where
  -- the end alone
  only : (n : ℕ) (p : Pos) → (mobility_of (cell_on m p) ≡ Empty) ⊎ (mobility_of (cell_on m p) ≡ Breaks)
      → IsRow m (suc n) (p ∷ [])
  only n p end = record {
    pushed = [];
    last = p;
    cells = refl;
    few = omega arith;
    each = λ q among. absurd among;
    end = end;
  }

  -- one more cell that moves
  each_of : (p : Pos) (qs : List Pos) → mobility_of (cell_on m p) ≡ Moves
      → ((q : Pos) → IsAmong qs q → mobility_of (cell_on m q) ≡ Moves)
      → (q : Pos) → IsAmong (p ∷ qs) q → mobility_of (cell_on m q) ≡ Moves
  each_of p qs moves each q (inl same) = ap (λ q. mobility_of (cell_on m q)) (sym same) ∙ moves
  each_of p qs moves each q (inr later) = each q later

  -- what its first cell makes of the rest of a row
  from_first : (n : ℕ) (p : Pos) (k : Mobility) (rest : Option (List Pos)) → mobility_of (cell_on m p) ≡ k
      → IfSome rest (IsRow m n) → IfSome (row_at p k rest) (IsRow m (suc n))
  from_first n p Moves None is row = tt
  from_first n p Moves (Some qs) is row = record {
    pushed = p ∷ row.pushed;
    last = row.last;
    cells = ap (λ qs. p ∷ qs) row.cells;
    few = omega (arith, row.few);
    each = each_of p row.pushed is row.each;
    end = row.end;
  }
  from_first n p Empty rest is row = only n p (inl is)
  from_first n p Breaks rest is row = only n p (inr is)
  from_first n p Stays rest is row = tt

  -- a row ends in a cell that is empty or breaks
  row_ends : (d : Dir) (n : ℕ) (p : Pos) → IfSome (row m d n p) (IsRow m n)
  row_ends d zero p = subst (λ o. IfSome o (IsRow m zero)) (sym (no_row m d p)) tt
  row_ends d (suc n) p = elim (cases_Bool (is_inside m.sizes p)) [
    | inl inside ↦ subst (λ o. IfSome o (IsRow m (suc n))) (sym (row_inside m d n p inside))
        (from_first n p (mobility_of (cell_on m p)) (row m d n (neighbor p d)) refl
        (row_ends d n (neighbor p d)))
    | inr outside ↦ subst (λ o. IfSome o (IsRow m (suc n))) (sym (row_outside m d n p outside)) tt
  ]

  module _ (d : Dir) (p : Pos) where
    -- the piston's cell, and a row
    pushed_row : (o : Option (List Pos)) → IfSome o (IsRow m MAX_ROW)
        → IfSome (option_map (λ ps. record { at = p; facing = d; push = true; cells = p ∷ ps }) o)
        (PushesFewCells m p)
    pushed_row None row = tt
    pushed_row (Some ps) row = λ push. record {
      pushed = row.pushed;
      last = row.last;
      cells = ap (λ ps. p ∷ ps) row.cells;
      few = omega (arith, row.few);
      each = row.each;
      end = row.end;
    }

    -- a piston that pushes
    pushing_takes : IfSome (pushing m d p) (PushesFewCells m p)
    unfolding pushing
    pushing_takes = pushed_row (row m d MAX_ROW (neighbor p d)) (row_ends d MAX_ROW (neighbor p d))

    -- a piston that draws back pushes nothing
    drawing_takes : (sticky : Bool) → PushesFewCells m p (drawing m d sticky p)
    unfolding drawing
    drawing_takes sticky push = absurd (false≢true push)

-- a push takes its piston's cell, at most twelve that move, and one that is empty or breaks
pub pushes : OfCandidates PushesFewCells
pushes m level p move is = subst (λ o. IfSome o (PushesFewCells m p)) is
    (each_candidate m level p (PushesFewCells m p) (λ d inside. pushing_takes m d p)
    (λ d sticky inside. drawing_takes m d p sticky))
