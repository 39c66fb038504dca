-- What a piston would move lies in a line, inside the world.
use Rattle.std.proofs.Common.{◌≡◌, ℕ, zero, suc, ◌≤◌, Bool, true, false, inl, inr, List, [], ◌∷◌, ◌++◌, length, Option, Some, None, option_map, if◌then◌else◌, refl, sym, ap, ◌∙◌, subst, arith}
use Rattle.std.specs.Option.{IfSome}
use Rattle.std.proofs.lemmas.Bool.{cases_Bool, false≢true}
use Rattle.vx_piston.specs.declared.moves.TheConstants.{MAX_ROW}
use Rattle.vx_block.specs.declared.mobility.Mobility.{Mobility}
use Rattle.vx_block.specs.declared.mobility.Mobility.TheVariants.{Empty, Moves, Breaks, Stays}
use Rattle.vx_block.specs.Mobilities.{mobility_of}
use Rattle.vx_cells.specs.Maps.{MapData, cell_on}
use Rattle.vx_geom.specs.declared.dir.Dir.{Dir}
use Rattle.vx_geom.specs.declared.pos.Pos.{Pos}
use Rattle.vx_geom.specs.Neighbor.{neighbor}
use Rattle.vx_geom.specs.Sizes.{is_inside}
use Rattle.vx_piston.specs.Moves.{Moving, row, row_at, pulled, pushing, drawing, candidate}
use Rattle.vx_piston.proofs.Ends.{drawn_alone}
use Rattle.vx_piston.proofs.Cases.{each_candidate}
use Rattle.vx_piston.proofs.Rows.{no_row, row_inside, row_outside}

-- these positions follow one another from p on, inside the world
abbrev pub IsLine : MapData → Dir → Pos → List Pos → Type 0
IsLine m d p [] = Unit {0}
IsLine m d p (q ∷ qs) = (q ≡ p) × (is_inside m.sizes p ≡ true) × IsLine m d (neighbor p d) qs

-- they do, and are at most n
pub record IsShort (m : MapData) (d : Dir) (p : Pos) (n : ℕ) (qs : List Pos) : Type 0 where
  pub line : IsLine m d p qs
  pub few : length qs ≤ n

-- a move takes its piston's cell, and at most so many cells that follow it
pub record IsMove (m : MapData) (p : Pos) (move : Moving) : Type 0 where
  pub at : move.at ≡ p
  pub inside : is_inside m.sizes p ≡ true
  pub rest : List Pos
  pub cells : move.cells ≡ p ∷ rest
  pub short : IsShort m move.facing (neighbor p move.facing) MAX_ROW rest

module _ (m : MapData) (d : Dir) where
  -- one position alone
  alone : (p : Pos) (n : ℕ) → is_inside m.sizes p ≡ true → IsShort m d p (suc n) (p ∷ [])
  alone p n inside = record { line = (refl, inside, tt); few = omega arith }

  -- or none
  nothing : (p : Pos) (n : ℕ) → IsShort m d p n []
  nothing p n = record { line = tt; few = omega arith }

  -- what its first cell makes of the rest of a row
  from_first : (p : Pos) (n : ℕ) (k : Mobility) (rest : Option (List Pos)) → is_inside m.sizes p ≡ true
      → IfSome rest (IsShort m d (neighbor p d) n) → IfSome (row_at p k rest) (IsShort m d p (suc n))
  from_first p n Moves None inside short = tt
  from_first p n Moves (Some qs) inside short =
      record { line = (refl, inside, short.line); few = omega (arith, short.few) }
  from_first p n Empty rest inside short = alone p n inside
  from_first p n Breaks rest inside short = alone p n inside
  from_first p n Stays rest inside short = tt

  -- a row is a line
  row_is_line : (n : ℕ) (p : Pos) → IfSome (row m d n p) (IsShort m d p n)
  row_is_line zero p = subst (λ o. IfSome o (IsShort m d p zero)) (sym (no_row m d p)) tt
  row_is_line (suc n) p = elim (cases_Bool (is_inside m.sizes p)) [
    | inl inside ↦ subst (λ o. IfSome o (IsShort m d p (suc n))) (sym (row_inside m d n p inside))
        (from_first p n (mobility_of (cell_on m p)) (row m d n (neighbor p d)) inside
        (row_is_line n (neighbor p d)))
    | inr outside ↦ subst (λ o. IfSome o (IsShort m d p (suc n))) (sym (row_outside m d n p outside)) tt
  ]

  -- one position, if so
  if_so : (p : Pos) (b : Bool) → is_inside m.sizes p ≡ true → IsShort m d p 1 (if b then p ∷ [] else [])
  if_so p true inside = alone p 0 inside
  if_so p false inside = nothing p 1

  -- what is pulled is a line
  pulled_is_line : (sticky : Bool) (p : Pos) → IsShort m d p 1 (pulled m d sticky p)
  unfolding pulled
  pulled_is_line false p = nothing p 1
  pulled_is_line true p = elim (cases_Bool (is_inside m.sizes p)) [
    | inl inside ↦ rw inside (if_so p _ inside)
    | inr outside ↦ rw outside (nothing p 1)
  ]

  module _ (p : Pos) (inside : is_inside m.sizes p ≡ true) where
    -- the piston's cell, and a row
    pushed_row : (o : Option (List Pos)) → IfSome o (IsShort m d (neighbor p d) MAX_ROW)
        → IfSome (option_map (λ ps. record { at = p; facing = d; push = true; cells = p ∷ ps }) o)
        (IsMove m p)
    pushed_row None short = tt
    pushed_row (Some ps) short = record { at = refl; inside = inside; rest = ps; cells = refl; short = short }

    -- a push takes a line
    pushing_is_line : IfSome (pushing m d p) (IsMove m p)
    unfolding pushing
    pushing_is_line = pushed_row (row m d MAX_ROW (neighbor p d)) (row_is_line MAX_ROW (neighbor p d))

    -- and so does a piston that draws back
    drawing_is_line : (sticky : Bool) → IsMove m p (drawing m d sticky p)
    unfolding drawing
    drawing_is_line sticky = elim (cases_Bool (is_inside m.sizes (neighbor p d))) [
      | inl head ↦
          let behind = pulled_is_line sticky (neighbor (neighbor p d) d) in
          record {
            at = refl;
            inside = inside;
            rest = neighbor p d ∷ pulled m d sticky (neighbor (neighbor p d) d);
            cells = ap (λ b. p ∷ ((if b then neighbor p d ∷ [] else [])
                ++ pulled m d sticky (neighbor (neighbor p d) d))) head;
            short = record { line = (refl, head, behind.line); few = omega (arith, behind.few) };
          }
      | inr outside ↦ record {
        at = refl;
        inside = inside;
        rest = [];
        cells = sym (drawn_alone m d sticky p inside (λ head. false≢true (sym outside ∙ head)));
        short = nothing (neighbor p d) MAX_ROW;
      }
    ]

-- a piston that would move takes a line
pub candidate_is_line : (m : MapData) (level : Pos → ℕ) (p : Pos) → IfSome (candidate m level p) (IsMove m p)
candidate_is_line m level p = each_candidate m level p (IsMove m p)
    (λ d inside. pushing_is_line m d p inside) (λ d sticky inside. drawing_is_line m d p inside sticky)
