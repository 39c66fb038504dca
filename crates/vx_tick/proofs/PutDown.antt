-- What stands in the cells of a move once it is made, cell by cell.
use Rattle.std.proofs.Common.{◌≡◌, ℕ, zero, suc, ◌+◌, ◌≤◌, List, [], ◌∷◌, ◌++◌, length, map, drop, take, zip, slice_get, Some, refl, ap, ◌∙◌, arith}
use Rattle.vx_base.proofs.Lists.{drop_at}
use Rattle.vx_block.specs.declared.cell.Cell.{Cell}
use Rattle.vx_block.specs.declared.cell.Cell.TheVariants.{Air}
use Rattle.vx_geom.specs.declared.pos.Pos.{Pos}
use Rattle.vx_piston.specs.Moves.{Moving}
use Rattle.vx_tick.specs.declared.fate.Fate.{Fate}
use Rattle.vx_tick.specs.Ticks.{pushed, drawn, effects_by, put_down}

-- one pair more of two lists
pub zip_more : {X Y : Type 0} (xs : List X) (ys : List Y) (i : ℕ) (x : X) (y : Y)
    → slice_get xs i ≡ Some x → slice_get ys i ≡ Some y
    → take (suc i) (zip xs ys) ≡ take i (zip xs ys) ++ ((x, y) ∷ [])
zip_more [] ys i x y first second = cc
zip_more (a ∷ xs) [] i x y first second = cc
zip_more (a ∷ xs) (b ∷ ys) zero x y first second =
    let one : a ≡ x = cc in
    let other : b ≡ y = cc in
    λ i. (one i, other i) ∷ []
zip_more (a ∷ xs) (b ∷ ys) (suc i) x y first second =
    ap (λ rest. (a, b) ∷ rest) (zip_more xs ys i x y first second)

-- all pairs of two lists
pub zip_whole : {X Y : Type 0} (xs : List X) (ys : List Y) (i : ℕ) → length xs ≤ i
    → take i (zip xs ys) ≡ zip xs ys
zip_whole [] ys zero past = refl
zip_whole [] ys (suc i) past = refl
zip_whole (x ∷ xs) ys zero past = absurd (omega (arith, past))
zip_whole (x ∷ xs) [] (suc i) past = refl
zip_whole (x ∷ xs) (y ∷ ys) (suc i) past = ap (λ rest. (x, y) ∷ rest) (zip_whole xs ys i (omega (arith, past)))

module _ (w : Pos → Cell) where
  -- what stood at an index
  map_at : (ps : List Pos) (i : ℕ) (p : Pos) → slice_get ps i ≡ Some p
      → slice_get (map w ps) i ≡ Some (w p)
  map_at [] i p found = cc
  map_at (q ∷ ps) zero p found = let same : q ≡ p = cc in ap (λ r. Some (w r)) same
  map_at (q ∷ ps) (suc i) p found = map_at ps i p found

  -- from the third cell of a push on there stands what stood before it
  pub pushed_on : (q : Pos) (ps : List Pos) (i : ℕ) (p : Pos) → slice_get ps (suc i) ≡ Some p
      → slice_get (pushed w q ps) (suc (suc i)) ≡ Some (w p)
  pushed_on q [] i p found = cc
  pushed_on q (r ∷ ps) i p found = map_at ps i p found

  before_last : (ps : List Pos) (i : ℕ) (p : Pos) → slice_get ps i ≡ Some p
      → slice_get (map w ps ++ (Air ∷ [])) i ≡ Some (w p)
  before_last [] i p found = cc
  before_last (q ∷ ps) zero p found = let same : q ≡ p = cc in ap (λ r. Some (w r)) same
  before_last (q ∷ ps) (suc i) p found = before_last ps i p found

  at_last : (ps : List Pos) (i : ℕ) → i ≡ length ps
      → slice_get (map w ps ++ (Air ∷ [])) i ≡ Some Air
  at_last [] zero last = refl
  at_last [] (suc i) last = absurd (omega (arith, last))
  at_last (q ∷ ps) zero last = absurd (omega (arith, last))
  at_last (q ∷ ps) (suc i) last = at_last ps i (omega (arith, last))

  -- behind a piston that drew back there stands what stood one further
  pub drawn_on : (q : Pos) (ps : List Pos) (i : ℕ) (p : Pos) → slice_get ps (suc (suc i)) ≡ Some p
      → slice_get (drawn w q ps) (suc i) ≡ Some (w p)
  drawn_on q [] i p found = cc
  drawn_on q (r ∷ []) i p found = cc
  drawn_on q (r ∷ (s ∷ ps)) i p found = before_last ps i p found

  -- and at its end air
  pub drawn_end : (q : Pos) (ps : List Pos) (i : ℕ) → suc (suc i) ≡ length ps
      → slice_get (drawn w q ps) (suc i) ≡ Some Air
  drawn_end q [] i last = absurd (omega (arith, last))
  drawn_end q (r ∷ []) i last = absurd (omega (arith, last))
  drawn_end q (r ∷ (s ∷ ps)) i last = at_last ps i (omega (arith, last))
