-- The laws of what a piston would move.
use Rattle.std.proofs.Common.{◌≡◌, ℕ, ℤ, pos, zero, suc, true, inl, inr, List, [], ◌∷◌, length, slice_get, Some, refl, sym, ap, ◌∙◌, subst, arith}
use Rattle.std.specs.Prelude.{◌+ℤ◌, ◌-ℤ◌}
use Rattle.std.specs.Option.{IfSome}
use Rattle.std.proofs.lemmas.Int.{ints}
use Rattle.vx_cells.specs.Maps.{MapData}
use Rattle.vx_geom.specs.declared.dir.Dir.{Dir}
use Rattle.vx_geom.specs.declared.dir.Dir.TheVariants.{East, West, Up, Down, South, North}
use Rattle.vx_geom.specs.declared.pos.Pos.{Pos}
use Rattle.vx_geom.specs.Neighbor.{neighbor}
use Rattle.vx_geom.specs.Sizes.{is_inside}
use Rattle.vx_power.specs.Walks.{IsAmong}
use Rattle.vx_piston.specs.Moves.{Moving, candidate}
use Rattle.vx_piston.specs.Laws.{steps, OfCandidates, BeginsWithPiston, TakesFewCells, StaysInside, LiesInLine, TakesEachOnce}
use Rattle.vx_piston.proofs.Lines.{IsLine, IsMove, candidate_is_line}

-- a candidate is a move of its piston
is_move : (m : MapData) (level : Pos → ℕ) (p : Pos) (move : Moving) → candidate m level p ≡ Some move
    → IsMove m p move
is_move m level p move is = subst (λ o. IfSome o (IsMove m p)) is (candidate_is_line m level p)

-- the whole of it is a line
whole : (m : MapData) (p : Pos) (move : Moving) → IsMove m p move → IsLine m move.facing p move.cells
whole m p move is = subst (IsLine m move.facing p) (sym is.cells) (refl, is.inside, is.short.line)

-- a line has positions of the world alone
among_line : (m : MapData) (d : Dir) (p : Pos) (qs : List Pos) → IsLine m d p qs
    → (q : Pos) → IsAmong qs q → is_inside m.sizes q ≡ true
among_line m d p [] line q among = absurd among
among_line m d p (r ∷ qs) line q (inl same) =
    subst (λ q. is_inside m.sizes q ≡ true) (sym line.0 ∙ same) line.1
among_line m d p (r ∷ qs) line q (inr later) = among_line m d (neighbor p d) qs line.2 q later

-- its position of a number lies as many steps further
at_number : (m : MapData) (d : Dir) (p : Pos) (qs : List Pos) → IsLine m d p qs
    → (n : ℕ) (q : Pos) → slice_get qs n ≡ Some q → q ≡ steps d n p
at_number m d p [] line n q found = cc
at_number m d p (r ∷ qs) line zero q found = let same : r ≡ q = cc in sym same ∙ line.0
at_number m d p (r ∷ qs) line (suc n) q found = at_number m d (neighbor p d) qs line.2 n q found

-- how far a position lies in a direction
abbrev along : Dir → Pos → ℤ
along East p = p.x
along West p = pos 0 -ℤ p.x
along Up p = p.y
along Down p = pos 0 -ℤ p.y
along South p = p.z
along North p = pos 0 -ℤ p.z

-- one step leads one further
one_further : (d : Dir) (p : Pos) → along d (neighbor p d) ≡ along d p +ℤ pos 1
one_further East p = refl
one_further West p = omega (arith, ints)
one_further Up p = refl
one_further Down p = omega (arith, ints)
one_further South p = refl
one_further North p = omega (arith, ints)

-- so many steps lead as far
as_far : (d : Dir) (n : ℕ) (p : Pos) → along d (steps d n p) ≡ along d p +ℤ pos n
as_far d zero p = omega (arith, ints)
as_far d (suc n) p =
    let later = as_far d n (neighbor p d) in
    let first = one_further d p in
    omega (arith, ints, later, first)

-- two numbers of steps lead to two positions
one_number : (d : Dir) (p : Pos) (i j : ℕ) → steps d i p ≡ steps d j p → i ≡ j
one_number d p i j same =
    let first = as_far d i p in
    let second = as_far d j p in
    let there = ap (along d) same in
    omega (arith, ints, first, second, there)

-- a candidate begins with its piston
pub begins : OfCandidates BeginsWithPiston
begins m level p move found = let is = is_move m level p move found in (is.at, is.rest, is.cells)

-- it takes at most 14 cells
pub short : OfCandidates TakesFewCells
short m level p move found =
    let is = is_move m level p move found in
    let same = ap length is.cells in
    omega (arith, same, is.short.few)

-- they lie inside the world
pub inside : OfCandidates StaysInside
inside m level p move found =
    among_line m move.facing p move.cells (whole m p move (is_move m level p move found))

-- one behind the other
pub in_line : OfCandidates LiesInLine
in_line m level p move found =
    at_number m move.facing p move.cells (whole m p move (is_move m level p move found))

-- and none is taken twice
pub once : OfCandidates TakesEachOnce
once m level p move found i j q first second =
    one_number move.facing p i j
    (sym (in_line m level p move found i q first) ∙ in_line m level p move found j q second)
