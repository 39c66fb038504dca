-- What a piston moves, by what stands before it.
use Rattle.std.proofs.Common.{◌≡◌, ℕ, zero, suc, ◌<◌, ◌≤◌, Bool, true, false, not, ◌⊎◌, inl, inr, List, [], ◌∷◌, ◌++◌, Option, Some, None, option_map, if◌then◌else◌, refl, sym, ap, ◌∙◌, subst, arith}
use Rattle.std.specs.Option.{IfSome}
use Rattle.std.proofs.lemmas.Bool.{cases_Bool, not-true, false≢true}
use Rattle.vx_piston.specs.declared.moves.TheConstants.{MAX_ROW}
use Rattle.vx_block.specs.declared.cell.Cell.{Cell}
use Rattle.vx_block.specs.declared.cell.Cell.TheVariants.{Air, Piston}
use Rattle.vx_block.specs.declared.mobility.Mobility.{Mobility}
use Rattle.vx_block.specs.declared.mobility.Mobility.TheVariants.{Empty, Moves, Breaks, Stays}
use Rattle.vx_block.specs.Mobilities.{mobility_of}
use Rattle.vx_cells.specs.Maps.{MapData, cell_on}
use Rattle.vx_cells.proofs.MapLemmas.{outside_is_air}
use Rattle.vx_geom.specs.declared.dir.Dir.{Dir}
use Rattle.vx_geom.specs.declared.pos.Pos.{Pos}
use Rattle.vx_geom.specs.Neighbor.{neighbor}
use Rattle.vx_geom.specs.Sizes.{is_inside}
use Rattle.vx_power.specs.Signals.{is_active}
use Rattle.vx_piston.specs.Laws.{steps}
use Rattle.vx_piston.specs.Moves.{Moving, row, row_at, pulled, pushing, drawing, move_of, candidate, restless_as, is_restless}
use Rattle.vx_piston.proofs.Ends.{drawn_alone, piston_inside}
use Rattle.vx_piston.proofs.Rows.{no_row, row_inside, row_outside}
use Rattle.vx_machine_laws.specs.Pistons.{IsPiston, Does, RowMoves, in_line, IsOpen, IsShut, OpenRowsArePushed, ShutRowsStay, LongRowsStay, IsDraw, UnpoweredDraw, SettledStay, OthersStay, MovesArePistons, RestlessAreThese}

module _ (m : MapData) where
  -- what moves lies inside the world
  moves_inside : (p : Pos) → Does m Moves p → is_inside m.sizes p ≡ true
  moves_inside p moves = elim (cases_Bool (is_inside m.sizes p)) [
    | inl inside ↦ inside
    | inr outside ↦
        let air : cell_on m p ≡ Air = outside_is_air m p (λ inside. false≢true (sym outside ∙ inside)) in
        let both : Empty ≡ Moves = sym (ap mobility_of air) ∙ moves in
        absurd (apart both)
  ]
    where
      apart : Empty ≡ Moves → ⊥
      apart same = cc

  module _ (d : Dir) where
    -- a cell that moves, and the row behind it
    one_more : (k : ℕ) (p : Pos) → Does m Moves p
        → row m d (suc k) p ≡ option_map (λ qs. p ∷ qs) (row m d k (neighbor p d))
    one_more k p moves =
        row_inside m d k p (moves_inside p moves)
        ∙ ap (λ c. row_at p c (row m d k (neighbor p d))) moves

    rest_moves : (n : ℕ) (p : Pos) → RowMoves m d (suc n) p → RowMoves m d n (neighbor p d)
    rest_moves n p each k less = each (suc k) (omega (arith, less))

    -- the row over n cells that move
    open_row : (n k : ℕ) (p : Pos) → n < k → RowMoves m d n p → IsOpen m (steps d n p)
        → row m d k p ≡ Some (in_line d (suc n) p)
    open_row n zero p less each end = absurd (omega (arith, less))
    open_row zero (suc k) p less each end = by end.1
      where
        by : (Does m Empty p ⊎ Does m Breaks p) → row m d (suc k) p ≡ Some (p ∷ [])
        by (inl empty) = row_inside m d k p end.0 ∙ ap (λ c. row_at p c (row m d k (neighbor p d))) empty
        by (inr breaks) = row_inside m d k p end.0 ∙ ap (λ c. row_at p c (row m d k (neighbor p d))) breaks
    open_row (suc n) (suc k) p less each end =
        one_more k p (each zero (omega arith))
        ∙ ap (option_map (λ qs. p ∷ qs)) (open_row n k (neighbor p d) (omega (arith, less)) (rest_moves n p each) end)

    shut_row : (n k : ℕ) (p : Pos) → RowMoves m d n p → IsShut m (steps d n p) → row m d k p ≡ None
    shut_row n zero p each end = no_row m d p
    shut_row zero (suc k) p each end = by end
      where
        inside_by : Does m Stays p → is_inside m.sizes p ≡ true → row m d (suc k) p ≡ None
        inside_by stays inside = row_inside m d k p inside ∙ ap (λ c. row_at p c (row m d k (neighbor p d))) stays

        by : IsShut m p → row m d (suc k) p ≡ None
        by (inl outside) = row_outside m d k p outside
        by (inr stays) = elim (cases_Bool (is_inside m.sizes p)) [
          | inl inside ↦ inside_by stays inside
          | inr outside ↦ row_outside m d k p outside
        ]
    shut_row (suc n) (suc k) p each end =
        one_more k p (each zero (omega arith))
        ∙ ap (option_map (λ qs. p ∷ qs)) (shut_row n k (neighbor p d) (rest_moves n p each) end)

    long_row : (n k : ℕ) (p : Pos) → k ≤ n → RowMoves m d n p → row m d k p ≡ None
    long_row n zero p most each = no_row m d p
    long_row zero (suc k) p most each = absurd (omega (arith, most))
    long_row (suc n) (suc k) p most each =
        one_more k p (each zero (omega arith))
        ∙ ap (option_map (λ qs. p ∷ qs)) (long_row n k (neighbor p d) (omega (arith, most)) (rest_moves n p each))

  module _ (level : Pos → ℕ) (p : Pos) (front : Dir) (sticky : Bool) where
    -- the move of a piston that is in, by whether it is active
    in_by : (active : Bool) → IsPiston m level p front sticky false active
        → candidate m level p ≡ (if active then pushing m front p else None)
    unfolding candidate
    in_by active is =
        ap (move_of m level p) is.stands ∙ ap (λ b. if b then pushing m front p else None) is.powered

    out_by : (active : Bool) → IsPiston m level p front sticky true active
        → candidate m level p ≡ (if active then None else Some (drawing m front sticky p))
    unfolding candidate
    out_by active is =
        ap (move_of m level p) is.stands ∙ ap (λ b. if b then None else Some (drawing m front sticky p)) is.powered

    -- a push by its row
    push_of : (o : Option (List Pos)) → row m front MAX_ROW (neighbor p front) ≡ o
        → pushing m front p
        ≡ option_map (λ ps. record { at = p; facing = front; push = true; cells = p ∷ ps }) o
    unfolding pushing
    push_of o is = ap (option_map (λ ps. record { at = p; facing = front; push = true; cells = p ∷ ps })) is

pub open_rows_are_pushed : OpenRowsArePushed
open_rows_are_pushed m level p front sticky n is few each end =
    in_by m level p front sticky true is
    ∙ push_of m level p front sticky (Some (in_line front (suc n) (neighbor p front)))
    (open_row m front n MAX_ROW (neighbor p front) (omega (arith, few)) each end)

pub shut_rows_stay : ShutRowsStay
shut_rows_stay m level p front sticky n is few each end =
    in_by m level p front sticky true is
    ∙ push_of m level p front sticky None (shut_row m front n MAX_ROW (neighbor p front) each end)

pub long_rows_stay : LongRowsStay
long_rows_stay m level p front sticky n is many each =
    in_by m level p front sticky true is
    ∙ push_of m level p front sticky None (long_row m front n MAX_ROW (neighbor p front) (omega (arith, many)) each)

-- what a draw takes
module _ (m : MapData) (p : Pos) (front : Dir) where
  -- nothing is pulled that does not move
  stays_behind : (k : Mobility) → Does m k (steps front 2 p) → (k ≡ Moves → ⊥)
      → is_inside m.sizes (steps front 2 p) ≡ true → pulled m front true (steps front 2 p) ≡ []
  unfolding pulled
  stays_behind Moves is other inside = absurd (other refl)
  stays_behind Empty is other inside = rw inside (rw is refl)
  stays_behind Breaks is other inside = rw inside (rw is refl)
  stays_behind Stays is other inside = rw inside (rw is refl)

  outside_behind : is_inside m.sizes (steps front 2 p) ≡ false → pulled m front true (steps front 2 p) ≡ []
  unfolding pulled
  outside_behind outside = rw outside refl

  none_pulled : (sticky : Bool) → (sticky ≡ false) ⊎ ((is_inside m.sizes (steps front 2 p) ≡ false)
      ⊎ (Does m Moves (steps front 2 p) → ⊥)) → pulled m front sticky (steps front 2 p) ≡ []
  unfolding pulled
  none_pulled false why = refl
  none_pulled true (inl plain) = absurd (false≢true (sym plain))
  none_pulled true (inr (inl outside)) = outside_behind outside
  none_pulled true (inr (inr unmoved)) = elim (cases_Bool (is_inside m.sizes (steps front 2 p))) [
    | inl inside ↦ stays_behind (mobility_of (cell_on m (steps front 2 p))) refl unmoved inside
    | inr outside ↦ outside_behind outside
  ]

  -- what moves is
  one_pulled : (sticky : Bool) → sticky ≡ true → is_inside m.sizes (steps front 2 p) ≡ true
      → Does m Moves (steps front 2 p) → pulled m front sticky (steps front 2 p) ≡ steps front 2 p ∷ []
  unfolding pulled
  one_pulled true same inside moves = rw inside (rw moves refl)
  one_pulled false same inside moves = absurd (false≢true same)

  module _ (sticky : Bool) (inside : is_inside m.sizes p ≡ true) where
    takes : (b : Bool) (qs : List Pos) → is_inside m.sizes (neighbor p front) ≡ b
        → pulled m front sticky (steps front 2 p) ≡ qs
        → (drawing m front sticky p).cells ≡ p ∷ ((if b then neighbor p front ∷ [] else []) ++ qs)
    unfolding drawing
    takes b qs head behind =
        ap (λ b. p ∷ ((if b then neighbor p front ∷ [] else []) ++ pulled m front sticky (steps front 2 p))) head
        ∙ ap (λ qs. p ∷ ((if b then neighbor p front ∷ [] else []) ++ qs)) behind

    pub is_draw : IsDraw m p front sticky (drawing m front sticky p)
    unfolding drawing
    is_draw = record {
      at = refl;
      facing = refl;
      draws = refl;
      outside = λ outside. sym (drawn_alone m front sticky p inside (λ head. false≢true (sym outside ∙ head)));
      pulls = λ head is behind moves. takes true (steps front 2 p ∷ []) head (one_pulled sticky is behind moves);
      leaves = λ head why. takes true [] head (none_pulled sticky why);
    }

-- a piston that stands somewhere stands inside the world
draw_of : (m : MapData) (level : Pos → ℕ) (p : Pos) (front : Dir) (sticky active : Bool)
    → IsPiston m level p front sticky true active → IsDraw m p front sticky (drawing m front sticky p)
draw_of m level p front sticky active is =
    is_draw m p front sticky (piston_inside m p front sticky true (sym is.stands))

pub unpowered_draw : UnpoweredDraw
unpowered_draw m level p front sticky is =
    (drawing m front sticky p, out_by m level p front sticky false is, draw_of m level p front sticky false is)

pub settled_stay : SettledStay
settled_stay m level p front sticky false is = in_by m level p front sticky false is
settled_stay m level p front sticky true is = out_by m level p front sticky true is

module _ (m : MapData) (level : Pos → ℕ) (p : Pos) where
  others_by : (c : Cell) → ((front : Dir) (sticky out : Bool) → c ≡ Piston front sticky out → ⊥)
      → move_of m level p c ≡ None
  others_by (Piston front sticky out) none = absurd (none front sticky out refl)
  others_by _ none = refl

pub others_stay : OthersStay
unfolding candidate
others_stay m level p none = others_by m level p (cell_on m p) none

-- whose move it is
module _ (m : MapData) (level : Pos → ℕ) (p : Pos) where
  abbrev OfPiston : Moving → Type 0
  OfPiston move = (sticky : Bool)
      × (((move.push ≡ true) × IsPiston m level p move.facing sticky false true)
      ⊎ (IsPiston m level p move.facing sticky true false × IsDraw m p move.facing sticky move))

  pushed_by : (front : Dir) (sticky : Bool) → IsPiston m level p front sticky false true
      → (o : Option (List Pos))
      → IfSome (option_map (λ ps. record { at = p; facing = front; push = true; cells = p ∷ ps }) o) OfPiston
  pushed_by front sticky is None = tt
  pushed_by front sticky is (Some ps) = (sticky, inl (refl, is))

  a_push : (front : Dir) (sticky : Bool) → IsPiston m level p front sticky false true
      → IfSome (pushing m front p) OfPiston
  a_push front sticky is =
      subst (λ o. IfSome o OfPiston) (sym (push_of m level p front sticky (row m front MAX_ROW (neighbor p front)) refl))
      (pushed_by front sticky is (row m front MAX_ROW (neighbor p front)))

  a_draw : (front : Dir) (sticky : Bool) → IsPiston m level p front sticky true false
      → OfPiston (drawing m front sticky p)
  unfolding drawing
  a_draw front sticky is = (sticky, inr (is, draw_of m level p front sticky false is))

  in_piston : (front : Dir) (sticky active : Bool) → IsPiston m level p front sticky false active
      → IfSome (if active then pushing m front p else None) OfPiston
  in_piston front sticky true is = a_push front sticky is
  in_piston front sticky false is = tt

  out_piston : (front : Dir) (sticky active : Bool) → IsPiston m level p front sticky true active
      → IfSome (if active then None else Some (drawing m front sticky p)) OfPiston
  out_piston front sticky true is = tt
  out_piston front sticky false is = a_draw front sticky is

  by_cell : (c : Cell) → cell_on m p ≡ c → IfSome (move_of m level p c) OfPiston
  by_cell (Piston front sticky false) stands =
      in_piston front sticky (is_active (cell_on m) level (Some front) p) (record { stands = stands; powered = refl })
  by_cell (Piston front sticky true) stands =
      out_piston front sticky (is_active (cell_on m) level (Some front) p) (record { stands = stands; powered = refl })
  by_cell _ stands = tt

  whose : IfSome (candidate m level p) OfPiston
  unfolding candidate
  whose = by_cell (cell_on m p) refl

pub moves_are_pistons : MovesArePistons
moves_are_pistons m level p move is = subst (λ o. IfSome o (OfPiston m level p)) is (whose m level p)

-- which are restless
module _ (w : Pos → Cell) (level : Pos → ℕ) (p : Pos) where
  abbrev IsRestless : Cell → Type 0
  IsRestless c = (front : Dir) × (sticky : Bool) × (out : Bool)
      × (c ≡ Piston front sticky out) × (is_active w level (Some front) p ≡ not out)

  restless_at : (c : Cell) → restless_as w level p c ≡ true → IsRestless c
  restless_at (Piston front sticky false) is = (front, sticky, false, refl, is)
  restless_at (Piston front sticky true) is =
      (front, sticky, true, refl, not-true (is_active w level (Some front) p) is)
  restless_at _ is = absurd (false≢true is)

  restless_piston : (front : Dir) (sticky out : Bool) → is_active w level (Some front) p ≡ not out
      → restless_as w level p (Piston front sticky out) ≡ true
  restless_piston front sticky false is = is
  restless_piston front sticky true is = ap not is

  restless_from : (c : Cell) → IsRestless c → restless_as w level p c ≡ true
  restless_from c at = ap (restless_as w level p) at.3 ∙ restless_piston at.0 at.1 at.2 at.4

pub restless_are_these : RestlessAreThese
unfolding is_restless
restless_are_these w level p = record { only = restless_at w level p (w p); all = restless_from w level p (w p) }
