-- The pistons that move in a tick, and the cells that they take and put down.
use Rattle.std.proofs.Common.{◌≡◌, ◌⊎◌, ℕ, zero, suc, Bool, true, false, inl, inr, List, [], ◌∷◌, ◌++◌, map, slice_get, Option, Some, None, option_map, if◌then◌else◌, refl, sym, ap, ◌∙◌, subst}
use Rattle.vx_geom.specs.declared.dir.Dir.{Dir}
use Rattle.vx_geom.specs.declared.pos.Pos.{Pos}
use Rattle.vx_geom.specs.Neighbor.{neighbor}
use Rattle.vx_geom.specs.Sizes.{is_inside}
use Rattle.vx_block.specs.declared.cell.Cell.{Cell}
use Rattle.vx_block.specs.declared.cell.Cell.TheVariants as cell
use Rattle.vx_block.specs.declared.mobility.Mobility.{Mobility}
use Rattle.vx_block.specs.declared.mobility.Mobility.TheVariants.{Empty, Moves, Breaks, Stays}
use Rattle.vx_block.specs.Mobilities.{mobility_of}
use Rattle.vx_cells.specs.Maps.{MapData, cell_on}
use Rattle.vx_power.specs.Signals.{is_active}
use Rattle.vx_power.specs.Walks.{IsAmong}
use Rattle.vx_piston.specs.Moves.{Moving, row, pulled, pushing, drawing, move_of, candidate}

-- a piston that is out, or a head: what a pair is made of
abbrev pub is_tied : Cell → Bool
is_tied (cell.Piston d sticky extended) = extended
is_tied (cell.Head d sticky) = true
is_tied _ = false

tied_stays : (c : Cell) → is_tied c ≡ true → mobility_of c ≡ Stays
tied_stays (cell.Piston d sticky true) tied = refl
tied_stays (cell.Piston d sticky false) tied = cc
tied_stays (cell.Head d sticky) tied = refl
tied_stays cell.Air tied = cc
tied_stays cell.Stone tied = cc
tied_stays cell.Dirt tied = cc
tied_stays cell.Planks tied = cc
tied_stays cell.Glass tied = cc
tied_stays cell.Obsidian tied = cc
tied_stays cell.Bedrock tied = cc
tied_stays cell.Chest tied = cc
tied_stays (cell.Dust l) tied = cc
tied_stays (cell.Torch f l) tied = cc
tied_stays (cell.Lever f o) tied = cc
tied_stays (cell.Repeater r) tied = cc
tied_stays (cell.Lamp l) tied = cc

-- what moves, breaks or is empty is not tied
pub free : (c : Cell) → (mobility_of c ≡ Stays → ⊥) → is_tied c ≡ false
free c goes = by (is_tied c) refl
  where
    by : (b : Bool) → is_tied c ≡ b → is_tied c ≡ false
    by true tied = absurd (goes (tied_stays c tied))
    by false is = is

-- the piston of a push is in, and that of a drawing back is out
pub record Pusher (m : MapData) (q : Pos) (move : Moving) : Type 0 where
  pub sticky : Bool
  pub push : move.push ≡ true
  pub piston : cell_on m q ≡ cell.Piston move.facing sticky false

pub record Drawer (m : MapData) (q : Pos) (move : Moving) : Type 0 where
  pub sticky : Bool
  pub piston : cell_on m q ≡ cell.Piston move.facing sticky true
  pub is : move ≡ drawing m move.facing sticky q

abbrev push_of : Dir → Pos → List Pos → Moving
push_of d q ps = record { at = q; facing = d; push = true; cells = q ∷ ps }

module _ (m : MapData) (level : Pos → ℕ) (q : Pos) (move : Moving) where
  pusher : (d : Dir) (sticky : Bool) (o : Option (List Pos)) → cell_on m q ≡ cell.Piston d sticky false
      → option_map (push_of d q) o ≡ Some move → Pusher m q move
  pusher d sticky None is made = cc
  pusher d sticky (Some ps) is made =
      let same : push_of d q ps ≡ move = cc in
      record {
        sticky = sticky;
        push = ap (λ x. x.push) (sym same);
        piston = is ∙ ap (λ x. cell.Piston x.facing sticky false) same;
      }

  pushes_if : (d : Dir) (sticky b : Bool) → cell_on m q ≡ cell.Piston d sticky false
      → (if b then pushing m d q else None) ≡ Some move → Pusher m q move
  unfolding pushing
  pushes_if d sticky true is made = pusher d sticky (row m d 13 (neighbor q d)) is made
  pushes_if d sticky false is made = cc

  drawer : (d : Dir) (sticky : Bool) → cell_on m q ≡ cell.Piston d sticky true
      → drawing m d sticky q ≡ move → Drawer m q move
  unfolding drawing
  drawer d sticky is same =
      let faces : d ≡ move.facing = ap (λ x. x.facing) same in
      record {
        sticky = sticky;
        piston = is ∙ ap (λ e. cell.Piston e sticky true) faces;
        is = sym same ∙ ap (λ e. drawing m e sticky q) faces;
      }

  draws_if : (d : Dir) (sticky b : Bool) → cell_on m q ≡ cell.Piston d sticky true
      → (if b then None else Some (drawing m d sticky q)) ≡ Some move → Drawer m q move
  draws_if d sticky true is made = cc
  draws_if d sticky false is made =
      let same : drawing m d sticky q ≡ move = cc in
      drawer d sticky is same

  mover_of : (c : Cell) → cell_on m q ≡ c → move_of m level q c ≡ Some move
      → Pusher m q move ⊎ Drawer m q move
  mover_of (cell.Piston d sticky false) is made =
      inl (pushes_if d sticky (is_active (cell_on m) level (Some d) q) is made)
  mover_of (cell.Piston d sticky true) is made =
      inr (draws_if d sticky (is_active (cell_on m) level (Some d) q) is made)
  mover_of (cell.Head d sticky) is made = cc
  mover_of cell.Air is made = cc
  mover_of cell.Stone is made = cc
  mover_of cell.Dirt is made = cc
  mover_of cell.Planks is made = cc
  mover_of cell.Glass is made = cc
  mover_of cell.Obsidian is made = cc
  mover_of cell.Bedrock is made = cc
  mover_of cell.Chest is made = cc
  mover_of (cell.Dust l) is made = cc
  mover_of (cell.Torch f l) is made = cc
  mover_of (cell.Lever f o) is made = cc
  mover_of (cell.Repeater r) is made = cc
  mover_of (cell.Lamp l) is made = cc

  -- a candidate is of one or the other
  pub mover : candidate m level q ≡ Some move → Pusher m q move ⊎ Drawer m q move
  unfolding candidate
  mover made = mover_of (cell_on m q) refl made

abbrev nowhere : List Pos
nowhere = []

none_either : (b : Bool) → (if b then nowhere else nowhere) ≡ nowhere
none_either true = refl
none_either false = refl

one_of : (b c : Bool) (p r : Pos) → IsAmong (if b then (if c then p ∷ [] else []) else []) r → p ≡ r
one_of true true p r (inl same) = same
one_of true true p r (inr none) = absurd none
one_of true false p r among = absurd among
one_of false c p r among = absurd among

module _ (m : MapData) (d : Dir) (p r : Pos) where
  pulls_none : (k : Mobility) → mobility_of (cell_on m p) ≡ k → (k ≡ Moves → ⊥) → pulled m d true p ≡ []
  unfolding pulled
  pulls_none Moves is other = absurd (other refl)
  pulls_none Empty is other = rw is (none_either (is_inside m.sizes p))
  pulls_none Breaks is other = rw is (none_either (is_inside m.sizes p))
  pulls_none Stays is other = rw is (none_either (is_inside m.sizes p))

  is_pulled : IsAmong (pulled m d true p) r → p ≡ r
  unfolding pulled
  is_pulled among = one_of (is_inside m.sizes p) _ p r among

  pulled_is : (k : Mobility) → mobility_of (cell_on m p) ≡ k → IsAmong (pulled m d true p) r
      → mobility_of (cell_on m r) ≡ Moves
  pulled_is Moves is among = ap (λ x. mobility_of (cell_on m x)) (sym (is_pulled among)) ∙ is
  pulled_is Empty is among = absurd (subst (λ ps. IsAmong ps r) (pulls_none Empty is (λ e. cc)) among)
  pulled_is Breaks is among = absurd (subst (λ ps. IsAmong ps r) (pulls_none Breaks is (λ e. cc)) among)
  pulled_is Stays is among = absurd (subst (λ ps. IsAmong ps r) (pulls_none Stays is (λ e. cc)) among)

  none_pulled : IsAmong (pulled m d false p) r → ⊥
  unfolding pulled
  none_pulled among = among

-- what is pulled moves
pub pulled_moves : (m : MapData) (d : Dir) (sticky : Bool) (p r : Pos) → IsAmong (pulled m d sticky p) r
    → mobility_of (cell_on m r) ≡ Moves
pulled_moves m d true p r among = pulled_is m d p r (mobility_of (cell_on m p)) refl among
pulled_moves m d false p r among = absurd (none_pulled m d p r among)

module _ (v : Pos → Cell) where
  -- a cell of a row that stands before another one of it
  pub before_last : (ps : List Pos) (last : Pos) (k : ℕ) (p : Pos) (c : Cell)
      → slice_get (ps ++ last ∷ []) (suc k) ≡ Some p → slice_get (map v (ps ++ last ∷ [])) k ≡ Some c
      → (r : Pos) × IsAmong ps r × (c ≡ v r)
  before_last [] last k p c at is = cc
  before_last (r ∷ ps) last zero p c at is = (r, inl refl, cc)
  before_last (r ∷ ps) last (suc k) p c at is =
      let found = before_last ps last k p c at is in
      (found.0, inr found.1, found.2)

  -- a cell of these, or air behind them
  pub or_air : (ps : List Pos) (k : ℕ) (c : Cell) → slice_get (map v ps ++ cell.Air ∷ []) k ≡ Some c
      → ((r : Pos) × IsAmong ps r × (c ≡ v r)) ⊎ (c ≡ cell.Air)
  or_air [] zero c is = inr cc
  or_air [] (suc k) c is = cc
  or_air (r ∷ ps) zero c is = inl (r, inl refl, cc)
  or_air (r ∷ ps) (suc k) c is = elim (or_air ps k c is) [
    | inl found ↦ inl (found.0, inr found.1, found.2)
    | inr air ↦ inr air
  ]
