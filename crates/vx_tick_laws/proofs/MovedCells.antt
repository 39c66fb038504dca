-- What a push and a drawing back leave in their cells.
use Rattle.std.proofs.Common.{◌≡◌, ℕ, suc, Bool, true, false, inl, inr, List, [], ◌∷◌, ◌++◌, slice_get, Some, if◌then◌else◌, refl, sym, ap, ◌∙◌}
use Rattle.std.proofs.lemmas.Bool.{false≢true}
use Rattle.vx_geom.specs.declared.dir.Dir.{Dir}
use Rattle.vx_geom.specs.declared.pos.Pos.{Pos}
use Rattle.vx_block.specs.declared.cell.Cell.{Cell}
use Rattle.vx_block.specs.declared.cell.Cell.TheVariants as cell
use Rattle.vx_cells.specs.MapLaws.{IsFilled}
use Rattle.vx_cells.specs.Maps.{MapData, cell_on}
use Rattle.vx_cells.proofs.Putting.{cell_of_block}
use Rattle.vx_power.specs.Laws.{dust_level}
use Rattle.vx_part.specs.Parts.{next_of}
use Rattle.vx_piston.specs.Moves.{Moving, candidate, drawing}
use Rattle.vx_piston.proofs.MoveLaws.{begins, in_line}
use Rattle.vx_piston.proofs.Pushes.{pushes}
use Rattle.vx_region.specs.Regions.{Regions}
use Rattle.vx_cause.specs.Laws.{IsMade}
use Rattle.vx_tick.specs.declared.fate.Fate.{Fate}
use Rattle.vx_tick.specs.Laws.{OfTicks}
use Rattle.vx_tick_laws.specs.MovedCells.{HasPushed, HasDrawn, PushesPush, DrawsDraw}
use Rattle.vx_tick.specs.Ticks.{advanced, piston_as, head_of, pushed, drawn, moved_cells, IsTick}
use Rattle.vx_tick.proofs.Advancing.{parts_become_next}
use Rattle.vx_tick.proofs.Making.{made_are_put, moves_are_asked}
use Rattle.vx_tick.proofs.Movers.{Pusher, Drawer, mover}
use Rattle.vx_tick.proofs.PutDown.{pushed_on, drawn_on, drawn_end}

-- there is a first of these
first_of : (ps : List Pos) (last : Pos) → (r : Pos) × (slice_get (ps ++ last ∷ []) 0 ≡ Some r)
first_of [] last = (last, refl)
first_of (r ∷ ps) last = (r, refl)

module _ (rs : Regions) (m next : MapData) (fates : List (Pos × Fate)) (tick : IsTick rs m next fates)
    (filled : IsFilled m) (move : Moving) (made : IsMade rs tick.moves move) where
  abbrev w : Pos → Cell
  w = cell_on (advanced m)

  asks : candidate m (dust_level (cell_on m)) move.at ≡ Some move
  asks = moves_are_asked rs m next fates tick filled move made.0

  -- a cell that it puts down stands there
  stands : (n : ℕ) (p : Pos) (c : Cell) → slice_get move.cells n ≡ Some p
      → slice_get (moved_cells w move) n ≡ Some c → cell_on next p ≡ c
  stands n p c at is =
      sym (cell_of_block next p)
      ∙ ap (λ b. b.cell) (made_are_put rs m next fates tick filled move n p c made at is)

  -- the piston is as it was while parts become others
  piston_stays : (d : Dir) (sticky out : Bool) → cell_on m move.at ≡ cell.Piston d sticky out
      → w move.at ≡ cell.Piston d sticky out
  unfolding next_of
  piston_stays d sticky out is =
      parts_become_next m move.at filled
      ∙ ap (next_of (cell_on m) (dust_level (cell_on m)) move.at) is

  own : slice_get move.cells 0 ≡ Some move.at
  own = ap (λ ps. slice_get ps 0) (begins m (dust_level (cell_on m)) move.at move asks).2

  puts_pushed : move.push ≡ true → moved_cells w move ≡ pushed w move.at move.cells
  puts_pushed is = ap (λ b. if b then pushed w move.at move.cells else drawn w move.at move.cells) is

  puts_drawn : move.push ≡ false → moved_cells w move ≡ drawn w move.at move.cells
  puts_drawn is = ap (λ b. if b then pushed w move.at move.cells else drawn w move.at move.cells) is

  has_pushed : Pusher m move.at move → HasPushed m next move
  has_pushed by =
      let row = pushes m (dust_level (cell_on m)) move.at move asks by.push in
      let second = first_of row.pushed row.last in
      let at_second : slice_get move.cells 1 ≡ Some second.0 =
      ap (λ ps. slice_get ps 1) row.cells ∙ second.1 in
      let was = piston_stays move.facing by.sticky false by.piston in
      let puts = puts_pushed by.push in
      record {
        sticky = by.sticky;
        was = by.piston;
        piston =
            stands 0 move.at _ own
            (ap (λ cs. slice_get cs 0) puts ∙ ap (λ c. Some (piston_as true c)) was);
        head =
            ap (cell_on next) (sym (in_line m (dust_level (cell_on m)) move.at move asks 1 second.0 at_second))
            ∙ stands 1 second.0 _ at_second
            (ap (λ cs. slice_get cs 1) puts ∙ ap (λ c. Some (head_of c)) was);
        pushed = λ near far at.
            stands (suc (suc at.0)) far _ at.2
            (ap (λ cs. slice_get cs (suc (suc at.0))) puts ∙ pushed_on w move.at move.cells at.0 near at.1)
            ∙ parts_become_next m near filled;
      }

  draws : Drawer m move.at move → move.push ≡ false
  unfolding drawing
  draws by = ap (λ x. x.push) by.is

  has_drawn : Drawer m move.at move → HasDrawn m next move
  has_drawn by =
      let was = piston_stays move.facing by.sticky true by.piston in
      let puts = puts_drawn (draws by) in
      record {
        sticky = by.sticky;
        was = by.piston;
        piston =
            stands 0 move.at _ own
            (ap (λ cs. slice_get cs 0) puts ∙ ap (λ c. Some (piston_as false c)) was);
        pulled = λ near far at.
            stands (suc at.0) near _ at.1
            (ap (λ cs. slice_get cs (suc at.0)) puts ∙ drawn_on w move.at move.cells at.0 far at.2)
            ∙ parts_become_next m far filled;
        air = λ last at.
            stands (suc at.0) last _ at.1
            (ap (λ cs. slice_get cs (suc at.0)) puts ∙ drawn_end w move.at move.cells at.0 (sym at.2));
      }

pub pushes_push : OfTicks PushesPush
pushes_push rs m next fates tick filled move made push =
    elim (mover m (dust_level (cell_on m)) move.at move (asks rs m next fates tick filled move made)) [
      | inl by ↦ has_pushed rs m next fates tick filled move made by
      | inr by ↦
          absurd (false≢true (sym (draws rs m next fates tick filled move made by) ∙ push))
    ]

pub draws_draw : OfTicks DrawsDraw
draws_draw rs m next fates tick filled move made draw =
    elim (mover m (dust_level (cell_on m)) move.at move (asks rs m next fates tick filled move made)) [
      | inl by ↦ absurd (false≢true (sym draw ∙ by.push))
      | inr by ↦ has_drawn rs m next fates tick filled move made by
    ]
