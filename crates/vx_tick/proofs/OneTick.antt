-- A map has one tick under a policy: that of the definition by a function.
use Rattle.std.proofs.Common.{◌≡◌, ℕ, zero, suc, List, [], ◌∷◌, ◌++◌, Option, Some, None, refl, sym, ap, ap₂, ◌∙◌}
use Rattle.std.specs.List.{AllByRecursion}
use Rattle.vx_geom.specs.declared.pos.Pos.{Pos}
use Rattle.vx_geom.specs.Places.{positions}
use Rattle.vx_geom.specs.Sizes.{sector_count}
use Rattle.vx_cells.specs.Maps.{MapData, cell_on}
use Rattle.vx_cells.specs.Wholes.{with_cells_on}
use Rattle.vx_decide.specs.declared.rule.Rule.{Rule}
use Rattle.vx_power.specs.Laws.{dust_level}
use Rattle.vx_region.specs.Regions.{Regions}
use Rattle.vx_piston.specs.Claims.{IsBeatenBy, beaten_by}
use Rattle.vx_piston.specs.Moves.{Moving, candidate}
use Rattle.vx_piston.proofs.MoveLaws.{begins}
use Rattle.vx_piston.proofs.Rivals.{beaten_by_one, beaten_by_no_other}
use Rattle.vx_cause.specs.Judging.{denial}
use Rattle.vx_cause.specs.Laws.{permitted}
use Rattle.vx_tick.specs.declared.fate.Fate.{Fate}
use Rattle.vx_tick.specs.declared.fate.Fate.TheVariants.{Moved, Denied, Beaten}
use Rattle.vx_tick.specs.Fates.{IsFate, AreFates, fate_by, fate_of, fates_of}
use Rattle.vx_tick.specs.Laws.{TickIsStepped, SteppedIsTick, StepsKeepMaps}
use Rattle.vx_tick.specs.Ticks.{asked_before, asked, asked_up_to, AreMoves, changed_up_to, advanced, put_down, moves_of, fates_on, stepped}
use Rattle.vx_tick.proofs.InOrder.{ordered_same, in_order, ordered_sorted, ordered_permutes}
use Rattle.vx_cells.proofs.Setting.{puts_whole}

module _ (m : MapData) where
  abbrev asks : Pos → Option Moving
  asks = candidate m (dust_level (cell_on m))

  -- what the piston at its position asks for
  abbrev IsAsked : Moving → Type 0
  IsAsked move = asks move.at ≡ Some move

  asked_alone : (a b : Moving) → IsAsked a → IsAsked b → a.at ≡ b.at → a ≡ b
  asked_alone a b of_a of_b same =
      let both : Some a ≡ Some b = sym of_a ∙ ap asks same ∙ of_b in
      cc

  all_before : (p : Pos) (o : Option Moving) (moves : List Moving) → asks p ≡ o
      → AllByRecursion IsAsked moves → AllByRecursion IsAsked (asked_before o moves)
  all_before p None moves is all = all
  all_before p (Some move) moves is all =
      let place = (begins m (dust_level (cell_on m)) p move is).0 in
      (ap asks place ∙ is, all)

  all_asked : (ps : List Pos) → AllByRecursion IsAsked (asked m (dust_level (cell_on m)) ps)
  all_asked [] = tt
  all_asked (p ∷ ps) = all_before p (asks p) (asked m (dust_level (cell_on m)) ps) refl (all_asked ps)

  all_append : (xs ys : List Moving) → AllByRecursion IsAsked xs → AllByRecursion IsAsked ys
      → AllByRecursion IsAsked (xs ++ ys)
  all_append [] ys of_xs of_ys = of_ys
  all_append (x ∷ xs) ys of_xs of_ys = (of_xs.0, all_append xs ys of_xs.1 of_ys)

  all_up_to : (n : ℕ) → AllByRecursion IsAsked (asked_up_to m n)
  all_up_to zero = tt
  all_up_to (suc n) =
      all_append (asked_up_to m n) (asked m (dust_level (cell_on m)) (positions m.sizes n))
      (all_up_to n) (all_asked (positions m.sizes n))

  -- the moves of a tick are one list
  one_list : (moves : List Moving) → AreMoves m moves → moves ≡ moves_of m
  one_list moves are =
      let all = asked_up_to m (sector_count m.sizes) in
      sym (in_order moves are.ordered)
      ∙ ordered_same IsAsked asked_alone all moves are.all (all_up_to (sector_count m.sizes))

  are_moves : AreMoves m (moves_of m)
  are_moves =
      let all = asked_up_to m (sector_count m.sizes) in
      record { all = ordered_permutes all; ordered = ordered_sorted all }

module _ (rs : Regions) (all : List Moving) where
  -- a move has one fate
  one_fate : (m : Moving) (fate : Fate) → IsFate rs all m fate → fate ≡ fate_of rs all m
  one_fate m (Denied p rule) is = sym (ap (λ o. fate_by o (beaten_by (permitted rs all) m)) is)
  one_fate m (Beaten q) is =
      ap (fate_by None) (beaten_by_no_other (permitted rs all) m (Some q) is.1)
      ∙ sym (ap (λ o. fate_by o (beaten_by (permitted rs all) m)) is.0)
  one_fate m Moved is =
      ap (fate_by None) (beaten_by_no_other (permitted rs all) m None is.1)
      ∙ sym (ap (λ o. fate_by o (beaten_by (permitted rs all) m)) is.0)

  fate_is : (m : Moving) (denied : Option (Pos × Rule)) (beaten : Option Pos) → denial rs m ≡ denied
      → IsBeatenBy (permitted rs all) m beaten → IsFate rs all m (fate_by denied beaten)
  fate_is m (Some denied) beaten is by = is
  fate_is m None (Some q) is by = (is, by)
  fate_is m None None is by = (is, by)

  one_fates : (moves : List Moving) (fates : List (Pos × Fate)) → AreFates rs all moves fates
      → fates ≡ fates_of rs all moves
  one_fates [] [] told = refl
  one_fates [] (other ∷ fates) told = absurd told
  one_fates (m ∷ moves) [] told = absurd told
  one_fates (m ∷ moves) (other ∷ fates) told =
      ap₂ (λ one rest. one ∷ rest)
      (ap₂ (λ p fate. (p, fate)) told.0 (one_fate m other.1 told.1)) (one_fates moves fates told.2)

  are_fates : (moves : List Moving) → AreFates rs all moves (fates_of rs all moves)
  are_fates [] = tt
  are_fates (m ∷ moves) = (
    refl,
    fate_is m (denial rs m) (beaten_by (permitted rs all) m) refl (beaten_by_one (permitted rs all) m),
    are_fates moves,
  )

pub tick_is_stepped : TickIsStepped
unfolding fates_on stepped
tick_is_stepped rs m next fates tick =
    let moves = one_list m tick.moves tick.asked in
    let told = one_fates rs tick.moves tick.moves fates tick.told ∙ ap (λ ms. fates_of rs ms ms) moves in (
      tick.after
          ∙ ap₂ (λ ms fs. with_cells_on (advanced m) (put_down (cell_on (advanced m)) ms fs)) moves told,
      told,
    )

pub stepped_is_tick : SteppedIsTick
unfolding fates_on stepped
stepped_is_tick rs m = record {
  moves = moves_of m;
  asked = are_moves m;
  told = are_fates rs (moves_of m) (moves_of m);
  after = refl;
}

pub steps_keep_maps : StepsKeepMaps
unfolding stepped
steps_keep_maps rs m whole =
    let parts = puts_whole m (changed_up_to m (sector_count m.sizes)) whole in
    let moves =
    puts_whole (advanced m)
    (put_down (cell_on (advanced m)) (moves_of m) (fates_of rs (moves_of m) (moves_of m))) parts.0 in
    (moves.0, moves.1 ∙ parts.1)
