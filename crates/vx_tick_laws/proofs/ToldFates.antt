-- What is told of each piston is what becomes of the move that it asks for.
use Rattle.std.proofs.Common.{◌≡◌, Bool, true, false, cond, inl, inr, List, [], ◌∷◌, Option, Some, None, refl, sym, ap, ◌∙◌, subst}
use Rattle.std.specs.List.{filter}
use Rattle.std.specs.Option.{is_none}
use Rattle.std.proofs.lemmas.Bool.{cases_Bool, and_parts, and_from, false≢true}
use Rattle.vx_geom.specs.declared.pos.Pos.{Pos}
use Rattle.vx_geom.specs.Order.{comes_before}
use Rattle.vx_cells.specs.MapLaws.{IsFilled}
use Rattle.vx_cells.specs.Maps.{MapData}
use Rattle.vx_power.specs.Levels.{has}
use Rattle.vx_power.specs.Walks.{IsAmong}
use Rattle.vx_power.proofs.Having.{among_filter, has_at, has_from}
use Rattle.vx_power.proofs.Reach.{any_at, any_from}
use Rattle.vx_piston.specs.Claims.{shares, beats, beaten_by}
use Rattle.vx_piston.specs.Moves.{Moving}
use Rattle.vx_piston.proofs.Rivals.{beaten_by_no_other}
use Rattle.vx_region.specs.Regions.{Regions}
use Rattle.vx_cause.specs.Judging.{denial}
use Rattle.vx_cause.specs.Laws.{permitted}
use Rattle.vx_cause.proofs.Plots.{of_first, is_denial, cell_by_cell}
use Rattle.vx_tick.specs.declared.fate.Fate.{Fate}
use Rattle.vx_tick.specs.declared.fate.Fate.TheVariants.{Moved, Denied, Beaten}
use Rattle.vx_tick.specs.Fates.{IsFate, AreFates, fate_by, fate_of}
use Rattle.vx_tick.specs.Laws.{OfTicks}
use Rattle.vx_tick.specs.Ticks.{IsTick}
use Rattle.vx_tick_laws.specs.ToldFates.{IsRival, Ends, ToldAreEnds, EndsAreTold}
use Rattle.vx_tick.proofs.Making.{moves_are_asked, asked_are_moves}

-- what is kept of a list passes the test, and is in the list
from_filter : {X : Type 0} (test : X → Bool) (xs : List X) (x : X) → IsAmong (filter test xs) x
    → IsAmong xs x × (test x ≡ true)
from_filter test [] x among = absurd among
from_filter test (y ∷ ys) x among = by (test y) refl (from_filter test ys x) among
  where
    by : (b : Bool) → test y ≡ b → (IsAmong (filter test ys) x → IsAmong ys x × (test x ≡ true))
        → IsAmong (cond b (y ∷ filter test ys) (filter test ys)) x → IsAmong (y ∷ ys) x × (test x ≡ true)
    by true is rest (inl same) = (inl same, ap test (sym same) ∙ is)
    by true is rest (inr further) = let found = rest further in (inr found.0, found.1)
    by false is rest further = let found = rest further in (inr found.0, found.1)

none_at : {X : Type 0} (o : Option X) → is_none o ≡ true → o ≡ None
none_at None none = refl
none_at (Some x) none = cc

-- a move has one fate
module _ (rs : Regions) (all : List Moving) where
  one_fate : (m : Moving) (fate : Fate) → IsFate rs all m fate → fate ≡ fate_of rs all m
  one_fate m (Denied p rule) is = sym (ap (λ o. fate_by o (beaten_by (permitted rs all) m)) is)
  one_fate m (Beaten q) is =
      ap (fate_by None) (beaten_by_no_other (permitted rs all) m (Some q) is.1)
      ∙ sym (ap (λ o. fate_by o (beaten_by (permitted rs all) m)) is.0)
  one_fate m Moved is =
      ap (fate_by None) (beaten_by_no_other (permitted rs all) m None is.1)
      ∙ sym (ap (λ o. fate_by o (beaten_by (permitted rs all) m)) is.0)

-- of these moves one has a fate, and stands in the list of what is told
module _ (rs : Regions) (all : List Moving) where
  told_at : (moves : List Moving) (fates : List (Pos × Fate)) → AreFates rs all moves fates
      → (q : Pos) (fate : Fate) → IsAmong fates (q, fate)
      → (move : Moving) × IsAmong moves move × (move.at ≡ q) × IsFate rs all move fate
  told_at [] [] told q fate among = absurd among
  told_at [] (one ∷ fates) told q fate among = absurd told
  told_at (m ∷ moves) [] told q fate among = absurd among
  told_at (m ∷ moves) (one ∷ fates) told q fate (inl same) = (
    m,
    inl refl,
    sym told.0 ∙ ap (λ x. x.0) same,
    subst (λ x. IsFate rs all m x.1) same told.1,
  )
  told_at (m ∷ moves) (one ∷ fates) told q fate (inr further) =
      let found = told_at moves fates told.2 q fate further in
      (found.0, inr found.1, found.2, found.3)

  told_from : (moves : List Moving) (fates : List (Pos × Fate)) → AreFates rs all moves fates
      → (move : Moving) → IsAmong moves move
      → (fate : Fate) × IsAmong fates (move.at, fate) × IsFate rs all move fate
  told_from [] fates told move among = absurd among
  told_from (m ∷ moves) [] told move among = absurd told
  told_from (m ∷ moves) (one ∷ fates) told move (inl same) =
      let place = told.0 ∙ ap (λ x. x.at) same in (
        one.1,
        inl (λ i. (place i, one.1)),
        subst (λ x. IsFate rs all x one.1) same told.1,
      )
  told_from (m ∷ moves) (one ∷ fates) told move (inr further) =
      let found = told_from moves fates told.2 move further in
      (found.0, inr found.1, found.2)

module _ (rs : Regions) (m next : MapData) (fates : List (Pos × Fate)) (tick : IsTick rs m next fates)
    (filled : IsFilled m) where
  abbrev claims : List Moving
  claims = permitted rs tick.moves

  module _ (claim move : Moving) where
    shared : shares claim move ≡ true → (p : Pos) × IsAmong move.cells p × (has claim.cells p ≡ true)
    unfolding shares
    shared is = any_at (has claim.cells) move.cells is

    are_shared : (p : Pos) → IsAmong claim.cells p → IsAmong move.cells p → shares claim move ≡ true
    unfolding shares
    are_shared p taken wanted = any_from (has claim.cells) move.cells p wanted (has_from claim.cells p taken)

    rival_at : IsAmong claims claim → beats claim move ≡ true → IsRival rs m claim move
    unfolding beats
    rival_at among is =
        let found = from_filter (λ x. is_none (denial rs x)) tick.moves claim among in
        let parts = and_parts (comes_before claim.at move.at) (shares claim move) is in
        let cell = shared parts.1 in
        record {
          asked = moves_are_asked rs m next fates tick filled claim found.0;
          leave = (cell_by_cell rs claim).0 (none_at _ found.1);
          before = parts.0;
          cell = cell.0;
          taken = has_at claim.cells cell.0 cell.2;
          wanted = cell.1;
        }

    rival_from : IsRival rs m claim move → IsAmong claims claim × (beats claim move ≡ true)
    unfolding beats
    rival_from rival = (
      among_filter (λ x. is_none (denial rs x)) tick.moves claim
          (asked_are_moves rs m next fates tick filled claim rival.asked)
          (ap (λ o. is_none o) ((cell_by_cell rs claim).1 rival.leave)),
      and_from (comes_before claim.at move.at) (shares claim move) rival.before
          (are_shared rival.cell rival.taken rival.wanted),
    )

    no_rival : (IsRival rs m claim move → ⊥) → IsAmong claims claim → beats claim move ≡ false
    no_rival none among = elim (cases_Bool (beats claim move)) [
      | inl is ↦ absurd (none (rival_at among is))
      | inr is ↦ is
    ]

  end_at : (move : Moving) (fate : Fate) → IsFate rs tick.moves move fate → Ends rs m move fate
  end_at move (Denied p rule) is = of_first rs move p rule is
  end_at move (Beaten q) is = (
    (cell_by_cell rs move).0 is.0,
    record {
      claim = is.1.0.0;
      rival = rival_at is.1.0.0 move is.1.0.1 is.1.0.2;
      at = is.1.0.3;
      first = λ other rival. let is_one = rival_from other move rival in is.1.1 other is_one.0 is_one.1;
    },
  )
  end_at move Moved is = (
    (cell_by_cell rs move).0 is.0,
    λ claim rival. let is_one = rival_from claim move rival in
        false≢true (sym (is.1 claim is_one.0) ∙ is_one.1),
  )

  end_from : (move : Moving) (fate : Fate) → Ends rs m move fate → IsFate rs tick.moves move fate
  end_from move (Denied p rule) ends = is_denial rs move p rule ends
  end_from move (Beaten q) ends =
      let first = ends.1 in
      let is_one = rival_from first.claim move first.rival in (
        (cell_by_cell rs move).1 ends.0,
        ((first.claim, is_one.0, is_one.1, first.at), λ claim among is. first.first claim (rival_at claim move among is)),
      )
  end_from move Moved ends =
      ((cell_by_cell rs move).1 ends.0, λ claim among. no_rival claim move (ends.1 claim) among)

pub told_are_ends : OfTicks ToldAreEnds
told_are_ends rs m next fates tick filled q fate among =
    let found = told_at rs tick.moves tick.moves fates tick.told q fate among in (
      found.0,
      found.2,
      moves_are_asked rs m next fates tick filled found.0 found.1,
      end_at rs m next fates tick filled found.0 fate found.3,
    )

pub ends_are_told : OfTicks EndsAreTold
ends_are_told rs m next fates tick filled move fate asked ends =
    let found =
    told_from rs tick.moves tick.moves fates tick.told move
    (asked_are_moves rs m next fates tick filled move asked) in
    let same : found.0 ≡ fate =
    one_fate rs tick.moves move found.0 found.2
    ∙ sym (one_fate rs tick.moves move fate (end_from rs m next fates tick filled move fate ends)) in
    subst (λ x. IsAmong fates (move.at, x)) same found.1
