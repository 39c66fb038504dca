-- What holds of each tick of a run.
use Rattle.std.proofs.Common.{◌≡◌, ℕ, ◌+◌, List, [], ◌∷◌, ◌++◌, length, Some, refl, sym, ap, ◌∙◌, subst, inl, inr, arith}
use Rattle.vx_geom.specs.declared.pos.Pos.{Pos}
use Rattle.vx_cells.specs.MapLaws.{IsFilled}
use Rattle.vx_cells.specs.Maps.{MapData}
use Rattle.vx_cells.specs.SectorCells.{SectorCells}
use Rattle.vx_region.specs.Regions.{Regions}
use Rattle.vx_decide.specs.declared.rule.Rule.{Rule}
use Rattle.vx_power.specs.Walks.{IsAmong}
use Rattle.vx_piston.specs.Moves.{Moving}
use Rattle.vx_cause.specs.Judging.{denial}
use Rattle.vx_cause.specs.Laws.{IsFirstDenied}
use Rattle.vx_cause.proofs.Plots.{of_first, is_denial}
use Rattle.vx_sector.specs.Acting.{rules_answer, cells_by}
use Rattle.vx_sector.specs.SectorData.{EntryData}
use Rattle.vx_sector.specs.Windows.{IsWindow}
use Rattle.vx_sector.proofs.ActingLemmas.{denied_by_the_policy}
use Rattle.vx_tick.specs.declared.fate.Fate.{Fate}
use Rattle.vx_tick.specs.declared.fate.Fate.TheVariants.{Moved, Denied, Beaten}
use Rattle.vx_tick.specs.Fates.{IsFate, AreFates}
use Rattle.vx_tick.specs.Ticks.{fates_on, stepped, IsTick}
use Rattle.vx_tick.proofs.Making.{moves_are_asked, asked_are_moves, stays_filled}
use Rattle.vx_tick.proofs.OneTick.{stepped_is_tick}
use Rattle.vx_record.specs.Chronicles.{TickData, ChronicleData, AreWindows, map_acted, map_ticked, map_after, IsTickOn, AreTicks}
use Rattle.vx_record.specs.Owners.{IsTickOf, map_before, IsRecorded, IsDeniedBy, IsMoveDeniedBy, ChangesByLeave, ChangesHaveLeave, CommandsDeniedByThePolicy, MovesDeniedByThePolicy}
use Rattle.vx_record.proofs.Mapped.{acted_filled, commands_have_leave, acted_step_by_step}
use Rattle.vx_record.proofs.Stepped.{stepped_stands}

-- the map stays filled, and the tick is one on it
module _ (names : List (List ℕ)) where
  ticked_filled : (m : MapData) (n : ℕ) (tick : TickData) → IsFilled m → IsTickOn names m n tick → IsFilled (map_ticked m tick)
  ticked_filled m n tick filled is =
      let rs = tick.version.policy in
      let acted = map_acted m tick in
      (stays_filled rs acted (stepped rs acted) (fates_on rs acted) (stepped_is_tick rs acted)
      (acted_filled names rs m tick filled is.windows)).0

  pub all_filled : (m : MapData) (n : ℕ) (ticks : List TickData) → IsFilled m → AreTicks names m n ticks → IsFilled (map_after m ticks)
  all_filled m n [] filled are = filled
  all_filled m n (tick ∷ ticks) filled are = all_filled (map_ticked m tick) (n + 1) ticks (ticked_filled m n tick filled are.0) are.1

  pub reaches : (m : MapData) (n : ℕ) (before : List TickData) (tick : TickData) (later : List TickData) → IsFilled m
      → AreTicks names m n (before ++ tick ∷ later)
      → IsFilled (map_after m before) × IsTickOn names (map_after m before) (n + length before) tick
  reaches m n [] tick later filled are = (filled, subst (λ k. IsTickOn names m k tick) (omega arith) are.0)
  reaches m n (t ∷ before) tick later filled are =
      let rest = reaches (map_ticked m t) (n + 1) before tick later (ticked_filled m n t filled are.0) are.1 in
      (rest.0, subst (λ k. IsTickOn names (map_after (map_ticked m t) before) k tick) (omega arith) rest.1)

-- an entry of windows is answered by the rules, on cells of its sector
module _ (names : List (List ℕ)) (rs : Regions) where
  answered_in : (cells : SectorCells) (window : List EntryData) (e : EntryData) → IsWindow rs cells window → IsAmong window e
      → (on : SectorCells) × (e.answer ≡ rules_answer rs on e.seat e.cmd)
  answered_in cells [] e w among = absurd among
  answered_in cells (d ∷ window) e w (inl same) =
      (cells, subst (λ (x : EntryData). x.answer ≡ rules_answer rs cells x.seat x.cmd) same w.1)
  answered_in cells (d ∷ window) e w (inr further) =
      answered_in (cells_by cells d.cmd d.answer) window e w.2 further

  window_of : (cs : List SectorCells) (windows : List (List EntryData)) (window : List EntryData)
      → AreWindows names rs cs windows → IsAmong windows window → (cells : SectorCells) × IsWindow rs cells window
  window_of [] [] window are among = absurd among
  window_of [] (w ∷ windows) window are among = absurd are
  window_of (d ∷ cs) [] window are among = absurd are
  window_of (d ∷ cs) (w ∷ windows) window are (inl same) = (d, subst (IsWindow rs d) same are.0)
  window_of (d ∷ cs) (w ∷ windows) window are (inr further) = window_of cs windows window are.2 further

  answered : (cs : List SectorCells) (windows : List (List EntryData)) (window : List EntryData) (e : EntryData) → AreWindows names rs cs windows
      → IsAmong windows window → IsAmong window e → (on : SectorCells) × (e.answer ≡ rules_answer rs on e.seat e.cmd)
  answered cs windows window e are there among =
      let w = window_of cs windows window are there in answered_in w.0 window e w.1 among

-- a command on record in windows over a map is denied by a rule exactly where the policy that judges them says so
pub window_commands_denied : (names : List (List ℕ)) (m : MapData) (tick : TickData) (entry : EntryData) (rule : Rule)
    → AreWindows names tick.version.policy m.sectors tick.windows → IsRecorded tick entry → IsDeniedBy tick.version.policy entry rule
window_commands_denied names m tick entry rule are recorded =
    let by = answered names tick.version.policy m.sectors tick.windows recorded.window entry are recorded.there recorded.among in
    rw by.1 (denied_by_the_policy tick.version.policy by.0 entry.seat entry.cmd rule)

module _ (c : ChronicleData) (before : List TickData) (tick : TickData) (is : IsTickOf c before tick) where
  abbrev names : List (List ℕ)
  names = c.opening.names

  abbrev m : MapData
  m = map_before c before

  abbrev rs : Regions
  rs = tick.version.policy

  at : IsFilled m × IsTickOn names m (1 + length before) tick
  at =
      reaches names c.opening.terrain 1 before tick is.later is.filled
      (subst (AreTicks names c.opening.terrain 1) is.all is.run.ticks)

  abbrev acted : MapData
  acted = map_acted m tick

  filled : IsFilled acted
  filled = acted_filled names rs m tick at.0 at.1.windows

  step : IsTick rs acted (stepped rs acted) (fates_on rs acted)
  step = stepped_is_tick rs acted

  changes : (p : Pos) → ChangesByLeave names m tick p
  changes p = (
    commands_have_leave names m tick at.0 at.1.windows p,
    acted_step_by_step names m tick at.0 at.1.windows p,
    elim (stepped_stands rs acted filled p) [
      | inl same ↦ inl same
      | inr taken ↦ inr (record {
        move = taken.move;
        asked = taken.asked;
        told = subst (λ fates. IsAmong fates (taken.move.at, Moved)) (sym at.1.fates) taken.told;
        taken = taken.taken;
        permitted = taken.permitted;
      })
    ],
  )

  -- a fate that is told is that of a move
  of_move : (all moves : List Moving) (fates : List (Pos × Fate)) (q : Pos) (fate : Fate) → AreFates rs all moves fates
      → IsAmong fates (q, fate) → (move : Moving) × IsAmong moves move × (move.at ≡ q) × IsFate rs all move fate
  of_move all [] [] q fate are among = absurd among
  of_move all [] (told ∷ fates) q fate are among = absurd are
  of_move all (move ∷ moves) [] q fate are among = absurd are
  of_move all (move ∷ moves) (told ∷ fates) q fate are (inl same) =
      (move, inl refl, sym are.0 ∙ ap (λ f. f.0) same, subst (λ (f : Pos × Fate). IsFate rs all move f.1) same are.1)
  of_move all (move ∷ moves) (told ∷ fates) q fate are (inr further) =
      let rest = of_move all moves fates q fate are.2 further in
      (rest.0, inr rest.1, rest.2, rest.3)

  -- and each move's is told
  told_of : (all moves : List Moving) (fates : List (Pos × Fate)) (move : Moving) → AreFates rs all moves fates
      → IsAmong moves move → (fate : Fate) × IsAmong fates (move.at, fate) × IsFate rs all move fate
  told_of all [] fates move are among = absurd among
  told_of all (n ∷ moves) [] move are among = absurd are
  told_of all (n ∷ moves) (told ∷ fates) move are (inl same) =
      (told.1, inl (ap (λ r. (r, told.1)) (are.0 ∙ ap (λ (x : Moving). x.at) same)), subst (λ x. IsFate rs all x told.1) same are.1)
  told_of all (n ∷ moves) (told ∷ fates) move are (inr further) =
      let rest = told_of all moves fates move are.2 further in
      (rest.0, inr rest.1, rest.2)

  denied_fate : (move : Moving) (p : Pos) (rule : Rule) (fate : Fate) → denial rs move ≡ Some (p, rule)
      → IsFate rs step.moves move fate → fate ≡ Denied p rule
  denied_fate move p rule Moved denied is = let both = sym is.0 ∙ denied in cc
  denied_fate move p rule (Beaten q) denied is = let both = sym is.0 ∙ denied in cc
  denied_fate move p rule (Denied q by) denied is =
      let both : Some (q, by) ≡ Some (p, rule) = sym is ∙ denied in
      let same : (q, by) ≡ (p, rule) = cc in
      ap (λ (d : Pos × Rule). Denied d.0 d.1) same

  moves_denied : (q p : Pos) (rule : Rule) → IsMoveDeniedBy m tick q p rule
  moves_denied q p rule = (
    λ told.
        let by = of_move step.moves step.moves (fates_on rs acted) q (Denied p rule) step.told
        (subst (λ fates. IsAmong fates (q, Denied p rule)) at.1.fates told) in (
          by.0,
          by.2,
          moves_are_asked rs acted (stepped rs acted) (fates_on rs acted) step filled by.0 by.1,
          subst (λ r. IsFirstDenied rs r by.0.cells p rule) by.2 (of_first rs by.0 p rule by.3),
        ),
    λ asked.
        let move = asked.0 in
        let denied = is_denial rs move p rule (subst (λ r. IsFirstDenied rs r move.cells p rule) (sym asked.1) asked.3) in
        let by = told_of step.moves step.moves (fates_on rs acted) move step.told
        (asked_are_moves rs acted (stepped rs acted) (fates_on rs acted) step filled move asked.2) in
        subst (λ fates. IsAmong fates (q, Denied p rule)) (sym at.1.fates)
        (subst (λ (f : Pos × Fate). IsAmong (fates_on rs acted) f) (λ i. (asked.1 i, denied_fate move p rule by.0 denied by.2 i)) by.1),
  )

pub changes_have_leave : ChangesHaveLeave
changes_have_leave c before tick p is = changes c before tick is p

pub commands_denied_by_the_policy : CommandsDeniedByThePolicy
commands_denied_by_the_policy c before tick entry rule is recorded =
    window_commands_denied c.opening.names (map_before c before) tick entry rule (at c before tick is).1.windows recorded

pub moves_denied_by_the_policy : MovesDeniedByThePolicy
moves_denied_by_the_policy c before tick q p rule is = moves_denied c before tick is q p rule
