-- A tick of a map on which everything rests does nothing.
use Rattle.std.proofs.Common.{◌≡◌, ℕ, zero, suc, false, List, [], ◌∷◌, ◌++◌, length, Some, refl, sym, ap, ◌∙◌, subst, arith}
use Rattle.std.specs.List.{filter}
use Rattle.std.proofs.lemmas.Bool.{true≢false}
use Rattle.std.proofs.lemmas.List.Sorted.{IsPermutation-refl}
use Rattle.vx_geom.specs.declared.pos.Pos.{Pos}
use Rattle.vx_geom.specs.Places.{positions}
use Rattle.vx_geom.specs.Sizes.{sector_count}
use Rattle.vx_cells.specs.MapLaws.{IsFilled}
use Rattle.vx_cells.specs.Maps.{MapData, cell_on}
use Rattle.vx_power.specs.Laws.{dust_level}
use Rattle.vx_part.specs.Changes.{changes}
use Rattle.vx_part.proofs.Changing.{kept_change}
use Rattle.vx_piston.proofs.Restless.{others_stay}
use Rattle.vx_region.specs.Regions.{Regions}
use Rattle.vx_tick.specs.declared.planned.Plan.{Plan}
use Rattle.vx_tick.specs.Leaving.{IsPlanned, IsWorked}
use Rattle.vx_tick.specs.Ticks.{asked, asked_up_to, changed_up_to, stepped, AreMoves}
use Rattle.vx_tick.proofs.Asking.{kept_ask}
use Rattle.vx_tick.proofs.Plans.{all_puts, is_worked, no_chests}
use Rattle.vx_still.specs.declared.kept_dust.KeptDust.{KeptDust}
use Rattle.vx_still.specs.Mirrored.{IsMirror}
use Rattle.vx_still.specs.Stillness.{IsStill}
use Rattle.vx_still.specs.Waking.{nowhere, with_rebuilt, Rests, WakingData}
use Rattle.vx_still.specs.Watching.{IsWatch, WatchData}
use Rattle.vx_still.specs.Unheeded.{IsKept}
use Rattle.vx_still.proofs.Watching.{all_rests, ticks_leave_watch}

none_kept : (ps : List Pos) → filter (λ p. false) ps ≡ []
none_kept [] = refl
none_kept (p ∷ ps) = none_kept ps

module _ (m : MapData) (rests : (p : Pos) → Rests m p) where
  nothing_changes : (ps : List Pos) → changes (cell_on m) (dust_level (cell_on m)) ps ≡ []
  nothing_changes ps =
      sym (kept_change (cell_on m) (dust_level (cell_on m)) (λ p. false) (λ p _. (rests p).part) ps)
      ∙ ap (changes (cell_on m) (dust_level (cell_on m))) (none_kept ps)

  nothing_asked : (ps : List Pos) → asked m (dust_level (cell_on m)) ps ≡ []
  nothing_asked ps =
      sym (kept_ask m (dust_level (cell_on m)) (λ p. false)
      (λ p _. others_stay m (dust_level (cell_on m)) p (rests p).piston) ps)
      ∙ ap (asked m (dust_level (cell_on m))) (none_kept ps)

  nothing_changed : (n : ℕ) → changed_up_to m n ≡ []
  nothing_changed zero = refl
  nothing_changed (suc n) = λ i. nothing_changed n i ++ nothing_changes (positions m.sizes n) i

  nothing_asked_for : (n : ℕ) → asked_up_to m n ≡ []
  nothing_asked_for zero = refl
  nothing_asked_for (suc n) = λ i. nothing_asked_for n i ++ nothing_asked (positions m.sizes n) i

  no_moves : AreMoves m []
  no_moves = record {
    all = rw (nothing_asked_for (sector_count m.sizes)) (IsPermutation-refl []);
    ordered = λ k d least within. absurd (omega arith);
  }

  -- so nothing is worked
  pub nothing_worked : (rs : Regions) → IsFilled m → IsWorked rs m [] [] []
  nothing_worked rs filled =
      is_worked m (dust_level (cell_on m)) rs [] [] [] [] filled (λ p. refl) no_moves tt
      (sym (nothing_changed (sector_count m.sizes))) refl

  -- and the map is the same after the tick
  pub nothing_stepped : (rs : Regions) → IsFilled m → stepped rs m ≡ m
  nothing_stepped rs filled = all_puts rs m [] [] [] [] (nothing_worked rs filled) refl

none_listed : (ps : List Pos) → length ps ≡ 0 → ps ≡ []
none_listed [] none = refl
none_listed (p ∷ ps) none = absurd (omega (arith, none))

-- where nothing is told and nothing was written, the table is kept as it is
pub unwritten : (m : MapData) (waking : WakingData) (written : List Pos) (kept : KeptDust)
    → waking ≡ nowhere → length written ≡ 0
    → IsStill m (with_rebuilt waking written) → IsMirror m (with_rebuilt waking written).rebuilt kept
    → IsWatch m (record { waking = nowhere; dust = Some kept })
unwritten m waking written kept none empty still mirror =
    record {
      still = subst (IsStill m) (λ i. with_rebuilt (none i) (none_listed written empty i)) still;
      mirror =
          subst (λ (w : WakingData). IsMirror m w.rebuilt kept) (λ i. with_rebuilt (none i) (none_listed written empty i)) mirror;
    }

-- where all rests a tick leaves the map as it is, and so nothing is told, and levels and links that
-- are those of the map are kept
pub at_rest : (m : MapData) (kept : KeptDust) → ((p : Pos) → Rests m p) → IsKept m kept
    → IsWatch m (record { waking = nowhere; dust = Some kept })
at_rest m kept rests right =
    ticks_leave_watch m m (record { waking = nowhere; dust = Some kept }) (record {
      builds = λ p unbuilt. refl;
      parts = λ p unbuilt. sym (rests p).part;
      shows = λ p unbuilt unturned. refl;
      others = λ p unbuilt unturned plain other. refl;
      pistons = λ p moves. absurd (true≢false (sym moves ∙ (rests p).piston));
    }) right

-- so a plan of nothing, after which it is still kept, tells the tick
pub nothing_planned : (m : MapData) (kept : KeptDust)
    → IsWatch m (record { waking = nowhere; dust = Some kept }) → (rs : Regions) → IsFilled m
    → (done : Plan × WatchData) → done.0.puts.items ≡ [] → done.0.fates.items ≡ []
    → done.1 ≡ record { waking = nowhere; dust = Some kept } → IsPlanned rs m done
nothing_planned m kept is rs filled done puts fates same =
    let rests = all_rests m kept is in
    record {
      puts = all_puts rs m [] [] done.0.puts.items [] (nothing_worked m rests rs filled) puts;
      fates = fates ∙ (nothing_worked m rests rs filled).told;
      chests = no_chests rs m [] [] done.0.puts.items [] (nothing_worked m rests rs filled) puts;
      watch =
          subst (IsWatch (stepped rs m)) (sym same)
          (subst (λ n. IsWatch n (record { waking = nowhere; dust = Some kept }))
          (sym (nothing_stepped m rests rs filled)) is);
    }
