-- What holds in every game, one step after another.
use Rattle.std.proofs.Common.{◌≡◌, ◌≢◌, ◌↔◌, Err, ℕ, ◌+◌, List, [], ◌∷◌, ◌++◌, length, map, slice_get, Option, Some, None, Result, refl, sym, ap, ◌∙◌, subst, inl, inr, arith, append_assoc, append-nil, lit≤}
use Rattle.std.specs.List.{All}
use Rattle.std.proofs.lemmas.Bool.{cases_Bool}
use Rattle.std.proofs.lemmas.List.Elements.{All-map, All-set}
use Rattle.std.proofs.lemmas.Option.{get_or_from_slice_get}
use Rattle.std.proofs.Math.Seq.{map-set_same}
use Rattle.vx_cells.specs.SectorCells.{SectorCells, holds}
use Rattle.vx_flag.specs.declared.action.Action.{Action}
use Rattle.vx_decide.specs.declared.rule.Rule.{Rule}
use Rattle.vx_decide.specs.declared.verdict.Verdict.TheVariants.{Deny}
use Rattle.vx_region.specs.Regions.{Regions}
use Rattle.vx_policy.specs.Edits.{after}
use Rattle.vx_policy.specs.declared.version.Version.{Version}
use Rattle.vx_sector.specs.Acting.{judged}
use Rattle.vx_sector.specs.Commands.{place_of, action_of}
use Rattle.vx_sector.specs.SectorData.{SectorData, SeatData, EntryData}
use Rattle.vx_sector.specs.Windows.{IsSector, is_full, answer_of, is_recorded, recorded, sector_after, renewed}
use Rattle.vx_sector.specs.declared.cmd.Cmd.{Cmd}
use Rattle.vx_sector.specs.declared.reply.Reply.{Reply}
use Rattle.vx_sector.specs.declared.refusal.Refusal.{Refusal}
use Rattle.vx_sector.specs.declared.refusal.Refusal.TheVariants.{OutOfWorld, HistoryFull, Denied}
use Rattle.vx_sector.proofs.ActingLemmas.{denied_by_the_policy}
use Rattle.vx_sector.proofs.Outside.{elsewhere_is_refused, full_is_refused, answered_by_the_rules}
use Rattle.vx_sector.proofs.WindowLemmas.{command_keeps_sector}
use Rattle.vx_cells.specs.Maps.{MapData}
use Rattle.vx_play.specs.Plays.{PlayData, IsWorld, ticked, opened, sector_asked, answered, answered_at, answer_in, left_in, next_version, next_map}
use Rattle.vx_windows.specs.Sectors.{first_version, opened_with, renewed_over, base_of}
use Rattle.vx_play.specs.Games.{Step, Command, Accepted, Tick, after_step, played, game, edits_of, ticks_of, version_after, AreJudgedBy}
use Rattle.vx_play.specs.Laws.{GamesStayWhole, NoEditCountsBeforeATick, EditsCountFromTheNextTick, IsJudged, IsDeniedBy, DeniedByTheOpening, DeniedByTheLastTick, StepsAreCounted, RecordsAreWindows, FirstWindowsBeginWithTheTerrain, WindowsBeginWithTheTick}
use Rattle.vx_windows.proofs.Renewals.{all_bring, bases_renewed, renewed_version}
use Rattle.vx_windows.proofs.Sparing.{of_found, bases_begun}
use Rattle.vx_play.proofs.Whole.{as_many_cells, worlds_begin_whole, commands_keep_worlds, ticks_keep_worlds}

-- a part of a sector that no entry changes is as it was after a command
part_stays : {X : Type 0} (f : SectorData → X) → ((s : SectorData) (entry : EntryData) → f (recorded s entry) ≡ f s)
    → (s : SectorData) (seat : SeatData) (cmd : Cmd) (answer : Result Reply Refusal) → f (sector_after s seat cmd answer) ≡ f s
unfolding sector_after
part_stays f kept s seat cmd answer = elim (cases_Bool (is_recorded answer)) [ inl traced ↦ rw traced (kept s _) | inr none ↦ rw none refl ]

-- what a command of a seat keeps in its sector, it keeps in all
module _ (P : SectorData → Type 0) (seat : SeatData) (cmd : Cmd) (kept : (s : SectorData) → P s → P (sector_after s seat cmd (answer_of s seat cmd))) where
  pub command_keeps_all : (play : PlayData) → All P play.sectors → All P (answered play seat cmd).1
  unfolding answered
  command_keeps_all play all = by (sector_asked play cmd)
    where
      there : (k : ℕ) (s : Option SectorData) → slice_get play.sectors k ≡ s → All P (left_in play.sectors k seat cmd s)
      there k None found = all
      there k (Some s) found = All-set P play.sectors k _ (kept s (of_found P play.sectors k s all found)) all

      by : (k : Option ℕ) → All P (answered_at play.sectors seat cmd k).1
      by None = all
      by (Some k) = there k (slice_get play.sectors k) refl

-- what each command keeps
module _ (P : SectorData → Type 0) (kept : (s : SectorData) (seat : SeatData) (cmd : Cmd) → P s → P (sector_after s seat cmd (answer_of s seat cmd))) where
  -- it holds until the next tick
  until_the_next_tick : (play : PlayData) (steps : List Step) → ticks_of steps ≡ 0 → All P play.sectors → All P (played play steps).sectors
  until_the_next_tick play [] none all = all
  until_the_next_tick play (Command seat cmd ∷ steps) none all = until_the_next_tick (after_step play (Command seat cmd)) steps none (command_keeps_all P seat cmd (λ s. kept s seat cmd) play all)
  until_the_next_tick play (Accepted edit ∷ steps) none all = until_the_next_tick (after_step play (Accepted edit)) steps none all
  until_the_next_tick play (Tick ∷ steps) none all = cc

  -- and for ever, where ticks keep it too
  for_ever : ((version : Version) (s : SectorData) (cells : SectorCells) → P s → P (renewed_over version s cells)) → (play : PlayData) (steps : List Step) → All P play.sectors → All P (played play steps).sectors
  for_ever by_ticks play [] all = all
  for_ever by_ticks play (Command seat cmd ∷ steps) all = for_ever by_ticks (after_step play (Command seat cmd)) steps (command_keeps_all P seat cmd (λ s. kept s seat cmd) play all)
  for_ever by_ticks play (Accepted edit ∷ steps) all = for_ever by_ticks (after_step play (Accepted edit)) steps all
  for_ever by_ticks play (Tick ∷ steps) all =
      for_ever by_ticks (after_step play Tick) steps (all_bring (next_version play) P P (by_ticks (next_version play)) play.sectors (next_map play).sectors all)

-- a part of each sector that no entry changes is as it was until the next tick
module _ {X : Type 0} (f : SectorData → X) (kept : (s : SectorData) (entry : EntryData) → f (recorded s entry) ≡ f s) where
  pub command_leaves : (play : PlayData) (seat : SeatData) (cmd : Cmd) → map f (answered play seat cmd).1 ≡ map f play.sectors
  unfolding answered
  command_leaves play seat cmd = by (sector_asked play cmd)
    where
      there : (k : ℕ) (s : Option SectorData) → slice_get play.sectors k ≡ s → map f (left_in play.sectors k seat cmd s) ≡ map f play.sectors
      there k None found = refl
      there k (Some s) found = map-set_same f play.sectors k _ s (part_stays f kept s seat cmd _ ∙ ap f (sym (get_or_from_slice_get play.sectors k s s found)))

      by : (k : Option ℕ) → map f (answered_at play.sectors seat cmd k).1 ≡ map f play.sectors
      by None = refl
      by (Some k) = there k (slice_get play.sectors k) refl

  same_until_the_next_tick : (play : PlayData) (steps : List Step) → ticks_of steps ≡ 0 → map f (played play steps).sectors ≡ map f play.sectors
  same_until_the_next_tick play [] none = refl
  same_until_the_next_tick play (Command seat cmd ∷ steps) none = same_until_the_next_tick (after_step play (Command seat cmd)) steps none ∙ command_leaves play seat cmd
  same_until_the_next_tick play (Accepted edit ∷ steps) none = same_until_the_next_tick (after_step play (Accepted edit)) steps none
  same_until_the_next_tick play (Tick ∷ steps) none = cc

still_whole : (play : PlayData) (steps : List Step) → IsWorld play → IsWorld (played play steps)
still_whole play [] whole = whole
still_whole play (Command seat cmd ∷ steps) whole = still_whole (after_step play (Command seat cmd)) steps (commands_keep_worlds play seat cmd whole)
still_whole play (Accepted edit ∷ steps) whole = still_whole (after_step play (Accepted edit)) steps whole
still_whole play (Tick ∷ steps) whole = still_whole (after_step play Tick) steps (ticks_keep_worlds play whole)

pub games_stay_whole : GamesStayWhole
games_stay_whole rs terrain names steps whole = still_whole (opened rs terrain names) steps (worlds_begin_whole rs terrain names whole)

played_append : (play : PlayData) (before since : List Step) → played play (before ++ since) ≡ played (played play before) since
played_append play [] since = refl
played_append play (step ∷ before) since = played_append (after_step play step) before since

ticks_counted : (play : PlayData) (steps : List Step) → (played play steps).ticks ≡ play.ticks + ticks_of steps
ticks_counted play [] = omega arith
ticks_counted play (Command seat cmd ∷ steps) = ticks_counted (after_step play (Command seat cmd)) steps
ticks_counted play (Accepted edit ∷ steps) = ticks_counted (after_step play (Accepted edit)) steps
ticks_counted play (Tick ∷ steps) = omega (arith, ticks_counted (ticked play) steps)

edits_kept : (play : PlayData) (steps : List Step) → (played play steps).accepted ≡ play.accepted ++ edits_of steps
edits_kept play [] = sym (append-nil play.accepted)
edits_kept play (Command seat cmd ∷ steps) = edits_kept (after_step play (Command seat cmd)) steps
edits_kept play (Accepted edit ∷ steps) = edits_kept (after_step play (Accepted edit)) steps ∙ append_assoc play.accepted (edit ∷ []) (edits_of steps)
edits_kept play (Tick ∷ steps) = edits_kept (after_step play Tick) steps

first_kept : (play : PlayData) (steps : List Step) → (played play steps).first ≡ play.first
first_kept play [] = refl
first_kept play (Command seat cmd ∷ steps) = first_kept (after_step play (Command seat cmd)) steps
first_kept play (Accepted edit ∷ steps) = first_kept (after_step play (Accepted edit)) steps
first_kept play (Tick ∷ steps) = first_kept (after_step play Tick) steps

pub steps_are_counted : StepsAreCounted
steps_are_counted rs terrain names steps =
    let play = opened rs terrain names in
    let ticks : (played play steps).ticks ≡ ticks_of steps = omega (arith, ticks_counted play steps) in
    (ticks, edits_kept play steps)

-- the version that a tick fixes in a game
fixed_by_the_tick : (rs : Regions) (terrain : MapData) (names : List (List ℕ)) (before : List Step)
    → next_version (game rs terrain names before) ≡ version_after rs (edits_of before) (ticks_of before + 1)
fixed_by_the_tick rs terrain names before =
    let play = opened rs terrain names in
    let counted = steps_are_counted rs terrain names before in
    let tick : (game rs terrain names before).ticks + 2 ≡ ticks_of before + 1 + 1 = omega (arith, counted.0) in
    λ i. record { tick = tick i; edits = length (counted.1 i); policy = after (first_kept play before i) (counted.1 i) }

-- a command keeps the version of its sector
pub judged_as_before : (version : Version) (s : SectorData) (seat : SeatData) (cmd : Cmd) → s.version ≡ version → (sector_after s seat cmd (answer_of s seat cmd)).version ≡ version
judged_as_before version s seat cmd is = part_stays (λ (r : SectorData). r.version) (λ s entry. refl) s seat cmd _ ∙ is

-- until the next tick the machines are judged by one version
machines_kept : (play : PlayData) (steps : List Step) → ticks_of steps ≡ 0 → (played play steps).version ≡ play.version
machines_kept play [] none = refl
machines_kept play (Command seat cmd ∷ steps) none = machines_kept (after_step play (Command seat cmd)) steps none
machines_kept play (Accepted edit ∷ steps) none = machines_kept (after_step play (Accepted edit)) steps none
machines_kept play (Tick ∷ steps) none = cc

judged_on : (version : Version) (play : PlayData) (steps : List Step) → ticks_of steps ≡ 0
    → AreJudgedBy version play → AreJudgedBy version (played play steps)
judged_on version play steps none judged = record {
  commands = until_the_next_tick (λ s. s.version ≡ version) (judged_as_before version) play steps none judged.commands;
  machines = machines_kept play steps none ∙ judged.machines;
}

judged_after_the_tick : (play : PlayData) → AreJudgedBy (next_version play) (ticked play)
judged_after_the_tick play = record {
  commands =
      all_bring (next_version play) (λ s. Unit {0}) (λ s. s.version ≡ next_version play)
      (λ s cells known. renewed_version (next_version play) s cells) play.sectors (next_map play).sectors
      (λ k d within. tt);
  machines = refl;
}

pub no_edit_counts_before_a_tick : NoEditCountsBeforeATick
no_edit_counts_before_a_tick rs terrain names steps none =
    let first = version_after rs [] 0 in
    judged_on first (opened rs terrain names) steps none (record {
      commands = All-map (λ s. s.version ≡ first) (opened_with rs) terrain.sectors (λ k d within. refl);
      machines = refl;
    })

pub edits_count_from_the_next_tick : EditsCountFromTheNextTick
edits_count_from_the_next_tick rs terrain names before since none =
    let play = game rs terrain names before in
    let next = version_after rs (edits_of before) (ticks_of before + 1) in
    subst (AreJudgedBy next) (sym (played_append (opened rs terrain names) before (Tick ∷ since)))
    (judged_on next (ticked play) since none
    (subst (λ version. AreJudgedBy version (ticked play)) (fixed_by_the_tick rs terrain names before) (judged_after_the_tick play)))

pub first_is_sector : (rs : Regions) (cells : SectorCells) → IsSector (opened_with rs cells)
first_is_sector rs cells = record { window = tt; cells = refl; most = lit≤ tt }

pub renewed_is_sector : (version : Version) (s : SectorData) (cells : SectorCells) → IsSector s
    → IsSector (renewed_over version s cells)
unfolding renewed
renewed_is_sector version s cells sector = record { window = tt; cells = refl; most = omega (arith, sector.most) }

pub records_are_windows : RecordsAreWindows
records_are_windows rs terrain names steps =
    for_ever IsSector command_keeps_sector renewed_is_sector (opened rs terrain names) steps
    (All-map IsSector (opened_with rs) terrain.sectors (λ k d within. first_is_sector rs _))

pub first_windows_begin_with_the_terrain : FirstWindowsBeginWithTheTerrain
first_windows_begin_with_the_terrain rs terrain names steps none =
    same_until_the_next_tick base_of (λ s entry. refl) (opened rs terrain names) steps none ∙ bases_begun (first_version rs) terrain.sectors

pub windows_begin_with_the_tick : WindowsBeginWithTheTick
windows_begin_with_the_tick rs terrain names before since whole none =
    let play = game rs terrain names before in
    ap (λ (play : PlayData). map base_of play.sectors) (played_append (opened rs terrain names) before (Tick ∷ since))
    ∙ same_until_the_next_tick base_of (λ s entry. refl) (ticked play) since none
    ∙ bases_renewed (next_version play) play.sectors (next_map play).sectors
    (as_many_cells play (games_stay_whole rs terrain names before whole))

-- the answer of a sector of this version
judged_in : (version : Version) (s : SectorData) (seat : SeatData) (cmd : Cmd) (rule : Rule) → s.version ≡ version
    → answer_of s seat cmd ≢ Err OutOfWorld → answer_of s seat cmd ≢ Err HistoryFull
    → (answer_of s seat cmd ≡ Err (Denied rule)) ↔ ((action : Action) × (action_of cmd ≡ Some action) × (judged version.policy seat action (place_of cmd) ≡ Deny rule))
judged_in version s seat cmd rule is inside room = elim (cases_Bool (holds s.cells (place_of cmd))) [
  | inr other ↦ absurd (inside (elsewhere_is_refused s seat cmd other))
  | inl held ↦ elim (cases_Bool (is_full s)) [
    | inl full ↦ absurd (room (full_is_refused s seat cmd held full))
    | inr free ↦
        let by_rules = answered_by_the_rules s seat cmd held free in
        let by_policy = denied_by_the_policy s.version.policy s.cells seat cmd rule in
        rw (← is, ← by_rules) by_policy
  ]
]

-- and of a world whose sectors are of this version
denied_by : (version : Version) (play : PlayData) (seat : SeatData) (cmd : Cmd) → AreJudgedBy version play → IsJudged play seat cmd → IsDeniedBy version.policy play seat cmd
unfolding answered
denied_by version play seat cmd all is_judged rule = by (sector_asked play cmd) is_judged
  where
    Is : Result Reply Refusal → Type 0
    Is answer = (answer ≢ Err OutOfWorld) × (answer ≢ Err HistoryFull)
        → (answer ≡ Err (Denied rule)) ↔ ((action : Action) × (action_of cmd ≡ Some action) × (judged version.policy seat action (place_of cmd) ≡ Deny rule))

    there : (k : ℕ) (s : Option SectorData) → slice_get play.sectors k ≡ s → Is (answer_in seat cmd s)
    there k None found asked = absurd (asked.0 refl)
    there k (Some s) found asked = judged_in version s seat cmd rule (of_found (λ s. s.version ≡ version) play.sectors k s all.commands found) asked.0 asked.1

    by : (k : Option ℕ) → Is (answered_at play.sectors seat cmd k).0
    by None = λ asked. absurd (asked.0 refl)
    by (Some k) = there k (slice_get play.sectors k) refl

pub denied_by_the_opening : DeniedByTheOpening
denied_by_the_opening rs terrain names steps seat cmd none =
    denied_by (version_after rs [] 0) (game rs terrain names steps) seat cmd (no_edit_counts_before_a_tick rs terrain names steps none)

pub denied_by_the_last_tick : DeniedByTheLastTick
denied_by_the_last_tick rs terrain names before since seat cmd none =
    denied_by (version_after rs (edits_of before) (ticks_of before + 1)) (game rs terrain names (before ++ Tick ∷ since)) seat cmd
    (edits_count_from_the_next_tick rs terrain names before since none)
