-- What a world at play does keeps each of its sectors in its place.
use Rattle.std.proofs.Common.{◌≡◌, ◌≢◌, ℕ, false, List, [], ◌∷◌, length, map, set, slice_get, Option, Some, None, option_map, Result, Err, refl, sym, ap, ◌∙◌, subst, inl, inr, arith}
use Rattle.std.proofs.lemmas.Bool.{cases_Bool}
use Rattle.std.proofs.lemmas.List.{map-set, length-map}
use Rattle.std.proofs.lemmas.Option.{slice_get-map}
use Rattle.vx_base.proofs.Lists.{item_there}
use Rattle.vx_geom.specs.declared.pos.Pos.{Pos}
use Rattle.vx_geom.specs.Sizes.{sector_count, sector_of, is_inside}
use Rattle.vx_geom.proofs.SectorLemmas.{held_at, in_sector}
use Rattle.vx_cells.specs.SectorCells.{SectorCells, with_block}
use Rattle.vx_policy.specs.declared.version.Version.{Version}
use Rattle.vx_sector.specs.Acting.{applied, effect_by}
use Rattle.vx_sector.specs.Commands.{place_of}
use Rattle.vx_sector.specs.Windows.{answer_of, is_recorded, sector_after}
use Rattle.vx_sector.specs.SectorData.{SectorData, SeatData}
use Rattle.vx_sector.specs.declared.cmd.Cmd.{Cmd}
use Rattle.vx_sector.specs.declared.effect.Effect.{Effect}
use Rattle.vx_sector.specs.declared.effect.Effect.TheVariants.{Same, NewCell, NewSlot}
use Rattle.vx_sector.specs.declared.reply.Reply.{Reply}
use Rattle.vx_sector.specs.declared.refusal.Refusal.{Refusal}
use Rattle.vx_sector.specs.declared.refusal.Refusal.TheVariants.{OutOfWorld}
use Rattle.vx_sector.proofs.Outside.{inside_is_not_refused}
use Rattle.vx_cells.specs.Maps.{AreSectors}
use Rattle.vx_cells.specs.Wholes.{IsMap}
use Rattle.vx_play.specs.Plays.{PlayData, IsWorld, sector_asked, answered, answered_at, answer_in, left_in, map_of, next_version, next_map, next_fates, ticked}
use Rattle.vx_windows.specs.Sectors.{cells_of, opened_by}
use Rattle.vx_play.specs.Laws.{WorldsBeginWhole, CommandsKeepWorlds, TicksKeepWorlds, TicksAreSteps, OutOfWorldIsOutside}
use Rattle.vx_cells.proofs.MapLemmas.{placed_at}
use Rattle.vx_cells.proofs.Placed.{holds_found}
use Rattle.vx_cells.proofs.Setting.{again}
use Rattle.vx_tick.specs.Ticks.{IsTick}
use Rattle.vx_tick.proofs.OneTick.{stepped_is_tick, steps_keep_maps}
use Rattle.vx_windows.proofs.Renewals.{cells_renewed}

-- the world that is made has the sectors of the terrain
pub cells_opened : (v : Version) (cs : List SectorCells) → map cells_of (map (opened_by v) cs) ≡ cs
cells_opened v [] = refl
cells_opened v (c ∷ cs) = ap (λ ds. c ∷ ds) (cells_opened v cs)

pub worlds_begin_whole : WorldsBeginWhole
worlds_begin_whole rs terrain names whole = subst (AreSectors terrain.sizes) (sym (cells_opened _ terrain.sectors)) whole

-- a command keeps the bounds and the number of its sector
same_bounds : (c : SectorCells) (p : Pos) (effect : Effect) → (applied c p effect).bounds ≡ c.bounds
unfolding with_block
same_bounds c p Same = refl
same_bounds c p (NewCell cell) = refl
same_bounds c p (NewSlot slot content) = refl

same_number : (c : SectorCells) (p : Pos) (effect : Effect) → (applied c p effect).sector ≡ c.sector
unfolding with_block
same_number c p Same = refl
same_number c p (NewCell cell) = refl
same_number c p (NewSlot slot content) = refl

after_bounds : (s : SectorData) (seat : SeatData) (cmd : Cmd) (answer : Result Reply Refusal) → (sector_after s seat cmd answer).cells.bounds ≡ s.cells.bounds
unfolding sector_after
after_bounds s seat cmd answer = elim (cases_Bool (is_recorded answer)) [ inl traced ↦ rw traced (same_bounds s.cells (place_of cmd) (effect_by s.cells cmd answer)) | inr none ↦ rw none refl ]

after_number : (s : SectorData) (seat : SeatData) (cmd : Cmd) (answer : Result Reply Refusal) → (sector_after s seat cmd answer).cells.sector ≡ s.cells.sector
unfolding sector_after
after_number s seat cmd answer = elim (cases_Bool (is_recorded answer)) [ inl traced ↦ rw traced (same_number s.cells (place_of cmd) (effect_by s.cells cmd answer)) | inr none ↦ rw none refl ]

pub commands_keep_worlds : CommandsKeepWorlds
unfolding answered
commands_keep_worlds play seat cmd whole = by (sector_asked play cmd)
  where
    in_sector_of : (k : ℕ) (s : Option SectorData) → slice_get play.sectors k ≡ s → AreSectors play.sizes (map cells_of (left_in play.sectors k seat cmd s))
    in_sector_of k None found = whole
    in_sector_of k (Some s) found =
        let next = sector_after s seat cmd (answer_of s seat cmd) in
        subst (AreSectors play.sizes) (sym (map-set cells_of play.sectors k next))
        (again play.sizes (map cells_of play.sectors) k s.cells next.cells whole (slice_get-map cells_of play.sectors k ∙ ap (option_map cells_of) found) (after_bounds s seat cmd _) (after_number s seat cmd _))

    by : (k : Option ℕ) → AreSectors play.sizes (map cells_of (answered_at play.sectors seat cmd k).1)
    by None = whole
    by (Some k) = in_sector_of k (slice_get play.sectors k) refl

-- a tick keeps the map, and has a cell of it for each of the world's
module _ (play : PlayData) (whole : IsWorld play) where
  pub next_whole : IsMap (next_map play) × ((next_map play).sizes ≡ play.sizes)
  next_whole = steps_keep_maps play.version.policy (map_of play) whole

  pub as_many_cells : length play.sectors ≡ length (next_map play).sectors
  as_many_cells =
      sym (length-map play.sectors cells_of) ∙ whole.all ∙ sym (ap sector_count next_whole.1) ∙ sym next_whole.0.all

  cells_ticked : map cells_of (ticked play).sectors ≡ (next_map play).sectors
  cells_ticked = cells_renewed (next_version play) play.sectors (next_map play).sectors as_many_cells

  tick_keeps_world : IsWorld (ticked play)
  tick_keeps_world =
      subst (AreSectors play.sizes) (sym cells_ticked)
      (subst (λ sizes. AreSectors sizes (next_map play).sectors) next_whole.1 next_whole.0)

  pub map_ticked : map_of (ticked play) ≡ next_map play
  map_ticked = λ i. record { sizes = sym next_whole.1 i; sectors = cells_ticked i }

pub ticks_keep_worlds : TicksKeepWorlds
ticks_keep_worlds play whole = tick_keeps_world play whole

pub ticks_are_steps : TicksAreSteps
ticks_are_steps play whole =
    subst (λ next. IsTick play.version.policy (map_of play) next (next_fates play)) (sym (map_ticked play whole))
    (stepped_is_tick play.version.policy (map_of play))

-- inside the world a command meets the sector that holds its position
met_inside : (play : PlayData) (seat : SeatData) (cmd : Cmd) (k : ℕ) → IsWorld play → sector_of play.sizes (place_of cmd) ≡ Some k
    → (answered_at play.sectors seat cmd (Some k)).0 ≢ Err OutOfWorld
met_inside play seat cmd k whole found same =
    let below = (in_sector play.sizes (place_of cmd) k whole.valid (held_at play.sizes (place_of cmd) k whole.valid found)).0 in
    let there = item_there play.sectors k (omega (arith, below, whole.all, length-map play.sectors cells_of)) in
    let placed = placed_at play.sizes 0 k (map cells_of play.sectors) there.0.cells whole.each (slice_get-map cells_of play.sectors k ∙ ap (option_map cells_of) there.1) in
    let number : there.0.cells.sector ≡ k = omega (arith, placed.1) in
    let held = holds_found there.0.cells (place_of cmd) k (ap (λ sizes. sector_of sizes (place_of cmd)) placed.0 ∙ found) number in
    inside_is_not_refused there.0 seat cmd held (ap (answer_in seat cmd) (sym there.1) ∙ same)

pub out_of_world_is_outside : OutOfWorldIsOutside
unfolding answered sector_asked sector_of
out_of_world_is_outside play seat cmd whole = (outside, λ other. rw other refl)
  where
    outside : (answered play seat cmd).0 ≡ Err OutOfWorld → is_inside play.sizes (place_of cmd) ≡ false
    outside same = elim (cases_Bool (is_inside play.sizes (place_of cmd))) [
      | inl inside ↦ absurd (met_inside play seat cmd _ whole (rw inside refl) (rw inside at same))
      | inr other ↦ other
    ]

-- a command is answered in the sector of its position
module _ (play : PlayData) (seat : SeatData) (cmd : Cmd) (k : ℕ) (s : SectorData) (found : sector_of play.sizes (place_of cmd) ≡ Some k) (there : slice_get play.sectors k ≡ Some s) where
  pub answered_there : answered play seat cmd ≡ (answer_of s seat cmd, set play.sectors k (sector_after s seat cmd (answer_of s seat cmd)))
  unfolding answered sector_asked
  answered_there =
      ap (answered_at play.sectors seat cmd) found
      ∙ ap (λ o. (answer_in seat cmd o, left_in play.sectors k seat cmd o)) there

  -- whatever it answered, each sector stays in its place
  pub answer_keeps_world : (answer : Result Reply Refusal) → IsWorld play → AreSectors play.sizes (map cells_of (set play.sectors k (sector_after s seat cmd answer)))
  answer_keeps_world answer whole =
      let next = sector_after s seat cmd answer in
      subst (AreSectors play.sizes) (sym (map-set cells_of play.sectors k next))
      (again play.sizes (map cells_of play.sectors) k s.cells next.cells whole (slice_get-map cells_of play.sectors k ∙ ap (option_map cells_of) there) (after_bounds s seat cmd answer) (after_number s seat cmd answer))
