-- In every game something stands at each place of the map, and heads stay with their pistons.
use Rattle.std.proofs.Common.{◌≡◌, ◌≢◌, ℕ, Bool, true, false, nat_eq, List, [], ◌∷◌, map, set, slice_get, Option, Some, None, option_map, refl, sym, ap, ◌∙◌, subst}
use Rattle.std.specs.List.{All}
use Rattle.std.proofs.lemmas.Bool.{eqb-true, eq-eqb, false≢true}
use Rattle.std.proofs.lemmas.List.{map-set}
use Rattle.std.proofs.lemmas.List.Elements.{All-set}
use Rattle.std.proofs.lemmas.Option.{slice_get-map}
use Rattle.vx_base.proofs.Lists.{set_found, set_beside}
use Rattle.vx_geom.specs.declared.pos.Pos.{Pos}
use Rattle.vx_geom.specs.Dirs.{opposite}
use Rattle.vx_geom.specs.Neighbor.{neighbor}
use Rattle.vx_geom.specs.Sizes.{AreSizes, sector_of}
use Rattle.vx_block.specs.declared.cell.Cell.{Cell}
use Rattle.vx_block.specs.declared.cell.Cell.TheVariants as cell
use Rattle.vx_cells.specs.MapLaws.{IsFilled}
use Rattle.vx_cells.specs.Maps.{MapData, cell_in, sector_at, cell_on}
use Rattle.vx_cells.specs.SectorCells.{SectorCells, IsWhole}
use Rattle.vx_cells.proofs.MapLemmas.{placed_at, is_held}
use Rattle.vx_region.specs.Regions.{Regions}
use Rattle.vx_sector.specs.Acting.{is_extended}
use Rattle.vx_sector.specs.Laws.{cells_left, IsLeftExtended}
use Rattle.vx_sector.specs.SectorData.{SectorData, SeatData}
use Rattle.vx_sector.specs.Windows.{answer_of, sector_after}
use Rattle.vx_sector.specs.declared.cmd.Cmd.{Cmd}
use Rattle.vx_sector.proofs.Keeping.{sectors_stay_whole, extended_pistons_stay}
use Rattle.vx_tick.specs.Pairing.{IsPairedAt, IsPaired}
use Rattle.vx_tick.proofs.Making.{stays_filled}
use Rattle.vx_tick.proofs.Pairs.{stays_paired}
use Rattle.vx_play.specs.Plays.{PlayData, opened, sector_asked, answered, answered_at, left_in, map_of, next_fates, ticked}
use Rattle.vx_windows.specs.Sectors.{cells_of, first_version}
use Rattle.vx_play.specs.Games.{Step, Command, Accepted, Tick, after_step, played}
use Rattle.vx_play.specs.Laws.{GamesStayFilled, GamesStayPaired}
use Rattle.vx_windows.proofs.Sparing.{of_found}
use Rattle.vx_play.proofs.Whole.{cells_opened, commands_keep_worlds, ticks_are_steps}

left_as_is : (before after : Cell) → after ≡ before → IsLeftExtended before after
left_as_is before after same = (λ so. same, λ so. same)

-- where extended pistons and heads stay, and none comes, they stay together
module _ (v w : Pos → Cell) (left : (p : Pos) → IsLeftExtended (v p) (w p)) (paired : (p : Pos) → IsPairedAt v p (v p)) where
  stood : (p : Pos) (c : Cell) → is_extended c ≡ true → w p ≡ c → v p ≡ c
  stood p c extended is = sym ((left p).1 (ap is_extended is ∙ extended)) ∙ is

  stands : (p : Pos) (c : Cell) → is_extended c ≡ true → v p ≡ c → w p ≡ c
  stands p c extended is = (left p).0 (ap is_extended is ∙ extended) ∙ is

  paired_as : (p : Pos) (c : Cell) → w p ≡ c → IsPairedAt w p c
  paired_as p (cell.Piston d sticky true) is =
      stands (neighbor p d) (cell.Head d sticky) refl (subst (IsPairedAt v p) (stood p (cell.Piston d sticky true) refl is) (paired p))
  paired_as p (cell.Head d sticky) is =
      stands (neighbor p (opposite d)) (cell.Piston d sticky true) refl (subst (IsPairedAt v p) (stood p (cell.Head d sticky) refl is) (paired p))
  paired_as p (cell.Piston d sticky false) is = tt
  paired_as p cell.Air is = tt
  paired_as p cell.Stone is = tt
  paired_as p cell.Dirt is = tt
  paired_as p cell.Planks is = tt
  paired_as p cell.Glass is = tt
  paired_as p cell.Obsidian is = tt
  paired_as p cell.Bedrock is = tt
  paired_as p cell.Chest is = tt
  paired_as p (cell.Dust level) is = tt
  paired_as p (cell.Torch facing lit) is = tt
  paired_as p (cell.Lever facing on) is = tt
  paired_as p (cell.Repeater repeating) is = tt
  paired_as p (cell.Lamp lamp) is = tt

  still_paired : (p : Pos) → IsPairedAt w p (w p)
  still_paired p = paired_as p (w p) refl

-- what a command leaves on the map
module _ (play : PlayData) (seat : SeatData) (cmd : Cmd) (filled : IsFilled (map_of play)) where
  -- these cells are whole, and extended pistons and heads are as they were
  abbrev AreKept : List SectorCells → Type 0
  AreKept cells =
      All IsWhole cells
      × ((q : Pos) → IsLeftExtended (cell_on (map_of play) q) (cell_on (record { sizes = play.sizes; sectors = cells }) q))

  module _ (k : ℕ) (s : SectorData) (there : slice_get play.sectors k ≡ Some s) where
    abbrev cells : List SectorCells
    cells = map cells_of play.sectors

    abbrev after : List SectorCells
    after = set cells k (cells_left s seat cmd)

    found : slice_get cells k ≡ Some s.cells
    found = slice_get-map cells_of play.sectors k ∙ ap (option_map cells_of) there

    whole : IsWhole s.cells
    whole = of_found IsWhole cells k s.cells filled.each found

    sizes : AreSizes s.cells.bounds
    sizes = subst AreSizes (sym (placed_at play.sizes 0 k cells s.cells filled.map.each found).0) filled.map.valid

    left_in_sector : (q : Pos) (j : ℕ) (b : Bool) → sector_of play.sizes q ≡ Some j → nat_eq j k ≡ b
        → IsLeftExtended (cell_in (slice_get cells j) q) (cell_in (slice_get after j) q)
    left_in_sector q j true of same =
        let is : j ≡ k = eqb-true j k same in
        let held = is_held (map_of play) q k (of ∙ ap Some is) s.cells filled.map found in
        subst (λ n. IsLeftExtended (cell_in (slice_get cells n) q) (cell_in (slice_get after n) q)) (sym is)
        (subst (λ c. IsLeftExtended (cell_in c q) (cell_in (slice_get after k) q)) (sym found)
        (subst (λ c. IsLeftExtended (cell_in (Some s.cells) q) (cell_in c q)) (sym (set_found cells k s.cells (cells_left s seat cmd) found))
        (extended_pistons_stay s seat cmd q sizes whole held)))
    left_in_sector q j false of other =
        left_as_is _ _ (ap (λ c. cell_in c q) (set_beside cells k j (cells_left s seat cmd) (λ same. false≢true (sym other ∙ eq-eqb j k same))))

    left_at : (q : Pos) (j : Option ℕ) → sector_of play.sizes q ≡ j → IsLeftExtended (cell_in (sector_at cells j) q) (cell_in (sector_at after j) q)
    left_at q None of = left_as_is _ _ refl
    left_at q (Some j) of = left_in_sector q j (nat_eq j k) of refl

    left_on : (q : Pos) → IsLeftExtended (cell_on (map_of play) q) (cell_on (record { sizes = play.sizes; sectors = after }) q)
    unfolding cell_on
    left_on q = left_at q (sector_of play.sizes q) refl

    kept_there : AreKept after
    kept_there = (All-set IsWhole cells k (cells_left s seat cmd) (sectors_stay_whole s seat cmd whole).0 filled.each, left_on)

  none_changed : AreKept (map cells_of play.sectors)
  none_changed = (filled.each, λ q. left_as_is _ _ refl)

  kept_in : (k : ℕ) (s : Option SectorData) → slice_get play.sectors k ≡ s → AreKept (map cells_of (left_in play.sectors k seat cmd s))
  kept_in k None there = none_changed
  kept_in k (Some s) there =
      subst AreKept (sym (map-set cells_of play.sectors k (sector_after s seat cmd (answer_of s seat cmd)))) (kept_there k s there)

  kept_by : (asked : Option ℕ) → AreKept (map cells_of (answered_at play.sectors seat cmd asked).1)
  kept_by None = none_changed
  kept_by (Some k) = kept_in k (slice_get play.sectors k) refl

  all_kept : AreKept (map cells_of (answered play seat cmd).1)
  unfolding answered
  all_kept = kept_by (sector_asked play cmd)

  filled_after : IsFilled (map_of (after_step play (Command seat cmd)))
  filled_after = record { map = commands_keep_worlds play seat cmd filled.map; each = all_kept.0 }

  paired_after : IsPaired (map_of play) → IsPaired (map_of (after_step play (Command seat cmd)))
  paired_after paired = still_paired (cell_on (map_of play)) (cell_on (map_of (after_step play (Command seat cmd)))) all_kept.1 paired

-- what a tick leaves
filled_by_tick : (play : PlayData) → IsFilled (map_of play) → IsFilled (map_of (ticked play))
filled_by_tick play filled =
    (stays_filled play.version.policy (map_of play) (map_of (ticked play)) (next_fates play) (ticks_are_steps play filled.map) filled).0

paired_by_tick : (play : PlayData) → IsFilled (map_of play) → IsPaired (map_of play) → IsPaired (map_of (ticked play))
paired_by_tick play filled paired =
    stays_paired play.version.policy (map_of play) (map_of (ticked play)) (next_fates play) (ticks_are_steps play filled.map) filled paired

still_filled : (play : PlayData) (steps : List Step) → IsFilled (map_of play) → IsFilled (map_of (played play steps))
still_filled play [] filled = filled
still_filled play (Command seat cmd ∷ steps) filled = still_filled (after_step play (Command seat cmd)) steps (filled_after play seat cmd filled)
still_filled play (Accepted edit ∷ steps) filled = still_filled (after_step play (Accepted edit)) steps filled
still_filled play (Tick ∷ steps) filled = still_filled (after_step play Tick) steps (filled_by_tick play filled)

paired_on : (play : PlayData) (steps : List Step) → IsFilled (map_of play) → IsPaired (map_of play) → IsPaired (map_of (played play steps))
paired_on play [] filled paired = paired
paired_on play (Command seat cmd ∷ steps) filled paired =
    paired_on (after_step play (Command seat cmd)) steps (filled_after play seat cmd filled) (paired_after play seat cmd filled paired)
paired_on play (Accepted edit ∷ steps) filled paired = paired_on (after_step play (Accepted edit)) steps filled paired
paired_on play (Tick ∷ steps) filled paired = paired_on (after_step play Tick) steps (filled_by_tick play filled) (paired_by_tick play filled paired)

-- the map of the opening is the terrain
map_opened : (rs : Regions) (terrain : MapData) (names : List (List ℕ)) → map_of (opened rs terrain names) ≡ terrain
map_opened rs terrain names = λ i. record { sizes = terrain.sizes; sectors = cells_opened (first_version rs) terrain.sectors i }

pub games_stay_filled : GamesStayFilled
games_stay_filled rs terrain names steps filled =
    still_filled (opened rs terrain names) steps (subst IsFilled (sym (map_opened rs terrain names)) filled)

pub games_stay_paired : GamesStayPaired
games_stay_paired rs terrain names steps filled paired =
    paired_on (opened rs terrain names) steps (subst IsFilled (sym (map_opened rs terrain names)) filled)
    (subst IsPaired (sym (map_opened rs terrain names)) paired)
