-- What the commands of the windows leave as it was.
use Rattle.std.proofs.Common.{◌≡◌, ◌≢◌, ◌⊎◌, ℕ, true, false, List, [], ◌∷◌, length, map, set, slice_get, Result, Option, Some, None, option_map, refl, sym, ap, ◌∙◌, subst, inl, inr, arith}
use Rattle.std.specs.List.{All}
use Rattle.std.proofs.lemmas.Bool.{cases_Bool, false≢true, or_left}
use Rattle.std.proofs.Math.Seq.{map-set_same}
use Rattle.std.proofs.lemmas.Option.{get_or_from_slice_get, slice_get_within, slice_get-map}
use Rattle.std.proofs.lemmas.List.{length-map}
use Rattle.vx_geom.specs.declared.pos.Pos.{Pos}
use Rattle.vx_geom.specs.Sizes.{Sizes, AreSizes, sector_count, sector_of}
use Rattle.vx_block.specs.declared.cell.Cell.{Cell}
use Rattle.vx_cells.specs.Wholes.{with_cells_on, IsMap}
use Rattle.vx_cells.specs.SectorCells.{SectorCells, holds, block_at, cell_at}
use Rattle.vx_cells.specs.Maps.{AreSectors, MapData, cell_in, cell_on, sector_at}
use Rattle.vx_cells.proofs.CellLaws.{other_blocks_stay}
use Rattle.vx_cells.proofs.Copying.{held_too}
use Rattle.vx_cells.proofs.MapLemmas.{placed_at}
use Rattle.vx_cells.proofs.Placed.{holds_found}
use Rattle.vx_policy.specs.declared.version.Version.{Version}
use Rattle.vx_cells.proofs.Setting.{puts_whole}
use Rattle.vx_power.specs.Levels.{has, same_place}
use Rattle.vx_power.proofs.Having.{own_place}
use Rattle.vx_sector.specs.Acting.{effect_by, cells_by}
use Rattle.vx_sector.specs.Commands.{place_of}
use Rattle.vx_sector.specs.SectorData.{SectorData, EntryData, SeatData}
use Rattle.vx_sector.specs.Windows.{cells_after, is_recorded, sector_after, HoldsPlaces, IsWindow}
use Rattle.vx_sector.specs.declared.cmd.Cmd.{Cmd}
use Rattle.vx_sector.specs.declared.refusal.Refusal.{Refusal}
use Rattle.vx_sector.specs.declared.reply.Reply.{Reply}
use Rattle.vx_sector.proofs.Places.{after_bounds, after_sector, block_done, by_bounds, by_sector, places_too, window_places}
use Rattle.vx_sector.proofs.Keeping.{cases_place}
use Rattle.vx_windows.specs.Sectors.{base_of, all_renewed, cells_of, opened_by}
use Rattle.vx_windows.specs.Writing.{IsSpared, AreSpared, map_before}
use Rattle.vx_windows.proofs.Renewals.{bases_renewed}

-- what holds of each holds of one that is found
pub of_found : {X : Type 0} (P : X → Type 0) (xs : List X) (k : ℕ) (x : X) → All P xs → slice_get xs k ≡ Some x → P x
of_found P xs k x all found = subst P (get_or_from_slice_get xs k x x found) (all k x (slice_get_within xs k x found))

-- p is the place of none of these entries
abbrev AreElsewhere : Pos → List EntryData → Type 0
AreElsewhere p [] = Unit {0}
AreElsewhere p (entry ∷ entries) = (p ≢ place_of entry.cmd) × AreElsewhere p entries

-- at p the cells are as the base is, or it is no place of an entry
found_place : (p : Pos) (base cells : SectorCells) (entries : List EntryData) → AreSpared p base cells entries
    → (cell_at cells p ≡ cell_at base p) ⊎ AreElsewhere p entries
found_place p base cells [] spared = inr tt
found_place p base cells (entry ∷ entries) spared = elim (cases_place p (place_of entry.cmd)) [
  | inl same ↦ inl (spared.0 (sym same))
  | inr other ↦ elim (found_place p base cells entries spared.1) [
    | inl is ↦ inl is
    | inr elsewhere ↦ inr (other, elsewhere)
  ]
]

-- entries leave what stands at other positions
others_left : (p : Pos) (base : SectorCells) (entries : List EntryData) → AreSizes base.bounds
    → holds base p ≡ true → HoldsPlaces base entries → AreElsewhere p entries
    → block_at (cells_after base entries) p ≡ block_at base p
others_left p base [] sizes at_p held elsewhere = refl
others_left p base (entry ∷ entries) sizes at_p held elsewhere =
    let q = place_of entry.cmd in
    let effect = effect_by base entry.cmd entry.answer in
    let next = cells_by base entry.cmd entry.answer in
    let done = block_done base q effect in
    let bounds = by_bounds base q effect in
    let sector = by_sector base q effect in
    others_left p next entries (subst AreSizes (sym bounds) sizes)
    (held_too base next p bounds sector at_p) (places_too base next entries bounds sector held.1) elsewhere.1
    ∙ ap (λ (c : SectorCells). block_at c p) done.1
    ∙ other_blocks_stay base q p done.0 sizes held.0 at_p elsewhere.0

-- so where no entry has left another cell the cells of a window are as it began
pub spared : (p : Pos) (base cells : SectorCells) (entries : List EntryData) → cells ≡ cells_after base entries
    → AreSizes base.bounds → holds base p ≡ true → HoldsPlaces base entries → AreSpared p base cells entries
    → cell_at cells p ≡ cell_at base p
spared p base cells entries after sizes at_p held each = elim (found_place p base cells entries each) [
  | inl is ↦ is
  | inr elsewhere ↦
      ap (λ (c : SectorCells). cell_at c p) after
      ∙ ap (λ b. b.cell) (others_left p base entries sizes at_p held elsewhere)
]

module _ (v : Sizes) (p : Pos) (sectors : List SectorData) (whole : AreSectors v (map cells_of sectors))
    (all : All (IsSpared p) sectors) where
  in_sector : (k : ℕ) → sector_of v p ≡ Some k → (o : Option SectorData) → slice_get sectors k ≡ o
      → cell_in (option_map cells_of o) p ≡ cell_in (option_map base_of o) p
  in_sector k at None found = refl
  in_sector k at (Some s) found =
      let cells = slice_get-map cells_of sectors k ∙ ap (option_map cells_of) found in
      let placed = placed_at v 0 k (map cells_of sectors) s.cells whole.each cells in
      of_found (IsSpared p) sectors k s all found
      (holds_found s.cells p k (ap (λ w. sector_of w p) placed.0 ∙ at) (omega (arith, placed.1)))

  by_number : (o : Option ℕ) → sector_of v p ≡ o
      → cell_in (sector_at (map cells_of sectors) o) p ≡ cell_in (sector_at (map base_of sectors) o) p
  by_number None at = refl
  by_number (Some k) at =
      ap (λ o. cell_in o p) (slice_get-map cells_of sectors k)
      ∙ in_sector k at (slice_get sectors k) refl
      ∙ sym (ap (λ o. cell_in o p) (slice_get-map base_of sectors k))

  -- what no command has changed stands on the map as it did when the windows began
  pub map_spared : cell_on (record { sizes = v; sectors = map cells_of sectors }) p
      ≡ cell_on (map_before v sectors) p
  unfolding cell_on
  map_spared = by_number (sector_of v p) refl

-- a sector more is spared
pub spared_all : (p : Pos) (s : SectorData) (entries : List EntryData) → entries ≡ s.entries
    → IsWindow s.version.policy s.base s.entries → s.cells ≡ cells_after s.base s.entries
    → AreSizes s.cells.bounds → AreSpared p s.base s.cells entries → IsSpared p s
spared_all p s entries same window cells sizes each at_p =
    let bounds : s.cells.bounds ≡ s.base.bounds =
    ap (λ (d : SectorCells). d.bounds) cells ∙ after_bounds s.base s.entries in
    let number : s.cells.sector ≡ s.base.sector =
    ap (λ (d : SectorCells). d.sector) cells ∙ after_sector s.base s.entries in
    spared p s.base s.cells s.entries cells (subst AreSizes bounds sizes)
    (held_too s.cells s.base p (sym bounds) (sym number) at_p)
    (window_places _ _ _ window) (subst (AreSpared p s.base s.cells) same each)

-- the next windows begin over the cells that were put down
module _ (version : Version) (sizes : Sizes) (ss : List SectorData) (puts : List (Pos × Cell))
    (whole : AreSectors sizes (map cells_of ss)) where
  abbrev m : MapData
  m = record { sizes = sizes; sectors = map cells_of ss }

  kept : IsMap (with_cells_on m puts) × ((with_cells_on m puts).sizes ≡ sizes)
  kept = puts_whole m puts whole

  pub begun_over : map_before sizes (all_renewed version ss (with_cells_on m puts).sectors) ≡ with_cells_on m puts
  begun_over =
      let many : length ss ≡ length (with_cells_on m puts).sectors =
      omega (arith, length-map ss cells_of, whole.all, kept.0.all, ap sector_count kept.1) in
      λ i. record {
        sizes = sym kept.1 i;
        sectors = bases_renewed version ss (with_cells_on m puts).sectors many i;
      }

-- a place that was added is none that is not listed
pub spared_not : (p q : Pos) → q ≡ p → (added : Pos) → added ≡ q → has (added ∷ []) p ≡ false → ⊥
spared_not p q at added is none =
    false≢true (sym none ∙ or_left (same_place p added) false (ap (same_place p) (is ∙ at) ∙ own_place p))

-- a world begins with the cells of its terrain
pub bases_begun : (v : Version) (cs : List SectorCells) → map base_of (map (opened_by v) cs) ≡ cs
bases_begun v [] = refl
bases_begun v (c ∷ cs) = ap (λ ds. c ∷ ds) (bases_begun v cs)

-- a command leaves the base of its sector
pub base_stays : (s : SectorData) (seat : SeatData) (cmd : Cmd) (answer : Result Reply Refusal)
    → base_of (sector_after s seat cmd answer) ≡ base_of s
unfolding sector_after
base_stays s seat cmd answer = elim (cases_Bool (is_recorded answer)) [ inl traced ↦ rw traced refl | inr none ↦ rw none refl ]

-- and so the map as the windows began
pub before_stays : (sizes : Sizes) (sectors : List SectorData) (k : ℕ) (s next : SectorData)
    → slice_get sectors k ≡ Some s → base_of next ≡ base_of s
    → map_before sizes (set sectors k next) ≡ map_before sizes sectors
before_stays sizes sectors k s next found same =
    ap (λ cs. record { sizes = sizes; sectors = cs })
    (map-set_same base_of sectors k next s (same ∙ ap base_of (sym (get_or_from_slice_get sectors k s s found))))
