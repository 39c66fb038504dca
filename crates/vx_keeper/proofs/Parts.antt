-- Sectors whose windows began with their parts of a world.
use Rattle.std.proofs.Common.{◌≡◌, ℕ, zero, suc, ◌<◌, List, [], ◌∷◌, Bool, true, length, map, get_or, slice_get, Some, option_map, refl, sym, ap, ◌∙◌, arith}
use Rattle.std.specs.List.{All}
use Rattle.std.proofs.lemmas.List.Elements.{All-map}
use Rattle.std.proofs.lemmas.Option.{slice_get-map, slice_get-get_or}
use Rattle.vx_geom.specs.Sizes.{Sizes}
use Rattle.vx_cells.specs.Maps.{AreFrom, MapData}
use Rattle.vx_cells.proofs.MapLemmas.{placed_at}
use Rattle.vx_policy.specs.declared.version.Version.{Version}
use Rattle.vx_region.specs.Regions.{Regions}
use Rattle.vx_sector.specs.SectorData.{SectorData}
use Rattle.vx_sector.specs.Windows.{IsSector}
use Rattle.vx_windows.specs.Sectors.{base_of, all_renewed, first_version, opened_with}
use Rattle.vx_windows.proofs.Renewals.{renewed_version, all_bring, bases_renewed}
use Rattle.vx_windows.proofs.Sparing.{bases_begun}
use Rattle.vx_keeper.specs.Marks.{WorldData, IsPartOf, AreParts}

-- each sector with a base of the world, and its version, began with its part of it
pub parts_by_bases : (world : WorldData) (sizes : Sizes) (ss : List SectorData)
    → AreFrom sizes 0 world.map.sectors → map base_of ss ≡ world.map.sectors
    → All (λ (s : SectorData). s.version ≡ world.version) ss → All (IsPartOf world) ss
parts_by_bases world sizes ss each bases judged k d within =
    let s = get_or ss k d in
    let here : slice_get world.map.sectors k ≡ Some s.base =
    ap (λ cs. slice_get cs k) (sym bases) ∙ slice_get-map base_of ss k ∙ ap (option_map base_of) (slice_get-get_or ss k d within) in
    let number : s.base.sector ≡ k = omega (arith, (placed_at sizes 0 k world.map.sectors s.base each here).1) in
    (ap (slice_get world.map.sectors) number ∙ here, ap (λ (v : Version). record v { tick = world.version.tick }) (judged k d within))

pub as_many_said : (world : WorldData) (said : List Bool) (ss : List SectorData)
    → AreParts world said ss → length said ≡ length ss
as_many_said world [] [] parts = refl
as_many_said world [] (s ∷ ss) parts = absurd parts
as_many_said world (b ∷ said) [] parts = absurd parts
as_many_said world (b ∷ said) (s ∷ ss) parts = ap suc (as_many_said world said ss parts.1)

-- the sector of each number is a part where that is said
pub part_at : (world : WorldData) (said : List Bool) (ss : List SectorData) → AreParts world said ss
    → (k : ℕ) (b : Bool) (s : SectorData) → k < length ss → get_or said k b ≡ true → IsPartOf world (get_or ss k s)
part_at world [] [] parts k b s within is = absurd (omega (arith, within))
part_at world [] (t ∷ ss) parts k b s within is = absurd parts
part_at world (c ∷ said) [] parts k b s within is = absurd parts
part_at world (c ∷ said) (t ∷ ss) parts zero b s within is = parts.0 is
part_at world (c ∷ said) (t ∷ ss) parts (suc k) b s within is =
    part_at world said ss parts.1 k b s (omega (arith, within)) is

-- the sectors of a terrain as they open
pub parts_opened : (m : MapData) (rs : Regions) → AreFrom m.sizes 0 m.sectors
    → All (IsPartOf (record { map = m; version = first_version rs })) (map (opened_with rs) m.sectors)
parts_opened m rs each =
    parts_by_bases (record { map = m; version = first_version rs }) m.sizes (map (opened_with rs) m.sectors) each
    (bases_begun (first_version rs) m.sectors)
    (All-map (λ (s : SectorData). s.version ≡ first_version rs) (opened_with rs) m.sectors (λ k d within. refl))

-- the sectors as their next windows begin
pub parts_renewed : (m : MapData) (v : Version) (ss : List SectorData) → AreFrom m.sizes 0 m.sectors
    → length ss ≡ length m.sectors → All IsSector ss
    → All (IsPartOf (record { map = m; version = v })) (all_renewed v ss m.sectors)
parts_renewed m v ss each many sectors =
    parts_by_bases (record { map = m; version = v }) m.sizes (all_renewed v ss m.sectors) each
    (bases_renewed v ss m.sectors many)
    (all_bring v IsSector (λ (s : SectorData). s.version ≡ v) (λ s cells is. renewed_version v s cells) ss m.sectors sectors)
