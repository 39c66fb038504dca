-- What a header says keeps each sector of its world in its place.
use Rattle.std.proofs.Common.{◌≡◌, ℕ, zero, suc, Bool, true, false, [], ◌∷◌, ◌++◌, Option, Some, None, option_map, if◌then◌else◌, not, ◌&&◌, ◌≤◌, ◌%◌, inl, inr, is_some, refl, subst, arith}
use Rattle.std.specs.List.{All}
use Rattle.std.specs.Option.{option_and_then, MatchOption}
use Rattle.std.proofs.lemmas.Bool.{and_parts, or_cases, eqb-true, leb-true}
use Rattle.std.proofs.lemmas.List.{length-replicate}
use Rattle.std.proofs.lemmas.List.Elements.{All-nil, All-push, All-replicate}
use Rattle.vx_geom.specs.declared.bounds.TheConstants.{MAX_SECTORS_EACH_WAY, MAX_CHUNKS_EACH_WAY, LOW_HEIGHT, HIGH_HEIGHT}
use Rattle.vx_geom.specs.Sizes.{Sizes, AreSizes, sector_cells, sector_count}
use Rattle.vx_grammar.specs.ScriptLines.{is_height, Nothing, World, Player, Set, Act, Region, Tick, Explain, Together, End}
use Rattle.vx_block.specs.Part.{part_cell}
use Rattle.vx_block.specs.declared.cell.Cell.TheVariants.{Air}
use Rattle.vx_cells.specs.Maps.{MapData}
use Rattle.vx_cells.specs.MapLaws.{IsFilled}
use Rattle.vx_cells.specs.SectorCells.{IsSlot, IsBlock, IsWhole, placed, only_air}
use Rattle.vx_cells.specs.Wholes.{airs, bare, with_cell_on}
use Rattle.vx_cells.proofs.Putting.{put_stays_filled}
use Rattle.vx_cells.proofs.Setting.{air_is_map}
use Rattle.vx_play.specs.Plays.{is_named}
use Rattle.vx_name.specs.Words.{is_amid}
use Rattle.vx_script.specs.Headers.{with_size, with_cell_set, header_after}
use Rattle.vx_script.specs.Openings.{IsOpening, SizesAreSound, HeadersKeepTerrain}

-- a height that a line can say is that of a low world, or of a high one
height_is : (h : ℕ) → is_height h ≡ true → (LOW_HEIGHT ≤ h) × (h ≤ HIGH_HEIGHT) × (h % LOW_HEIGHT ≡ 0)
height_is h said = elim (or_cases _ _ said) [
  | inl low ↦ let is = eqb-true h LOW_HEIGHT low in (omega (arith, is), omega (arith, is), omega (arith, is))
  | inr high ↦ let is = eqb-true h HIGH_HEIGHT high in (omega (arith, is), omega (arith, is), omega (arith, is))
]

-- the sizes that a line can say
pub sizes_are_sound : SizesAreSound
sizes_are_sound sx sz s h v said =
    by (is_amid 1 sx MAX_SECTORS_EACH_WAY) (is_amid 1 sz MAX_SECTORS_EACH_WAY) (is_amid 1 s MAX_CHUNKS_EACH_WAY) (is_height h)
    refl refl refl refl said
  where
    by : (a b c d : Bool) → is_amid 1 sx MAX_SECTORS_EACH_WAY ≡ a → is_amid 1 sz MAX_SECTORS_EACH_WAY ≡ b
        → is_amid 1 s MAX_CHUNKS_EACH_WAY ≡ c → is_height h ≡ d
        → (if (a && b) && (c && d) then Some (record { sx = sx; sz = sz; s = s; h = h }) else None) ≡ Some v → AreSizes v
    by true true true true one two three four said =
        let x = amid sx one in let z = amid sz two in let t = amid s three in let tall = height_is h four in
        let same : record { sx = sx; sz = sz; s = s; h = h } ≡ v = cc in
        subst AreSizes same (record {
          sx_least = x.0;
          sx_most = x.1;
          sz_least = z.0;
          sz_most = z.1;
          s_least = t.0;
          s_most = t.1;
          h_least = tall.0;
          h_most = tall.1;
          h_whole = tall.2;
        })
      where
        amid : {most : ℕ} (n : ℕ) → is_amid 1 n most ≡ true → (1 ≤ n) × (n ≤ most)
        amid n inside = let parts = and_parts _ _ inside in (leb-true _ _ parts.0, leb-true _ _ parts.1)
    by true true true false one two three four said = cc
    by true true false d one two three four said = cc
    by true false c d one two three four said = cc
    by false b c d one two three four said = cc

-- a world of air alone has something at each place
airs_whole : (sizes : Sizes) (n : ℕ) → All IsWhole (airs sizes n)
airs_whole sizes zero = All-nil IsWhole
airs_whole sizes (suc n) = All-push IsWhole (airs sizes n) (only_air sizes n) (airs_whole sizes n) (record {
  whole = length-replicate (sector_cells sizes) (placed Air);
  each = All-replicate IsBlock (sector_cells sizes) (placed Air) (record { slots = refl; each = All-nil IsSlot });
})

air_filled : (sizes : Sizes) → AreSizes sizes → IsFilled (bare sizes)
air_filled sizes valid = record { map = air_is_map sizes valid; each = airs_whole sizes (sector_count sizes) }

pub headers_keep_terrain : HeadersKeepTerrain
unfolding header_after with_cell_set
headers_keep_terrain Nothing o next sizes terrain made = let same : o ≡ next = cc in subst IsOpening same terrain
headers_keep_terrain (World sizes) o next valid terrain made = by o.terrain made
  where
    by : (z : Option MapData) → with_size o sizes z ≡ Some next → IsOpening next
    by (Some z) made = cc
    by None made = let same : record o { terrain = Some (bare sizes) } ≡ next = cc in subst IsOpening same (air_filled sizes valid)
headers_keep_terrain (Player name) o next sizes terrain made = by (is_some o.terrain && not (is_named o.names name)) made
  where
    by : (b : Bool) → (if b then Some (record o { names = o.names ++ name ∷ [] }) else None) ≡ Some next → IsOpening next
    by false made = cc
    by true made = let same : record o { names = o.names ++ name ∷ [] } ≡ next = cc in subst IsOpening same terrain
headers_keep_terrain (Set p part) o next sizes terrain made = by o.terrain terrain made
  where
    with_terrain : (old : MapData) → IsFilled old → (g : Option MapData) → with_cell_on old p (part_cell part) ≡ g → option_map (λ g. record o { terrain = Some g }) g ≡ Some next → IsOpening next
    with_terrain old whole None is made = cc
    with_terrain old whole (Some g) is made = let same : record o { terrain = Some g } ≡ next = cc in subst IsOpening same (put_stays_filled old g p (part_cell part) whole is).0

    by : (z : Option MapData) → MatchOption z (Unit {0}) IsFilled
        → option_map (λ g. record o { terrain = Some g }) (option_and_then (λ g. with_cell_on g p (part_cell part)) z) ≡ Some next → IsOpening next
    by None whole made = cc
    by (Some old) whole made = with_terrain old whole (with_cell_on old p (part_cell part)) refl made
headers_keep_terrain (Act name cmd) o next sizes terrain made = cc
headers_keep_terrain (Region e) o next sizes terrain made = cc
headers_keep_terrain Tick o next sizes terrain made = cc
headers_keep_terrain (Explain name action p) o next sizes terrain made = cc
headers_keep_terrain Together o next sizes terrain made = cc
headers_keep_terrain End o next sizes terrain made = cc
