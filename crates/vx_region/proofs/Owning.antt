-- What a set is after one region of it was made its own and written over.
use Rattle.std.proofs.Common.{◌≡◌, ℕ, nat_eq, List, Some}
use Rattle.std.specs.Map.{lookup, set_value}
use Rattle.vx_name.specs.declared.id.Id.{Id}
use Rattle.vx_region.specs.ChildCounts.{Count}
use Rattle.vx_region.specs.Forest.{IsForest}
use Rattle.vx_region.specs.Regions.{RegionData, Entry, Regions, changed}
use Rattle.vx_region.specs.Soundness.{IsSound}
use Rattle.vx_region.proofs.Indexing.{sound_kept, sound_written}
use Rattle.vx_region.proofs.Lookups.{written_over, written_back}
use Rattle.vx_region.proofs.Numbers.{distinct_numbers}

-- a region became the set's own, and was then written over
module _ (n : ℕ) (rs : Regions) (fs : List Entry) (own last : RegionData)
    (there : lookup (nat_eq n) rs.entries ≡ Some own) (written : fs ≡ set_value (nat_eq n) rs.entries last) where
  -- one left as it was leaves the set as it was
  pub left_back : last ≡ own → record rs { entries = fs } ≡ rs
  left_back same = written_back n rs fs own last there written same

  pub over_sound : last.parent ≡ own.parent → last.id ≡ own.id → (index counts : List (Id × ℕ)) → IsSound rs index counts
      → IsSound (record rs { entries = fs }) index counts
  over_sound same kept index counts sound = sound_written n rs index counts fs own last there written same kept sound

  pub over_kept : last.id ≡ own.id → IsForest (record rs { entries = fs }) → (index counts new : List (Id × ℕ))
      → Count new rs.entries (set_value (nat_eq n) rs.entries last) → IsSound rs index counts → IsSound (record rs { entries = fs }) index new
  over_kept kept forest index counts new count sound = sound_kept n rs index counts new fs own last there written kept forest count sound

  pub over_changed : (change : RegionData → RegionData) → IsForest rs → last ≡ change own → record rs { entries = fs } ≡ changed change n rs
  over_changed change forest same =
      written_over change n rs fs own last (distinct_numbers 0 rs.entries forest.numbered.ascending) there written same
