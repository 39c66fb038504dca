-- Where no two regions have the same id, an id leads to its region, and to none once that was taken away.
use Rattle.std.proofs.Common.{◌≡◌, ◌≢◌, ℕ, Bool, true, false, cond, not, nat_eq, bytes_eq, if◌then◌else◌, List, [], ◌∷◌, filter, Option, None, Some, refl, ap, sym, ◌∙◌}
use Rattle.std.proofs.lemmas.Bool.{false_from_ne_true}
use Rattle.std.specs.Map.{lookup, remove_entry}
use Rattle.std.proofs.lemmas.Slice.Eq.{bytes_eq-Decides}
use Rattle.vx_region.specs.Forest.{IsNumbered}
use Rattle.vx_region.specs.IdIndex.{first_with, HaveOwnIds, NoneIsGlobal}
use Rattle.vx_region.specs.Regions.{RegionData, Entry, Regions, region_at, number_of, global_id, is_global_id, without_region}
use Rattle.vx_region.proofs.Indexing.{first_is, number_is, same_turned, none_parts, no_such_id, apart, first_there}
use Rattle.vx_region.proofs.Lookups.{lookup_is}
use Rattle.vx_region.proofs.Numbers.{distinct_numbers}
use Rattle.vx_region.proofs.Removals.{is_other, removed_is}

-- the region of a number as the map's look-up finds it
looked_up : (rs : Regions) (n : ℕ) (r : RegionData) → region_at rs n ≡ Some r → lookup (nat_eq n) rs.entries ≡ Some r
unfolding region_at
looked_up rs n r there = lookup_is n rs.entries ∙ there

-- a region has not the id of the world at large
region_is_local : (rs : Regions) (n : ℕ) (r : RegionData) → NoneIsGlobal rs.entries → region_at rs n ≡ Some r → is_global_id r.id ≡ false
unfolding is_global_id
region_is_local rs n r none there = same_turned global_id r.id false (no_such_id n global_id r rs.entries none (looked_up rs n r there))

-- the id of a region leads to its number
pub id_found : (rs : Regions) (n : ℕ) (r : RegionData) → HaveOwnIds rs.entries → NoneIsGlobal rs.entries → region_at rs n ≡ Some r → number_of rs r.id ≡ Some n
id_found rs n r own none there =
    number_is rs r.id (region_is_local rs n r none there) ∙ first_there n r rs.entries own (looked_up rs n r there)

-- fewer regions have no id more
none_filtered : (n : ℕ) (id : List ℕ) (es : List Entry) → first_with es id ≡ None → first_with (filter (is_other n) es) id ≡ None
none_filtered n id [] none = refl
none_filtered n id (e ∷ es) none =
    by (nat_eq n e.0) (none_parts (bytes_eq id e.1.id) e.0 (first_with es id) none) (none_filtered n id es)
  where
    by : (b : Bool) → (bytes_eq id e.1.id ≡ false) × (first_with es id ≡ None)
        → (first_with es id ≡ None → first_with (filter (is_other n) es) id ≡ None)
        → first_with (cond (not b) (e ∷ filter (is_other n) es) (filter (is_other n) es)) id ≡ None
    by true none rest = rest none.1
    by false none rest = ap (λ c. cond c (Some e.0) (first_with (filter (is_other n) es) id)) none.0 ∙ rest none.1

-- without the regions of a number no region has the id of the first of them
first_gone : (n : ℕ) (r : RegionData) (es : List Entry) → HaveOwnIds es → lookup (nat_eq n) es ≡ Some r → first_with (filter (is_other n) es) r.id ≡ None
first_gone n r [] own there = cc
first_gone n r (e ∷ es) own there = by (nat_eq n e.0) there (first_gone n r es own.1)
  where
    by : (b : Bool) → cond b (Some e.1) (lookup (nat_eq n) es) ≡ Some r → (lookup (nat_eq n) es ≡ Some r → first_with (filter (is_other n) es) r.id ≡ None)
        → first_with (cond (not b) (e ∷ filter (is_other n) es) (filter (is_other n) es)) r.id ≡ None
    by true here rest =
        let same : e.1 ≡ r = cc in
        none_filtered n r.id es (ap (λ (d : RegionData). first_with es d.id) (sym same) ∙ own.0)
    by false later rest = ap (λ c. cond c (Some e.0) (first_with (filter (is_other n) es) r.id)) (apart n r e es own.0 later) ∙ rest later

-- an id is free again once its region was taken away
pub id_freed : (rs : Regions) (n : ℕ) (r : RegionData) → HaveOwnIds rs.entries → NoneIsGlobal rs.entries → region_at rs n ≡ Some r
    → number_of (without_region rs n) r.id ≡ None
unfolding without_region
id_freed rs n r own none there =
    number_is (without_region rs n) r.id (region_is_local rs n r none there) ∙ first_gone n r rs.entries own (looked_up rs n r there)

-- each other id has the region that it had
first_kept : (n : ℕ) (r : RegionData) (id : List ℕ) (es : List Entry) → bytes_eq id r.id ≡ false → lookup (nat_eq n) es ≡ Some r
    → first_with (remove_entry (nat_eq n) es) id ≡ first_with es id
first_kept n r id [] other there = refl
first_kept n r id (e ∷ es) other there = by (nat_eq n e.0) there (first_kept n r id es other)
  where
    by : (b : Bool) → cond b (Some e.1) (lookup (nat_eq n) es) ≡ Some r
        → (lookup (nat_eq n) es ≡ Some r → first_with (remove_entry (nat_eq n) es) id ≡ first_with es id)
        → first_with (cond b es (e ∷ remove_entry (nat_eq n) es)) id ≡ cond (bytes_eq id e.1.id) (Some e.0) (first_with es id)
    by true here rest =
        let same : e.1 ≡ r = cc in
        sym (ap (λ c. cond c (Some e.0) (first_with es id)) (ap (λ (d : RegionData). bytes_eq id d.id) same ∙ other))
    by false later rest = ap (cond (bytes_eq id e.1.id) (Some e.0)) (rest later)

number_at : Regions → List ℕ → Option ℕ
unfolding number_of
number_at rs id = if is_global_id id then Some 0 else first_with rs.entries id

number_at_is : (rs : Regions) (id : List ℕ) → number_of rs id ≡ number_at rs id
unfolding number_of number_at
number_at_is rs id = ap (λ o. if is_global_id id then Some 0 else o) (sym (first_is rs.entries id))

pub id_kept : (rs : Regions) (n : ℕ) (r : RegionData) (other : List ℕ) → IsNumbered rs → region_at rs n ≡ Some r → other ≢ r.id
    → number_of (without_region rs n) other ≡ number_of rs other
unfolding without_region number_at
id_kept rs n r other numbered there differs =
    let fails = false_from_ne_true (bytes_eq other r.id) (λ same. differs ((bytes_eq-Decides other r.id).0 same)) in
    number_at_is (without_region rs n) other
    ∙ ap (λ o. if is_global_id other then Some 0 else o)
    (ap (λ es. first_with es other) (sym (removed_is n rs.entries (distinct_numbers 0 rs.entries numbered.ascending)))
    ∙ first_kept n r other rs.entries fails (looked_up rs n r there))
    ∙ sym (number_at_is rs other)
