-- What keeps the index of the ids, and the counts of children, true of the regions.
use Rattle.std.proofs.Common.{◌≡◌, ℕ, ◌+◌, Bool, true, false, cond, nat_eq, nat_lt, bytes_eq, List, [], ◌∷◌, ◌++◌, find, Option, None, Some, option_map, true≢false, arith, refl, ap, sym, ◌∙◌, subst}
use Rattle.std.specs.Map.{lookup, set_value, remove_entry}
use Rattle.std.proofs.lemmas.Bool.{eq-eqb, false_from_ne_true}
use Rattle.std.proofs.lemmas.Slice.Eq.{bytes_eq-Decides}
use borrow.Author.Tests.{eqb-true}
use Rattle.vx_flag.specs.declared.settings.Settings.{Settings}
use Rattle.vx_name.specs.declared.id.Id.{Id}
use Rattle.vx_region.specs.Ancestry.{is_number, has_child}
use Rattle.vx_region.specs.ChildCounts.{children, children_of, counted, Count, IsIdOf}
use Rattle.vx_region.specs.Forest.{IsAscending, IsForest}
use Rattle.vx_name.specs.Ids.{same_id}
use Rattle.vx_region.specs.IdIndex.{first_with, HaveOwnIds}
use Rattle.vx_region.specs.Regions.{RegionData, Entry, Regions, region_at, number_of, global_id, is_global_id}
use Rattle.vx_region.specs.Soundness.{IsSound}
use Rattle.vx_region.proofs.Changes.{pushed, not_global}
use Rattle.vx_region.proofs.Counting.{some_counted, none_counted, children_without, children_same, children_pushed, nobodys_parent, first_has}
use Rattle.vx_region.proofs.Forests.{forest_empty, forest_pushed, forest_written}
use Rattle.vx_region.proofs.Globals.{forest_with_flags}
use Rattle.vx_region.proofs.Lookups.{lookup_is, region_above}
use Rattle.vx_region.proofs.Removals.{forest_without, removed_from}

-- it is the number that a search for the id finds
pub first_is : (es : List Entry) (id : List ℕ) → first_with es id ≡ option_map (λ e. e.0) (find (λ e. bytes_eq id e.1.id) es)
first_is [] id = refl
first_is (e ∷ es) id = by (bytes_eq id e.1.id) (first_is es id)
  where
    found : List Entry → Option Entry
    found ds = find (λ (d : Entry). bytes_eq id d.1.id) ds

    by : (b : Bool) → first_with es id ≡ option_map (λ (d : Entry). d.0) (found es)
        → cond b (Some e.0) (first_with es id) ≡ option_map (λ (d : Entry). d.0) (cond b (Some e) (found es))
    by true rest = refl
    by false rest = rest

-- an id that is not that of the world at large has the number of the first region with it
pub number_is : (rs : Regions) (id : List ℕ) → is_global_id id ≡ false → number_of rs id ≡ first_with rs.entries id
unfolding number_of
number_is rs id local =
    ap (λ b. cond b (Some 0) (option_map (λ (e : Entry). e.0) (find (λ e. bytes_eq id e.1.id) rs.entries))) local ∙ sym (first_is rs.entries id)

-- an id without a number is no region's
pub free_is : (rs : Regions) (id : List ℕ) → number_of rs id ≡ None → first_with rs.entries id ≡ None
unfolding number_of
free_is rs id free = first_is rs.entries id ∙ by (is_global_id id) (option_map (λ (e : Entry). e.0) (find (λ e. bytes_eq id e.1.id) rs.entries)) free
  where
    by : (b : Bool) (o : Option ℕ) → cond b (Some 0) o ≡ None → o ≡ None
    by true o free = cc
    by false o free = free

-- and is not that of the world at large
pub free_is_local : (rs : Regions) (id : List ℕ) → number_of rs id ≡ None → is_global_id id ≡ false
unfolding number_of
free_is_local rs id free = not_global id _ free

pub is_local : (id : List ℕ) → is_global_id id ≡ false → bytes_eq id global_id ≡ false
unfolding is_global_id
is_local id local = local

-- texts compare both ways alike
pub same_turned : (a b : List ℕ) (c : Bool) → bytes_eq a b ≡ c → bytes_eq b a ≡ c
same_turned a b true same = (bytes_eq-Decides b a).1 (sym ((bytes_eq-Decides a b).0 same))
same_turned a b false other = false_from_ne_true (bytes_eq b a) (λ same. cc ((bytes_eq-Decides a b).1 (sym ((bytes_eq-Decides b a).0 same))))

-- where nothing was found, neither the first was it, nor is there one after it
pub none_parts : (b : Bool) (n : ℕ) (o : Option ℕ) → cond b (Some n) o ≡ None → (b ≡ false) × (o ≡ None)
none_parts true n o none = cc
none_parts false n o none = (refl, none)

-- a region that the number finds has none of the ids that no region has
pub no_such_id : (n : ℕ) (id : List ℕ) (r : RegionData) (es : List Entry) → first_with es id ≡ None → lookup (nat_eq n) es ≡ Some r → bytes_eq id r.id ≡ false
no_such_id n id r [] none there = cc
no_such_id n id r (e ∷ es) none there =
    by (nat_eq n e.0) there (none_parts (bytes_eq id e.1.id) e.0 (first_with es id) none) (no_such_id n id r es)
  where
    by : (b : Bool) → cond b (Some e.1) (lookup (nat_eq n) es) ≡ Some r → (bytes_eq id e.1.id ≡ false) × (first_with es id ≡ None)
        → (first_with es id ≡ None → lookup (nat_eq n) es ≡ Some r → bytes_eq id r.id ≡ false) → bytes_eq id r.id ≡ false
    by true here none rest = let same : e.1 ≡ r = cc in subst (λ (d : RegionData). bytes_eq id d.id ≡ false) same none.0
    by false later none rest = rest none.1 later

-- behind an entry with an id of its own, a region has another id
pub apart : (n : ℕ) (r : RegionData) (e : Entry) (es : List Entry) → first_with es e.1.id ≡ None → lookup (nat_eq n) es ≡ Some r → bytes_eq r.id e.1.id ≡ false
apart n r e es own there = same_turned e.1.id r.id false (no_such_id n e.1.id r es own there)

-- the first region with the id of a region is that one
pub first_there : (n : ℕ) (r : RegionData) (es : List Entry) → HaveOwnIds es → lookup (nat_eq n) es ≡ Some r → first_with es r.id ≡ Some n
first_there n r [] own there = cc
first_there n r (e ∷ es) own there = by (nat_eq n e.0) refl there (first_there n r es own.1)
  where
    by : (b : Bool) → nat_eq n e.0 ≡ b → cond b (Some e.1) (lookup (nat_eq n) es) ≡ Some r → (lookup (nat_eq n) es ≡ Some r → first_with es r.id ≡ Some n)
        → cond (bytes_eq r.id e.1.id) (Some e.0) (first_with es r.id) ≡ Some n
    by true is here rest =
        let same : e.1 ≡ r = cc in
        ap (λ b. cond b (Some e.0) (first_with es r.id)) ((bytes_eq-Decides r.id e.1.id).1 (ap (λ (d : RegionData). d.id) (sym same))) ∙ ap Some (sym (eqb-true n e.0 is))
    by false is later rest = ap (λ b. cond b (Some e.0) (first_with es r.id)) (apart n r e es own.0 later) ∙ rest later

module _ (n : ℕ) (r : RegionData) where
  -- one more region, of an id that was free: that id has its number, and each other id what it had
  first_pushed : (id : List ℕ) (es : List Entry) → first_with es r.id ≡ None
      → first_with (es ++ (n, r) ∷ []) id ≡ cond (bytes_eq r.id id) (Some n) (first_with es id)
  first_pushed id [] free = by (bytes_eq r.id id) refl
    where
      by : (b : Bool) → bytes_eq r.id id ≡ b → cond (bytes_eq id r.id) (Some n) None ≡ cond b (Some n) None
      by b is = ap (λ c. cond c (Some n) None) (same_turned r.id id b is)
  first_pushed id (e ∷ es) free = by (bytes_eq r.id id) refl (none_parts (bytes_eq r.id e.1.id) e.0 (first_with es r.id) free) (first_pushed id es)
    where
      by : (b : Bool) → bytes_eq r.id id ≡ b → (bytes_eq r.id e.1.id ≡ false) × (first_with es r.id ≡ None)
          → (first_with es r.id ≡ None → first_with (es ++ (n, r) ∷ []) id ≡ cond (bytes_eq r.id id) (Some n) (first_with es id))
          → cond (bytes_eq id e.1.id) (Some e.0) (first_with (es ++ (n, r) ∷ []) id) ≡ cond b (Some n) (cond (bytes_eq id e.1.id) (Some e.0) (first_with es id))
      by true is free rest =
          ap (λ i. cond (bytes_eq i e.1.id) (Some e.0) (first_with (es ++ (n, r) ∷ []) id)) (sym ((bytes_eq-Decides r.id id).0 is))
          ∙ ap (λ c. cond c (Some e.0) (first_with (es ++ (n, r) ∷ []) id)) free.0 ∙ rest free.1 ∙ ap (λ c. cond c (Some n) (first_with es id)) is
      by false is free rest =
          ap (cond (bytes_eq id e.1.id) (Some e.0)) (rest free.1 ∙ ap (λ c. cond c (Some n) (first_with es id)) is)

  own_pushed : (es : List Entry) → first_with es r.id ≡ None → HaveOwnIds es → HaveOwnIds (es ++ (n, r) ∷ [])
  own_pushed [] free own = (refl, tt)
  own_pushed (e ∷ es) free own =
      let parts = none_parts (bytes_eq r.id e.1.id) e.0 (first_with es r.id) free in
      (first_pushed e.1.id es parts.1 ∙ ap (λ c. cond c (Some n) (first_with es e.1.id)) parts.0 ∙ own.0, own_pushed es parts.1 own.1)

module _ (n : ℕ) (r w : RegionData) (kept : w.id ≡ r.id) where
  -- a region written over by one of the same id: each id has the number that it had
  first_written : (id : List ℕ) (es : List Entry) → lookup (nat_eq n) es ≡ Some r → first_with (set_value (nat_eq n) es w) id ≡ first_with es id
  first_written id [] there = refl
  first_written id (e ∷ es) there = by (nat_eq n e.0) there (first_written id es)
    where
      by : (b : Bool) → cond b (Some e.1) (lookup (nat_eq n) es) ≡ Some r
          → (lookup (nat_eq n) es ≡ Some r → first_with (set_value (nat_eq n) es w) id ≡ first_with es id)
          → first_with (cond b ((e.0, w) ∷ es) (e ∷ set_value (nat_eq n) es w)) id ≡ cond (bytes_eq id e.1.id) (Some e.0) (first_with es id)
      by true here rest =
          let same : e.1 ≡ r = cc in
          ap (λ i. cond (bytes_eq id i) (Some e.0) (first_with es id)) (kept ∙ sym (ap (λ (d : RegionData). d.id) same))
      by false later rest = ap (cond (bytes_eq id e.1.id) (Some e.0)) (rest later)

  own_written : (es : List Entry) → lookup (nat_eq n) es ≡ Some r → HaveOwnIds es → HaveOwnIds (set_value (nat_eq n) es w)
  own_written [] there own = tt
  own_written (e ∷ es) there own = by (nat_eq n e.0) there (own_written es)
    where
      by : (b : Bool) → cond b (Some e.1) (lookup (nat_eq n) es) ≡ Some r
          → (lookup (nat_eq n) es ≡ Some r → HaveOwnIds es → HaveOwnIds (set_value (nat_eq n) es w))
          → HaveOwnIds (cond b ((e.0, w) ∷ es) (e ∷ set_value (nat_eq n) es w))
      by true here rest =
          let same : e.1 ≡ r = cc in
          (ap (first_with es) (kept ∙ sym (ap (λ (d : RegionData). d.id) same)) ∙ own.0, own.1)
      by false later rest = (first_written e.1.id es later ∙ own.0, rest later own.1)

-- without a region there is no id more
none_without : (n : ℕ) (id : List ℕ) (es : List Entry) → first_with es id ≡ None → first_with (remove_entry (nat_eq n) es) id ≡ None
none_without n id [] none = refl
none_without n id (e ∷ es) none =
    by (nat_eq n e.0) (none_parts (bytes_eq id e.1.id) e.0 (first_with es id) none) (none_without n id es)
  where
    by : (b : Bool) → (bytes_eq id e.1.id ≡ false) × (first_with es id ≡ None)
        → (first_with es id ≡ None → first_with (remove_entry (nat_eq n) es) id ≡ None)
        → first_with (cond b es (e ∷ remove_entry (nat_eq n) es)) id ≡ None
    by true none rest = none.1
    by false none rest = ap (λ c. cond c (Some e.0) (first_with (remove_entry (nat_eq n) es) id)) none.0 ∙ rest none.1

own_without : (n : ℕ) (es : List Entry) → HaveOwnIds es → HaveOwnIds (remove_entry (nat_eq n) es)
own_without n [] own = tt
own_without n (e ∷ es) own = by (nat_eq n e.0) (own_without n es own.1)
  where
    by : (b : Bool) → HaveOwnIds (remove_entry (nat_eq n) es) → HaveOwnIds (cond b es (e ∷ remove_entry (nat_eq n) es))
    by true rest = own.1
    by false rest = (none_without n e.1.id es own.0, rest)

-- a region taken away: its id has no number, and each other id the number that it had
first_without : (n : ℕ) (r : RegionData) (id : List ℕ) (es : List Entry) → lookup (nat_eq n) es ≡ Some r → HaveOwnIds es
    → first_with (remove_entry (nat_eq n) es) id ≡ cond (bytes_eq r.id id) None (first_with es id)
first_without n r id [] there own = cc
first_without n r id (e ∷ es) there own = by (nat_eq n e.0) there (first_without n r id es)
  where
    here : (b : Bool) → bytes_eq e.1.id id ≡ b → first_with es id ≡ cond b None (cond (bytes_eq id e.1.id) (Some e.0) (first_with es id))
    here true is = ap (first_with es) (sym ((bytes_eq-Decides e.1.id id).0 is)) ∙ own.0
    here false is = sym (ap (λ c. cond c (Some e.0) (first_with es id)) (same_turned e.1.id id false is))

    later : (b : Bool) → bytes_eq r.id id ≡ b → bytes_eq e.1.id r.id ≡ false
        → first_with (remove_entry (nat_eq n) es) id ≡ cond (bytes_eq r.id id) None (first_with es id)
        → cond (bytes_eq id e.1.id) (Some e.0) (first_with (remove_entry (nat_eq n) es) id) ≡ cond b None (cond (bytes_eq id e.1.id) (Some e.0) (first_with es id))
    later true is apart rest =
        ap (λ i. cond (bytes_eq i e.1.id) (Some e.0) (first_with (remove_entry (nat_eq n) es) id)) (sym ((bytes_eq-Decides r.id id).0 is))
        ∙ ap (λ c. cond c (Some e.0) (first_with (remove_entry (nat_eq n) es) id)) (same_turned e.1.id r.id false apart)
        ∙ rest ∙ ap (λ c. cond c None (first_with es id)) is
    later false is apart rest = ap (cond (bytes_eq id e.1.id) (Some e.0)) (rest ∙ ap (λ c. cond c None (first_with es id)) is)

    by : (b : Bool) → cond b (Some e.1) (lookup (nat_eq n) es) ≡ Some r
        → (lookup (nat_eq n) es ≡ Some r → HaveOwnIds es → first_with (remove_entry (nat_eq n) es) id ≡ cond (bytes_eq r.id id) None (first_with es id))
        → first_with (cond b es (e ∷ remove_entry (nat_eq n) es)) id ≡ cond (bytes_eq r.id id) None (cond (bytes_eq id e.1.id) (Some e.0) (first_with es id))
    by true found rest =
        let same : e.1 ≡ r = cc in
        here (bytes_eq e.1.id id) refl ∙ ap (λ (d : RegionData). cond (bytes_eq d.id id) None (cond (bytes_eq id e.1.id) (Some e.0) (first_with es id))) same
    by false found rest = later (bytes_eq r.id id) refl (no_such_id n e.1.id r es own.0 found) (rest found own.1)

-- the id of a region is no other's
pub is_id_of : (n : ℕ) (r : RegionData) (id : Id) (es : List Entry) → IsAscending 0 es → HaveOwnIds es → lookup (nat_eq n) es ≡ Some r
    → id.text.bytes ≡ r.id → IsIdOf id n es
is_id_of n r id es up own there is q = by (bytes_eq id.text.bytes q.text.bytes) refl (first_with es q.text.bytes) refl
  where
    by : (b : Bool) → bytes_eq id.text.bytes q.text.bytes ≡ b → (o : Option ℕ) → first_with es q.text.bytes ≡ o → b ≡ is_number n o
    by true same o found =
        let number : o ≡ Some n = sym found ∙ ap (first_with es) (sym ((bytes_eq-Decides id.text.bytes q.text.bytes).0 same) ∙ is) ∙ first_there n r es own there in
        sym (ap (is_number n) number ∙ eq-eqb n n refl)
    by false other None found = refl
    by false other (Some k) found =
        sym (false_from_ne_true (nat_eq n k) (λ same.
        let has : bytes_eq q.text.bytes r.id ≡ true = first_has 0 n r q.text.bytes es up (found ∙ ap Some (sym (eqb-true n k same))) there in
        let text : id.text.bytes ≡ q.text.bytes = is ∙ sym ((bytes_eq-Decides q.text.bytes r.id).0 has) in
        true≢false (sym ((bytes_eq-Decides id.text.bytes q.text.bytes).1 text) ∙ other)))

-- what the index has for an id that is not that of the world at large is the number of its region
pub number_found : (rs : Regions) (index counts : List (Id × ℕ)) (id : Id) (o : Option ℕ) → is_global_id id.text.bytes ≡ false
    → o ≡ lookup (same_id id) index → IsSound rs index counts → o ≡ number_of rs id.text.bytes
number_found rs index counts id o local found sound = found ∙ sound.indexed id ∙ sym (number_is rs id.text.bytes local)

-- a region has children where at least one is counted for its id
pub children_read : (rs : Regions) (index counts : List (Id × ℕ)) (n : ℕ) (r : RegionData) (id : Id) (k : ℕ) → region_at rs n ≡ Some r → id.text.bytes ≡ r.id
    → k ≡ counted counts id → IsSound rs index counts → nat_lt 0 k ≡ has_child rs n
unfolding has_child region_at
children_read rs index counts n r id k there is read sound =
    ap (nat_lt 0) (read ∙ sound.counted id
    ∙ ap (children_of rs.entries) (ap (first_with rs.entries) is ∙ first_there n r rs.entries sound.own_ids (lookup_is n rs.entries ∙ there)))
    ∙ some_counted n rs.entries

-- no regions, an empty index and no counts
pub sound_empty : (rs : Regions) (index counts : List (Id × ℕ)) → rs.entries ≡ [] → index ≡ [] → counts ≡ [] → IsSound rs index counts
sound_empty rs index counts none bare zero = record {
  forest = forest_empty rs none;
  own_ids = subst HaveOwnIds (sym none) tt;
  none_global = ap (λ es. first_with es global_id) none;
  indexed = λ id. ap (lookup (same_id id)) bare ∙ ap (λ es. first_with es id.text.bytes) (sym none);
  counted = λ id. ap (λ c. counted c id) zero ∙ ap (λ es. children_of es (first_with es id.text.bytes)) (sym none);
}

-- one more region, without a parent, has no children, and each other region those that it had
count_pushed : (rs : Regions) (r : RegionData) (counts : List (Id × ℕ)) → r.parent ≡ None → first_with rs.entries r.id ≡ None → IsForest rs
    → Count counts rs.entries rs.entries → Count counts (pushed rs r).entries (pushed rs r).entries
count_pushed rs r counts orphan free forest count id =
    count id ∙ by (bytes_eq r.id id.text.bytes) refl ∙ ap (children_of (pushed rs r).entries) (sym (first_pushed (rs.last + 1) r id.text.bytes rs.entries free))
  where
    kept : (o : Option ℕ) → children_of rs.entries o ≡ children_of (pushed rs r).entries o
    kept None = refl
    kept (Some n) = sym (children_pushed n (rs.last + 1, r) rs.entries orphan)

    by : (b : Bool) → bytes_eq r.id id.text.bytes ≡ b
        → children_of rs.entries (first_with rs.entries id.text.bytes)
        ≡ children_of (pushed rs r).entries (cond b (Some (rs.last + 1)) (first_with rs.entries id.text.bytes))
    by true same =
        ap (λ i. children_of rs.entries (first_with rs.entries i)) (sym ((bytes_eq-Decides r.id id.text.bytes).0 same)) ∙ ap (children_of rs.entries) free
        ∙ sym (nobodys_parent rs (rs.last + 1) forest (region_above rs (rs.last + 1) forest.numbered (omega arith)))
        ∙ sym (children_pushed (rs.last + 1) (rs.last + 1, r) rs.entries orphan)
    by false other = kept (first_with rs.entries id.text.bytes)

-- one more region, without a parent, under the next number, and its id put into the index
pub sound_pushed : (rs : Regions) (r : RegionData) (index new counts : List (Id × ℕ)) → r.parent ≡ None → first_with rs.entries r.id ≡ None
    → is_global_id r.id ≡ false → ((id : Id) → lookup (same_id id) new ≡ cond (bytes_eq r.id id.text.bytes) (Some (rs.last + 1)) (lookup (same_id id) index))
    → IsSound rs index counts → IsSound (pushed rs r) new counts
sound_pushed rs r index new counts orphan free local put sound = record {
  forest = forest_pushed rs r orphan sound.forest;
  own_ids = own_pushed (rs.last + 1) r rs.entries free sound.own_ids;
  none_global = first_pushed (rs.last + 1) r global_id rs.entries free ∙ ap (λ b. cond b (Some (rs.last + 1)) (first_with rs.entries global_id)) (is_local r.id local)
      ∙ sound.none_global;
  indexed = λ id. put id ∙ ap (cond (bytes_eq r.id id.text.bytes) (Some (rs.last + 1))) (sound.indexed id)
      ∙ sym (first_pushed (rs.last + 1) r id.text.bytes rs.entries free);
  counted = count_pushed rs r counts orphan free sound.forest sound.counted;
}

-- a region written over by one of the same id, which leaves a forest, and counts of the children then
pub sound_kept : (n : ℕ) (rs : Regions) (index counts new : List (Id × ℕ)) (fs : List Entry) (r w : RegionData)
    → lookup (nat_eq n) rs.entries ≡ Some r → fs ≡ set_value (nat_eq n) rs.entries w → w.id ≡ r.id
    → IsForest (record rs { entries = fs }) → Count new rs.entries (set_value (nat_eq n) rs.entries w) → IsSound rs index counts
    → IsSound (record rs { entries = fs }) index new
sound_kept n rs index counts new fs r w there written kept forest count sound = record {
  forest = forest;
  own_ids = subst HaveOwnIds (sym written) (own_written n r w kept rs.entries there sound.own_ids);
  none_global = ap (λ es. first_with es global_id) written ∙ first_written n r w kept global_id rs.entries there ∙ sound.none_global;
  indexed = λ id. sound.indexed id ∙ sym (ap (λ es. first_with es id.text.bytes) written ∙ first_written n r w kept id.text.bytes rs.entries there);
  counted = λ id. count id ∙ sym (ap (children_of (set_value (nat_eq n) rs.entries w)) (first_written n r w kept id.text.bytes rs.entries there))
      ∙ ap (λ es. children_of es (first_with es id.text.bytes)) (sym written);
}

-- and by one of the same id and parent
pub sound_written : (n : ℕ) (rs : Regions) (index counts : List (Id × ℕ)) (fs : List Entry) (r w : RegionData)
    → lookup (nat_eq n) rs.entries ≡ Some r → fs ≡ set_value (nat_eq n) rs.entries w → w.parent ≡ r.parent → w.id ≡ r.id
    → IsSound rs index counts → IsSound (record rs { entries = fs }) index counts
sound_written n rs index counts fs r w there written same kept sound =
    sound_kept n rs index counts counts fs r w there written kept (forest_written n rs fs r w there written same sound.forest)
    (λ id. sound.counted id ∙ by (first_with rs.entries id.text.bytes)) sound
  where
    by : (o : Option ℕ) → children_of rs.entries o ≡ children_of (set_value (nat_eq n) rs.entries w) o
    by None = refl
    by (Some m) = children_same m n r w rs.entries there same

-- other flags of the world at large
pub sound_with_flags : (rs : Regions) (index counts : List (Id × ℕ)) (flags : Settings) → IsSound rs index counts → IsSound (record rs { global = flags }) index counts
sound_with_flags rs index counts flags sound = record {
  forest = forest_with_flags rs flags sound.forest;
  own_ids = sound.own_ids;
  none_global = sound.none_global;
  indexed = sound.indexed;
  counted = sound.counted;
}

-- without a region that has no children each other one has those that are left
count_without : (n : ℕ) (rs : Regions) (r : RegionData) (counts : List (Id × ℕ)) → has_child rs n ≡ false → lookup (nat_eq n) rs.entries ≡ Some r
    → HaveOwnIds rs.entries → Count counts rs.entries (remove_entry (nat_eq n) rs.entries)
    → Count counts (remove_entry (nat_eq n) rs.entries) (remove_entry (nat_eq n) rs.entries)
unfolding has_child
count_without n rs r counts childless there own count id =
    count id ∙ by (bytes_eq r.id id.text.bytes) refl ∙ ap (children_of (remove_entry (nat_eq n) rs.entries)) (sym (first_without n r id.text.bytes rs.entries there own))
  where
    none : children n (remove_entry (nat_eq n) rs.entries) ≡ 0
    none = omega (arith, none_counted n rs.entries childless, children_without n n r rs.entries there)

    by : (b : Bool) → bytes_eq r.id id.text.bytes ≡ b
        → children_of (remove_entry (nat_eq n) rs.entries) (first_with rs.entries id.text.bytes)
        ≡ children_of (remove_entry (nat_eq n) rs.entries) (cond b None (first_with rs.entries id.text.bytes))
    by true same =
        ap (λ i. children_of (remove_entry (nat_eq n) rs.entries) (first_with rs.entries i)) (sym ((bytes_eq-Decides r.id id.text.bytes).0 same))
        ∙ ap (children_of (remove_entry (nat_eq n) rs.entries)) (first_there n r rs.entries own there) ∙ none
    by false other = refl

-- a region without children taken away, its id out of the index, and itself out of the counts
pub sound_without : (n : ℕ) (rs : Regions) (r : RegionData) (index new counts fewer : List (Id × ℕ)) (fs : List Entry) → has_child rs n ≡ false
    → lookup (nat_eq n) rs.entries ≡ Some r → fs ≡ remove_entry (nat_eq n) rs.entries
    → ((id : Id) → lookup (same_id id) new ≡ cond (bytes_eq r.id id.text.bytes) None (lookup (same_id id) index))
    → Count fewer rs.entries (remove_entry (nat_eq n) rs.entries) → IsSound rs index counts → IsSound (record rs { entries = fs }) new fewer
sound_without n rs r index new counts fewer fs childless there removed out count sound = record {
  forest = subst IsForest (sym (removed_from rs n fs sound.forest removed)) (forest_without rs n childless sound.forest);
  own_ids = subst HaveOwnIds (sym removed) (own_without n rs.entries sound.own_ids);
  none_global = ap (λ es. first_with es global_id) removed ∙ none_without n global_id rs.entries sound.none_global;
  indexed = λ id. out id ∙ ap (cond (bytes_eq r.id id.text.bytes) None) (sound.indexed id)
      ∙ sym (ap (λ es. first_with es id.text.bytes) removed ∙ first_without n r id.text.bytes rs.entries there sound.own_ids);
  counted = subst (λ es. Count fewer es es) (sym removed) (count_without n rs r fewer childless there sound.own_ids count);
}
