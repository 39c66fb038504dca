-- Ids in parts, of whatever has ids: an id is found in its part, and a change of a part changes that id alone.
use Rattle.std.proofs.Common.{◌≡◌, ◌≢◌, ◌⊎◌, inl, inr, ℕ, ◌/◌, ◌%◌, ◌<◌, nat_eq, false, cond, List, [], ◌∷◌, map, replicate, slice_set, slice_index_or, Option, arith, refl, ap, sym, ◌∙◌, subst}
use Rattle.std.proofs.Math.ListN.{get_or-map}
use Rattle.std.proofs.lemmas.Bool.{false_from_ne_true}
use Rattle.std.proofs.lemmas.List.{map-set}
use Rattle.std.specs.Global.{Vec}
use Rattle.std.specs.List.{AllZip}
use Rattle.std.specs.Map.{lookup}
use Rattle.std.proofs.lemmas.Slice.Eq.{bytes_eq-Decides}
use Rattle.vx_base.specs.Parts as parted_by
use Rattle.vx_base.proofs.Parts as parts
pub use Rattle.vx_base.proofs.Parts.{none_of}
use Rattle.vx_name.specs.declared.id.Id.{Id}
use Rattle.vx_name.specs.declared.parted.TheConstants.{PARTS, INNER}
use Rattle.vx_name.specs.Ids.{same_id}
use Rattle.vx_name.specs.IdParts.{IdList, hash_of, hash_of_id, part_of, part_of_id, ids_of, AreParted}
use Rattle.vx_name.specs.IdUpdates.{IsUpdated}

-- a rest is less than what leaves it
rest_below : (n : ℕ) → n % PARTS < PARTS
rest_below n = omega arith

-- each part is one of all
part_below : (level : ℕ) (id : Id) → part_of_id level id < PARTS
unfolding part_of
part_below level id = rest_below (cond (nat_eq level INNER) (hash_of_id id) (hash_of_id id / PARTS))

-- the part of an id's hash is that of the id
pub part_number : (level : ℕ) (id : Id) (hash k : ℕ) → k ≡ part_of level hash → hash ≡ hash_of_id id → k ≡ part_of_id level id
part_number level id hash k is hashed = is ∙ ap (part_of level) hashed

-- ids in different parts are not the same
other_part : (level : ℕ) (a b : Id) → part_of_id level a ≢ part_of_id level b → same_id a b ≡ false
other_part level a b apart =
    false_from_ne_true (same_id a b) (λ same. apart (ap (λ bytes. part_of level (hash_of bytes)) ((bytes_eq-Decides a.text.bytes b.text.bytes).0 same)))

module _ {P : Type 0} (ids : P → IdList) where
  -- the parts that were taken to write have what those have that were shared
  pub parts_taken : (IsClone : P → P → Type 0) → ((part copy : P) → IsClone part copy → ids copy ≡ ids part)
      → (old new : Vec P) → (new ≡ old) ⊎ (AllZip IsClone old.items new.items × (new.len ≡ old.len))
      → map ids new.items ≡ map ids old.items
  parts_taken IsClone copied old new (inl same) = ap (λ (v : Vec P). map ids v.items) same
  parts_taken IsClone copied old new (inr all) = each_taken old.items new.items all.0
    where
      each_taken : (these those : List P) → AllZip IsClone these those → map ids those ≡ map ids these
      each_taken [] [] all = refl
      each_taken [] (q ∷ those) all = elim all [ ]
      each_taken (p ∷ these) [] all = elim all [ ]
      each_taken (p ∷ these) (q ∷ those) all = λ i. copied p q all.0 i ∷ each_taken these those all.1 i

  module _ (level : ℕ) where
    -- parts that have the same ids are parted alike
    pub parted_alike : (these those : List P) → map ids those ≡ map ids these → AreParted ids level these → AreParted ids level those
    parted_alike these those same parted = subst (parted_by.AreParted same_id (part_of_id level) PARTS) (sym same) parted

    -- parts without an id
    pub parted_empty : (held : List P) (n : ℕ) → map ids held ≡ replicate n [] → n ≡ PARTS → AreParted ids level held
    parted_empty held n none is = parts.parted_empty same_id (part_of_id level) PARTS (part_below level) (other_part level) (map ids held) n none is

    read_ids : (held : List P) (k : ℕ) (part : P) → part ≡ slice_index_or held k part → ids part ≡ slice_index_or (map ids held) k (ids part)
    read_ids held k part read = ap ids read ∙ sym (get_or-map ids held k part)

    -- what is read at the number of an id's part is that part
    pub read_in_part : (held : List P) (id : Id) (k : ℕ) (part : P) → AreParted ids level held → k ≡ part_of_id level id → part ≡ slice_index_or held k part
        → lookup (same_id id) (ids part) ≡ lookup (same_id id) (ids_of ids held)
    read_in_part held id k part parted is read =
        parts.read_in_part same_id (part_of_id level) PARTS (part_below level) (other_part level) (map ids held) id k (ids part) parted is (read_ids held k part read)

    -- a part that became its owner's own, and was then changed for one id, or left
    module _ (old own : List P) (id : Id) (k : ℕ) (part new : P) (parted : AreParted ids level old) (copied : map ids own ≡ map ids old) (is : k ≡ part_of_id level id) (read : part ≡ slice_index_or own k part) where
      pub part_left : ids new ≡ ids part → map ids (slice_set own k new) ≡ map ids old
      part_left left =
          map-set ids own k new
          ∙ parts.part_left same_id (part_of_id level) PARTS (part_below level) (other_part level) (map ids old) (map ids own) id k (ids part) (ids new)
          parted copied is (read_ids own k part read) left

      pub part_changed : (number : Option ℕ) → IsUpdated id number (ids part) (ids new)
          → AreParted ids level (slice_set own k new) × IsUpdated id number (ids_of ids old) (ids_of ids (slice_set own k new))
      part_changed number updated =
          let all = parts.part_changed same_id (part_of_id level) PARTS (part_below level) (other_part level) (map ids old) (map ids own) id k (ids part) (ids new)
          parted copied is (read_ids own k part read) number updated in
          let put = sym (map-set ids own k new) in (
            subst (parted_by.AreParted same_id (part_of_id level) PARTS) put all.0,
            subst (λ (held : List IdList). IsUpdated id number (ids_of ids old) (parted_by.all_of held)) put all.1,
          )
