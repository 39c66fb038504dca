-- Chests in parts, of whatever has chests: a chest is found in its part, and a change of a part
-- changes that chest alone.
use Rattle.std.proofs.Common.{◌≡◌, ◌≢◌, ◌⊎◌, inl, inr, ℕ, ◌/◌, ◌%◌, ◌<◌, false, nat_eq, List, [], ◌∷◌, length, map, refl, Result, Ok, Err, OnOk, OnErr, replicate, slice_get, slice_set, slice_index_or, Option, Some, arith, ap, sym, ◌∙◌, subst}
use Rattle.std.specs.Global.{Vec}
use Rattle.std.specs.List.{AllZip}
use Rattle.std.specs.Map.{update}
use Rattle.std.proofs.Math.ListN.{get_or-map}
use Rattle.std.proofs.lemmas.Bool.{cases_eq, ne_eqb}
use Rattle.std.proofs.lemmas.List.{length-map, map-set}
use Rattle.std.proofs.lemmas.Map.{update_here, update_apart}
use Rattle.std.proofs.lemmas.Option.{slice_get-map}
use Rattle.std.specs.Option.{option_map}
use Rattle.vx_base.specs.Parts.{all_of}
use Rattle.vx_base.specs.Parts as parted_by
use Rattle.vx_base.proofs.Parts as parts
pub use Rattle.vx_base.proofs.Parts.{none_of}
use Rattle.vx_store.specs.Chests.{Slots, ChestData, slots_of_chest, Changes, SameSlots}
use Rattle.vx_store.specs.ChestParts.{part_of, chests_of, AreParted}
use Rattle.vx_store.specs.declared.parted.TheConstants.{PARTS}

-- a rest is less than what leaves it
rest_below : (n : ℕ) → n % PARTS < PARTS
rest_below n = omega arith

-- each part is one of all
pub part_below : (stride index : ℕ) → part_of stride index < PARTS
unfolding part_of
part_below stride index = rest_below (index / stride)

-- indices in different parts are not the same
other_part : (stride a b : ℕ) → part_of stride a ≢ part_of stride b → nat_eq a b ≡ false
other_part stride a b apart = ne_eqb a b (λ same. apart (ap (part_of stride) same))

module _ {P : Type 0} (chests : P → ChestData) where
  -- the parts that were taken to write have what those have that were shared
  pub parts_taken : (IsClone : P → P → Type 0) → ((part copy : P) → IsClone part copy → chests copy ≡ chests part)
      → (old new : Vec P) → (new ≡ old) ⊎ (AllZip IsClone old.items new.items × (new.len ≡ old.len))
      → map chests new.items ≡ map chests old.items
  parts_taken IsClone copied old new (inl same) = ap (λ (v : Vec P). map chests v.items) same
  parts_taken IsClone copied old new (inr all) = each_taken old.items new.items all.0
    where
      each_taken : (these those : List P) → AllZip IsClone these those → map chests those ≡ map chests these
      each_taken [] [] all = refl
      each_taken [] (q ∷ those) all = elim all [ ]
      each_taken (p ∷ these) [] all = elim all [ ]
      each_taken (p ∷ these) (q ∷ those) all = λ i. copied p q all.0 i ∷ each_taken these those all.1 i

  module _ (stride : ℕ) where
    -- parts that have the same chests are parted alike
    pub parted_alike : (these those : List P) → map chests those ≡ map chests these → AreParted chests stride these → AreParted chests stride those
    parted_alike these those same parted = (parted.0, subst (parted_by.AreParted nat_eq (part_of stride) PARTS) (sym same) parted.1)

    -- there are as many parts as there are numbers of parts
    pub parts_counted : (held : List P) → AreParted chests stride held → length held ≡ PARTS
    parts_counted held parted = sym (length-map held chests) ∙ parted.1.count

    -- parts without a chest
    pub parted_empty : (held : List P) (n : ℕ) → map chests held ≡ replicate n [] → n ≡ PARTS → 0 < stride → AreParted chests stride held
    parted_empty held n none is some = (some, parts.parted_empty nat_eq (part_of stride) PARTS (part_below stride) (other_part stride) (map chests held) n none is)

    read_chests : (held : List P) (k : ℕ) (part : P) → part ≡ slice_index_or held k part → chests part ≡ slice_index_or (map chests held) k (chests part)
    read_chests held k part read = ap chests read ∙ sym (get_or-map chests held k part)

    -- what is read at the number of an index's part is that part
    pub read_in_part : (held : List P) (index k : ℕ) (part : P) → AreParted chests stride held → k ≡ part_of stride index → part ≡ slice_index_or held k part
        → slots_of_chest (chests part) index ≡ slots_of_chest (chests_of chests held) index
    read_in_part held index k part parted is read =
        parts.read_in_part nat_eq (part_of stride) PARTS (part_below stride) (other_part stride) (map chests held) index k (chests part) parted.1 is (read_chests held k part read)

    -- a part that became its owner's own, and whose chest at one index then changed, or none
    module _ (old own : List P) (index k : ℕ) (part new : P) (parted : AreParted chests stride old) (copied : map chests own ≡ map chests old) (is : k ≡ part_of stride index) (read : part ≡ slice_index_or own k part) where
      -- in its part the index has what it has in all
      pub same_there : slots_of_chest (chests part) index ≡ slots_of_chest (chests_of chests old) index
      same_there =
          parts.same_there nat_eq (part_of stride) PARTS (part_below stride) (other_part stride) (map chests old) (map chests own) index k (chests part) (chests new)
          parted.1 copied is (read_chests own k part read)

      pub part_left : chests new ≡ chests part → map chests (slice_set own k new) ≡ map chests old
      part_left left =
          map-set chests own k new
          ∙ parts.part_left nat_eq (part_of stride) PARTS (part_below stride) (other_part stride) (map chests old) (map chests own) index k (chests part) (chests new)
          parted.1 copied is (read_chests own k part read) left

      pub part_changed : (slots : Option Slots) → Changes (chests part) (chests new) index slots
          → AreParted chests stride (slice_set own k new) × Changes (chests_of chests old) (chests_of chests (slice_set own k new)) index slots
      part_changed slots changed =
          let all = parts.part_changed nat_eq (part_of stride) PARTS (part_below stride) (other_part stride) (map chests old) (map chests own) index k (chests part) (chests new)
          parted.1 copied is (read_chests own k part read) slots changed in
          let put = sym (map-set chests own k new) in (
            (parted.0, subst (parted_by.AreParted nat_eq (part_of stride) PARTS) put all.0),
            subst (λ (held : List ChestData). Changes (chests_of chests old) (all_of held) index slots) put all.1,
          )

      -- where each chest of the part has what it had, each chest of all has
      pub part_still : SameSlots (chests part) (chests new)
          → AreParted chests stride (slice_set own k new) × SameSlots (chests_of chests old) (chests_of chests (slice_set own k new))
      part_still same =
          let all = part_changed (slots_of_chest (chests part) index) (λ q. same q ∙ here (chests part) q (cases_eq q index)) in
          (all.0, λ q. all.1 q ∙ ap (λ o. update nat_eq (slots_of_chest (chests_of chests old)) index o q) same_there ∙ sym (here (chests_of chests old) q (cases_eq q index)))
        where
          here : (all : ChestData) (q : ℕ) → (q ≡ index) ⊎ (q ≢ index) → slots_of_chest all q ≡ update nat_eq (slots_of_chest all) index (slots_of_chest all index) q
          here all q (inl at) =
              ap (slots_of_chest all) at ∙ sym (update_here (slots_of_chest all) index (slots_of_chest all index))
              ∙ ap (update nat_eq (slots_of_chest all) index (slots_of_chest all index)) (sym at)
          here all q (inr apart) = sym (update_apart (slots_of_chest all) index (slots_of_chest all index) q apart)

    -- the same at each index, part by part
    module _ (these those : List P) (mine : AreParted chests stride these) (theirs : AreParted chests stride those) (k : ℕ) (part other : P) (here : slice_get these k ≡ Some part) (there : slice_get those k ≡ Some other) where
      stands_mapped : (held : List P) (part : P) → slice_get held k ≡ Some part → slice_get (map chests held) k ≡ Some (chests part)
      stands_mapped held part stands = slice_get-map chests held k ∙ ap (option_map chests) stands

      found : (held : List P) (index : ℕ) (part : P) → AreParted chests stride held → slice_get held k ≡ Some part → part_of stride index ≡ k
          → slots_of_chest (chests_of chests held) index ≡ slots_of_chest (chests part) index
      found held index part parted stands at =
          parts.found_in_part nat_eq (part_of stride) PARTS (part_below stride) (other_part stride) (map chests held) index (chests part) parted.1
          (ap (slice_get (map chests held)) at ∙ stands_mapped held part stands)

      pub alike_by_part : ((index : ℕ) → slots_of_chest (chests part) index ≡ slots_of_chest (chests other) index) → (index : ℕ) → part_of stride index ≡ k
          → slots_of_chest (chests_of chests these) index ≡ slots_of_chest (chests_of chests those) index
      alike_by_part same index at = found these index part mine here at ∙ same index ∙ sym (found those index other theirs there at)

      pub part_by_alike : ((index : ℕ) → slots_of_chest (chests_of chests these) index ≡ slots_of_chest (chests_of chests those) index)
          → (index : ℕ) → slots_of_chest (chests part) index ≡ slots_of_chest (chests other) index
      part_by_alike same index = by (cases_eq (part_of stride index) k)
        where
          by : (part_of stride index ≡ k) ⊎ (part_of stride index ≢ k) → slots_of_chest (chests part) index ≡ slots_of_chest (chests other) index
          by (inl at) = sym (found these index part mine here at) ∙ same index ∙ found those index other theirs there at
          by (inr apart) =
              mine.1.own k (chests part) index (stands_mapped these part here) apart
              ∙ sym (theirs.1.own k (chests other) index (stands_mapped those other there) apart)

-- what holds whether a call did what it was asked for or left all as it was
pub either_way : {T E A B X : Type 0} (r : Result T E) → OnOk r A → OnErr r B → (A → X) → (B → X) → X
either_way (Ok x) a b did left = did a
either_way (Err e) a b did left = left b

-- what holds in any case holds where a call answers an error
pub on_any_err : {T E X : Type 0} (r : Result T E) → X → OnErr r X
on_any_err (Ok x) holds = tt
on_any_err (Err e) holds = holds

-- what was known of an error, where there was one
pub refused : {T E X : Type 0} (r : Result T E) (e : E) → r ≡ Err e → OnErr r X → X
refused (Ok x) e is known = cc
refused (Err y) e is known = known
