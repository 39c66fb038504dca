-- Entries by keys in parts: a key is found in its part, and a change of a part changes that key alone.
use Rattle.std.proofs.Common.{◌≡◌, ◌≢◌, ◌⊎◌, inl, inr, ℕ, zero, suc, ◌<◌, Bool, true, false, cond, List, [], ◌∷◌, ◌++◌, length, length-set, replicate, slice_get, slice_set, slice_index_or, Option, Some, None, arith, refl, ap, sym, ◌∙◌, subst}
use Rattle.std.specs.Global.{Vec}
use Rattle.std.specs.List.{AllZip}
use Rattle.std.specs.Map.{lookup}
use Rattle.std.specs.Option.{option_or}
use Rattle.std.proofs.lemmas.Bool.{cases_eq}
use Rattle.std.proofs.lemmas.List.{length-replicate}
use Rattle.std.proofs.lemmas.List.Elements.{same_from_all_zip}
use Rattle.vx_base.specs.Parts.{all_of, AreParted, IsUpdated}
use Rattle.vx_base.proofs.Lists.{read_is, item_there, set_here, set_beside, set_back}

-- the parts that were taken to write are those that were shared
pub parts_taken : {E : Type 0} (old new : Vec (List E)) → (new ≡ old) ⊎ (AllZip (λ p q. q ≡ p) old.items new.items × (new.len ≡ old.len)) → new.items ≡ old.items
parts_taken {E} old new (inl same) = ap (λ (v : Vec (List E)). v.items) same
parts_taken old new (inr copied) = same_from_all_zip (λ p q. q ≡ p) old.items new.items copied.0 (λ p q same. same)

-- parts without an entry
pub none_of : {E : Type 0} (n : ℕ) → all_of (replicate {A = List E} n []) ≡ []
none_of zero = refl
none_of (suc n) = none_of n

empty_part : {E : Type 0} (n k : ℕ) (part : List E) → slice_get (replicate n []) k ≡ Some part → part ≡ []
empty_part zero k part there = cc
empty_part {E} (suc n) zero part there =
    let none : List E = [] in
    let same : none ≡ part = cc in
    sym same
empty_part (suc n) (suc k) part there = empty_part n k part there

module _ {K V : Type 0} where
  -- a look-up in two lists joined
  found_either : (test : K → Bool) (these those : List (K × V)) → lookup test (these ++ those) ≡ option_or (lookup test these) (lookup test those)
  found_either test [] those = refl
  found_either test (e ∷ these) those = by (test e.0) (found_either test these those)
    where
      by : (b : Bool) → lookup test (these ++ those) ≡ option_or (lookup test these) (lookup test those)
          → cond b (Some e.1) (lookup test (these ++ those)) ≡ option_or (cond b (Some e.1) (lookup test these)) (lookup test those)
      by true rest = refl
      by false rest = rest

  module _ (test : K → Bool) where
    -- what is in no part is not found
    none_in_all : (parts : List (List (K × V))) → ((j : ℕ) (part : List (K × V)) → slice_get parts j ≡ Some part → lookup test part ≡ None)
        → lookup test (all_of parts) ≡ None
    none_in_all [] none = refl
    none_in_all (p ∷ parts) none =
        found_either test p (all_of parts) ∙ ap (λ o. option_or o (lookup test (all_of parts))) (none 0 p refl)
        ∙ none_in_all parts (λ j part there. none (suc j) part there)

    -- what is in one part alone is found there
    in_one : (parts : List (List (K × V))) (k : ℕ) (part : List (K × V)) → slice_get parts k ≡ Some part
        → ((j : ℕ) (other : List (K × V)) → slice_get parts j ≡ Some other → j ≢ k → lookup test other ≡ None)
        → lookup test (all_of parts) ≡ lookup test part
    in_one [] k part there alone = cc
    in_one (p ∷ parts) zero part there alone =
        let same : p ≡ part = cc in
        found_either test p (all_of parts)
        ∙ ap (option_or (lookup test p)) (none_in_all parts (λ j other is. alone (suc j) other is (λ apart. cc)))
        ∙ or_nothing (lookup test p) ∙ ap (lookup test) same
      where
        or_nothing : (o : Option V) → option_or o None ≡ o
        or_nothing None = refl
        or_nothing (Some n) = refl
    in_one (p ∷ parts) (suc k) part there alone =
        found_either test p (all_of parts) ∙ ap (λ o. option_or o (lookup test (all_of parts))) (alone 0 p refl (λ apart. cc))
        ∙ in_one parts k part there (λ j other is apart. alone (suc j) other is (λ same. apart (next j k same)))
      where
        next : (j k : ℕ) → suc j ≡ suc k → j ≡ k
        next j k same = omega arith

-- each number is that of a part, and keys of different numbers are not the same
module _ {K V : Type 0} (same : K → K → Bool) (part_of : K → ℕ) (total : ℕ) (below : (key : K) → part_of key < total) (other_part : (a b : K) → part_of a ≢ part_of b → same a b ≡ false) where
  -- a key is found in its part
  pub found_in_part : (parts : List (List (K × V))) (key : K) (part : List (K × V)) → AreParted same part_of total parts
      → slice_get parts (part_of key) ≡ Some part → lookup (same key) (all_of parts) ≡ lookup (same key) part
  found_in_part parts key part parted there =
      in_one (same key) parts (part_of key) part there (λ j other is apart. parted.own j other key is (λ here. apart (sym here)))

  -- what is read at the number of a key's part is that part
  pub read_in_part : (parts : List (List (K × V))) (key : K) (k : ℕ) (part : List (K × V)) → AreParted same part_of total parts → k ≡ part_of key
      → part ≡ slice_index_or parts k part → lookup (same key) part ≡ lookup (same key) (all_of parts)
  read_in_part parts key k part parted is read =
      let there = read_is parts k part (omega (arith, below key, is, parted.count)) read in
      sym (found_in_part parts key part parted (ap (slice_get parts) (sym is) ∙ there))

  -- parts without an entry are parted
  pub parted_empty : (parts : List (List (K × V))) (n : ℕ) → parts ≡ replicate n [] → n ≡ total → AreParted same part_of total parts
  parted_empty parts n are is = record {
    count = ap length are ∙ length-replicate {A = List (K × V)} n [] ∙ is;
    own = λ k part key there other. ap (lookup (same key)) (empty_part n k part (ap (λ ps. slice_get ps k) (sym are) ∙ there));
  }

  -- a part that became their owner's own, and was then changed for one key, or left
  module _ (old own : List (List (K × V))) (key : K) (k : ℕ) (part new : List (K × V)) (parted : AreParted same part_of total old) (copied : own ≡ old) (is : k ≡ part_of key) (read : part ≡ slice_index_or own k part) where
    within : k < length old
    within = omega (arith, below key, is, parted.count)

    there : slice_get old k ≡ Some part
    there = read_is old k part within (subst (λ (ps : List (List (K × V))). part ≡ slice_index_or ps k part) copied read)

    -- in its part the key has what it has in all
    pub same_there : lookup (same key) part ≡ lookup (same key) (all_of old)
    same_there = sym (found_in_part old key part parted (ap (slice_get old) (sym is) ∙ there))

    pub part_left : new ≡ part → slice_set own k new ≡ old
    part_left left = ap (λ p. slice_set own k p) left ∙ set_back own k part read ∙ copied

    module _ (value : Option V) (updated : IsUpdated same key value part new) where
      -- a key of another part is not that key
      beside : (q : K) → part_of q ≢ k → same key q ≡ false
      beside q apart = other_part key q (λ here. apart (sym here ∙ sym is))

      parted_still : AreParted same part_of total (slice_set old k new)
      parted_still = record {
        count = length-set old k new ∙ parted.count;
        own = λ j p q here apart. by j p q here apart (cases_eq j k);
      }
        where
          by : (j : ℕ) (p : List (K × V)) (q : K) → slice_get (slice_set old k new) j ≡ Some p → part_of q ≢ j → (j ≡ k) ⊎ (j ≢ k) → lookup (same q) p ≡ None
          by j p q here other (inl at) =
              let apart : part_of q ≢ k = subst (λ i. part_of q ≢ i) at other in
              let put : Some new ≡ Some p = sym (set_here old k new within) ∙ ap (slice_get (slice_set old k new)) (sym at) ∙ here in
              let it : new ≡ p = cc in
              ap (lookup (same q)) (sym it) ∙ updated q ∙ ap (λ b. cond b value (lookup (same q) part)) (beside q apart)
              ∙ parted.own k part q there apart
          by j p q here other (inr apart) = parted.own j p q (sym (set_beside old k j new apart) ∙ here) other

      updated_all : IsUpdated same key value (all_of old) (all_of (slice_set old k new))
      updated_all q = by (cases_eq (part_of q) k)
        where
          by : (part_of q ≡ k) ⊎ (part_of q ≢ k)
              → lookup (same q) (all_of (slice_set old k new)) ≡ cond (same key q) value (lookup (same q) (all_of old))
          by (inl at) =
              found_in_part (slice_set old k new) q new parted_still (ap (slice_get (slice_set old k new)) at ∙ set_here old k new within)
              ∙ updated q ∙ ap (cond (same key q) value) (sym (found_in_part old q part parted (ap (slice_get old) at ∙ there)))
          by (inr other) =
              let own_part = item_there old (part_of q) (omega (arith, below q, parted.count)) in
              found_in_part (slice_set old k new) q own_part.0 parted_still (set_beside old k (part_of q) new other ∙ own_part.1)
              ∙ sym (found_in_part old q own_part.0 parted own_part.1)
              ∙ sym (ap (λ b. cond b value (lookup (same q) (all_of old))) (beside q other))

      -- the parts are parted still, and the key is changed in all of them
      pub part_changed : AreParted same part_of total (slice_set own k new) × IsUpdated same key value (all_of old) (all_of (slice_set own k new))
      part_changed =
          subst (λ (ps : List (List (K × V))). AreParted same part_of total (slice_set ps k new) × IsUpdated same key value (all_of old) (all_of (slice_set ps k new))) (sym copied)
          (parted_still, updated_all)
