-- Numbers that ascend: what stands before and behind a place, and what a look-up by number finds there.
use Rattle.std.proofs.Common.{◌≡◌, ◌≢◌, ℕ, zero, suc, ◌+◌, ◌-◌, ◌<◌, ◌≤◌, Bool, true, false, cond, nat_eq, nat_lt, min, List, [], ◌∷◌, length, remove, slice_get, slice_set, Option, Some, None, option_map, arith, refl, ap, sym, ◌∙◌, subst}
use Rattle.std.specs.Map.{lookup, set_value, remove_entry}
use Rattle.std.proofs.Math.Nat.{le-min}
use Rattle.std.proofs.lemmas.Bool.{ne_eqb, eq-eqb}
use borrow.Author.Tests.{ltb-true, ltb-false}
use Rattle.vx_region.specs.Blocks.{BlockData, joined, with_entries, AreInPlace, Holds, AreBefore, AreBehind, written_at}
use Rattle.vx_region.specs.Forest.{IsAscending}
use Rattle.vx_region.specs.Regions.{RegionData, Entry}
use Rattle.vx_region.proofs.Blocks.{within_list, block_read, block_written, written_in_place, length_written}

-- a number is above as many as stand before it
pub number_above : (n : ℕ) (es : List Entry) (i : ℕ) (e : Entry) → IsAscending n es → slice_get es i ≡ Some e → n + i < e.0
number_above n [] i e up there = cc
number_above n (d ∷ es) zero e up there = let same : d ≡ e = cc in let number : d.0 ≡ e.0 = ap (λ (a : Entry). a.0) same in omega (arith, up.0)
number_above n (d ∷ es) (suc i) e up there = omega (arith, up.0, number_above d.0 es i e up.1 there)

-- from one place to another numbers grow by as much at least
pub numbers_grow : (n : ℕ) (es : List Entry) (i j : ℕ) (d e : Entry) → IsAscending n es → slice_get es i ≡ Some d → slice_get es j ≡ Some e → i ≤ j → d.0 + (j - i) ≤ e.0
numbers_grow n [] i j d e up here there low = cc
numbers_grow n (c ∷ es) zero zero d e up here there low = let same : d ≡ e = cc in let number : d.0 ≡ e.0 = ap (λ (a : Entry). a.0) same in omega arith
numbers_grow n (c ∷ es) zero (suc j) d e up here there low =
    let same : c ≡ d = cc in let number : c.0 ≡ d.0 = ap (λ (a : Entry). a.0) same in omega (arith, number_above c.0 es j e up.1 there)
numbers_grow n (c ∷ es) (suc i) zero d e up here there low = absurd (omega arith)
numbers_grow n (c ∷ es) (suc i) (suc j) d e up here there low = omega (arith, numbers_grow c.0 es i j d e up.1 here there (omega arith))

-- a number that no entry has is not found
pub none_found : (number : ℕ) (es : List Entry) → ((i : ℕ) (e : Entry) → slice_get es i ≡ Some e → e.0 ≢ number) → lookup (nat_eq number) es ≡ None
none_found number [] other = refl
none_found number (e ∷ es) other =
    ap (λ b. cond b (Some e.1) (lookup (nat_eq number) es)) (ne_eqb number e.0 (λ same. other 0 e refl (sym same)))
    ∙ none_found number es (λ i d there. other (suc i) d there)

-- no entry has number 0
pub none_at_zero : (es : List Entry) → IsAscending 0 es → lookup (nat_eq 0) es ≡ None
none_at_zero es up = none_found 0 es (λ i e there same. omega (arith, number_above 0 es i e up there))

-- nor one that stands neither before a place nor from it on
pub none_beside : (place number : ℕ) (es : List Entry) (low : ℕ) → AreBefore low number es → AreBehind place number es → place ≤ low → lookup (nat_eq number) es ≡ None
none_beside place number es low before behind meet =
    none_found number es (λ i e there same. by i e there same (nat_lt i low) refl)
  where
    by : (i : ℕ) (e : Entry) → slice_get es i ≡ Some e → e.0 ≡ number → (b : Bool) → nat_lt i low ≡ b → ⊥
    by i e there same true is = omega (arith, before i e there (ltb-true i low is))
    by i e there same false is = omega (arith, behind i e there (omega (arith, ltb-false i low is)))

-- what stands before a lower number is lower, and what stands behind a higher one is higher
pub before_lower : (number m : ℕ) (es : List Entry) (e : Entry) → IsAscending 0 es → slice_get es m ≡ Some e → e.0 < number → AreBefore (m + 1) number es
before_lower number m es e up there low i d here before = omega (arith, numbers_grow 0 es i m d e up here there (omega arith))

pub behind_higher : (number m : ℕ) (es : List Entry) (e : Entry) → IsAscending 0 es → slice_get es m ≡ Some e → number < e.0 → AreBehind m number es
behind_higher number m es e up there high i d here behind = omega (arith, numbers_grow 0 es m i e d up there here behind)

-- no region stands behind the last one, and numbers are above places
pub behind_all : (number : ℕ) (es : List Entry) → IsAscending 0 es → AreBehind (min (length es) number) number es
behind_all number es up i e there behind = by (nat_lt i number) refl
  where
    by : (b : Bool) → nat_lt i number ≡ b → number < e.0
    by true is = absurd (omega (arith, behind, le-min {k = suc i} {a = length es} {b = number} (within_list es i e there) (ltb-true i number is)))
    by false is = omega (arith, number_above 0 es i e up there, ltb-false i number is)

-- before the place of the last one, less as many as are left out
pub before_last : (number : ℕ) (es : List Entry) (last : Entry) → IsAscending 0 es → slice_get es (length es - 1) ≡ Some last
    → AreBefore (number - ((last.0 - length es) + 1)) number es
before_last number es last up there i e here before =
    omega (arith, within_list es i e here, numbers_grow 0 es i (length es - 1) e last up here there (omega (arith, within_list es i e here)))

-- where a number stands at a place, the look-up finds that region, and a write and a removal by number are there
module _ (number : ℕ) where
  below_differs : (n : ℕ) (d : Entry) (es : List Entry) (i : ℕ) (e : Entry) → IsAscending n (d ∷ es) → slice_get es i ≡ Some e → e.0 ≡ number → nat_eq number d.0 ≡ false
  below_differs n d es i e up there same = ne_eqb number d.0 (λ equal. omega (arith, number_above d.0 es i e up.1 there))

  here_same : (d e : Entry) → d ≡ e → e.0 ≡ number → nat_eq number d.0 ≡ true
  here_same d e same is = eq-eqb number d.0 (sym is ∙ sym (ap (λ (a : Entry). a.0) same))

  pub found_at : (n : ℕ) (es : List Entry) (i : ℕ) (e : Entry) → IsAscending n es → slice_get es i ≡ Some e → e.0 ≡ number → lookup (nat_eq number) es ≡ Some e.1
  found_at n [] i e up there is = cc
  found_at n (d ∷ es) zero e up there is =
      let same : d ≡ e = cc in
      ap (λ b. cond b (Some d.1) (lookup (nat_eq number) es)) (here_same d e same is) ∙ ap (λ (a : Entry). Some a.1) same
  found_at n (d ∷ es) (suc i) e up there is =
      ap (λ b. cond b (Some d.1) (lookup (nat_eq number) es)) (below_differs n d es i e up there is) ∙ found_at d.0 es i e up.1 there is

  pub set_at : (n : ℕ) (es : List Entry) (i : ℕ) (e : Entry) (w : RegionData) → IsAscending n es → slice_get es i ≡ Some e → e.0 ≡ number
      → written_at es i w ≡ set_value (nat_eq number) es w
  set_at n [] i e w up there is = refl
  set_at n (d ∷ es) zero e w up there is =
      let same : d ≡ e = cc in
      sym (ap (λ b. cond b ((d.0, w) ∷ es) (d ∷ set_value (nat_eq number) es w)) (here_same d e same is))
  set_at n (d ∷ es) (suc i) e w up there is =
      ap (λ ds. d ∷ ds) (set_at d.0 es i e w up.1 there is)
      ∙ sym (ap (λ b. cond b ((d.0, w) ∷ es) (d ∷ set_value (nat_eq number) es w)) (below_differs n d es i e up there is))

  pub removed_at : (n : ℕ) (es : List Entry) (i : ℕ) (e : Entry) → IsAscending n es → slice_get es i ≡ Some e → e.0 ≡ number
      → remove es i ≡ remove_entry (nat_eq number) es
  removed_at n [] i e up there is = cc
  removed_at n (d ∷ es) zero e up there is =
      let same : d ≡ e = cc in
      sym (ap (λ b. cond b es (d ∷ remove_entry (nat_eq number) es)) (here_same d e same is))
  removed_at n (d ∷ es) (suc i) e up there is =
      ap (λ ds. d ∷ ds) (removed_at d.0 es i e up.1 there is)
      ∙ sym (ap (λ b. cond b es (d ∷ remove_entry (nat_eq number) es)) (below_differs n d es i e up there is))

-- nothing stands behind the last place
pub none_behind : (es : List Entry) (i : ℕ) → slice_get es i ≡ None → length es ≤ i
none_behind [] i none = omega arith
none_behind (e ∷ es) zero none = cc
none_behind (e ∷ es) (suc i) none = omega (arith, none_behind es i none)

-- the entry at a place where a number stands
pub entry_there : (number : ℕ) (o : Option Entry) → option_map (λ e. e.0) o ≡ Some number → (e : Entry) × (o ≡ Some e) × (e.0 ≡ number)
entry_there number None found = cc
entry_there number (Some e) found = (e, refl, (let same : e.0 ≡ number = cc in same))

-- its number is the one that was found there
pub same_number : (number : ℕ) (o : Option Entry) (e : Entry) → o ≡ Some e → option_map (λ e. e.0) o ≡ Some number → e.0 ≡ number
same_number number o e is found =
    let there : Some e.0 ≡ Some number = ap (option_map (λ (a : Entry). a.0)) (sym is) ∙ found in
    cc

-- the list, after the region at the place of a number was written over in its block
module _ (bs : List BlockData) (k : ℕ) (b : BlockData) (place number : ℕ) (in_place : AreInPlace 0 bs) (there : slice_get bs k ≡ Some b) (holds : Holds place b)
    (up : IsAscending 0 (joined bs)) (found : option_map (λ (e : Entry). e.0) (slice_get (joined bs) place) ≡ Some number) where
  pub list_read : (r : RegionData) → option_map (λ (e : Entry). e.1) (slice_get b.entries (place - b.start)) ≡ Some r → lookup (nat_eq number) (joined bs) ≡ Some r
  list_read r read =
      let e = entry_there number (slice_get (joined bs) place) found in
      found_at number 0 (joined bs) place e.0 up e.1 e.2
      ∙ sym (ap (option_map (λ (e : Entry). e.1)) e.1) ∙ ap (option_map (λ (e : Entry). e.1)) (block_read bs k b place in_place there holds) ∙ read

  module _ (c : BlockData) (w : RegionData) (is : c ≡ with_entries b (written_at b.entries (place - b.start) w)) where
    pub list_written : joined (slice_set bs k c) ≡ set_value (nat_eq number) (joined bs) w
    list_written =
        let e = entry_there number (slice_get (joined bs) place) found in
        ap (λ d. joined (slice_set bs k d)) is ∙ block_written bs k b place in_place there holds w ∙ set_at number 0 (joined bs) place e.0 w up e.1 e.2

    pub list_in_place : AreInPlace 0 (slice_set bs k c)
    list_in_place = subst (λ d. AreInPlace 0 (slice_set bs k d)) (sym is) (written_in_place bs k b place in_place there holds w)

    pub list_counted : length (joined (slice_set bs k c)) ≡ length (joined bs)
    list_counted =
        ap (λ d. length (joined (slice_set bs k d))) is ∙ ap length (block_written bs k b place in_place there holds w) ∙ length_written (joined bs) place w
