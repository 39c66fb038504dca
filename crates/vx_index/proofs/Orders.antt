-- Patches that are kept and joined stay in order.
use Rattle.std.proofs.Common.{◌≡◌, ℕ, zero, suc, ◌+◌, ◌<◌, ◌≤◌, Bool, true, false, cond, List, [], ◌∷◌, ◌++◌, filter, length, get_or, refl, ap, ◌∙◌, arith, add-one}
use Rattle.std.specs.List.{AllByRecursion}
use Rattle.std.specs.List.Sorted.{IsNonDecreasingBy}
use Rattle.std.proofs.lemmas.List.Sorted.{IsNonDecreasingBy-from_all_adjacent}
use Rattle.vx_index.specs.declared.patch.Patch.{Patch}
use Rattle.vx_index.specs.Patches.{AreInOrder}

-- an order from a later number on is one from an earlier number on
pub order_lower : (a b : ℕ) (patches : List Patch) → a ≤ b → AreInOrder b patches → AreInOrder a patches
order_lower a b [] low up = tt
order_lower a b (d ∷ ds) low up = (omega (arith, low, up.0), up.1)

-- the numbers of patches in order never fall
pub never_fall : (n : ℕ) (patches : List Patch) → AreInOrder n patches → IsNonDecreasingBy (λ d. d.number) patches
never_fall n patches up = IsNonDecreasingBy-from_all_adjacent (λ d. d.number) patches (λ k d within. each n patches up k d (omega arith))
  where
    each : (m : ℕ) (ds : List Patch) → AreInOrder m ds → (k : ℕ) (d : Patch) → suc k < length ds → (get_or ds k d).number ≤ (get_or ds (k + 1) d).number
    each m [] in_order k d within = absurd (omega arith)
    each m (x ∷ []) in_order k d within = absurd (omega arith)
    each m (x ∷ (y ∷ ds)) in_order zero d within = in_order.1.0
    each m (x ∷ (y ∷ ds)) in_order (suc k) d within = rw add-one (rw add-one at (each x.number (y ∷ ds) in_order.1 k d (omega arith)))

-- and one from any number that none is before
pub order_raise : (a b : ℕ) (patches : List Patch) → AllByRecursion (λ patch. b ≤ patch.number) patches → AreInOrder a patches → AreInOrder b patches
order_raise a b [] from up = tt
order_raise a b (d ∷ ds) from up = (from.0, up.1)

-- some of the patches stand in order
pub order_filter : (f : Patch → Bool) (n : ℕ) (patches : List Patch) → AreInOrder n patches → AreInOrder n (filter f patches)
order_filter f n [] up = tt
order_filter f n (d ∷ ds) up = by (f d) (order_filter f d.number ds up.1)
  where
    by : (b : Bool) → AreInOrder d.number (filter f ds) → AreInOrder n (cond b (d ∷ filter f ds) (filter f ds))
    by true rest = (up.0, rest)
    by false rest = order_lower n d.number (filter f ds) up.0 rest

-- patches behind those that are at no later number
pub order_join : (n p : ℕ) (xs ys : List Patch) → n ≤ p → AreInOrder n xs → AllByRecursion (λ patch. patch.number ≤ p) xs → AreInOrder p ys → AreInOrder n (xs ++ ys)
order_join n p [] ys low up most behind = order_lower n p ys low behind
order_join n p (d ∷ ds) ys low up most behind = (up.0, order_join d.number p ds ys most.0 up.1 most.1 behind)

-- what holds of all patches tells of those that are kept
pub all_kept : (f : Patch → Bool) (P Q : Patch → Type 0) → ((d : Patch) → f d ≡ true → P d → Q d) → (patches : List Patch)
    → AllByRecursion P patches → AllByRecursion Q (filter f patches)
all_kept f P Q tells [] all = tt
all_kept f P Q tells (d ∷ ds) all = by (f d) refl (all_kept f P Q tells ds all.1)
  where
    by : (b : Bool) → f d ≡ b → AllByRecursion Q (filter f ds) → AllByRecursion Q (cond b (d ∷ filter f ds) (filter f ds))
    by true is rest = (tells d is all.0, rest)
    by false is rest = rest

-- where all pass a test all are kept, and where none does none
pub kept_all : (f : Patch → Bool) (patches : List Patch) → AllByRecursion (λ d. f d ≡ true) patches → filter f patches ≡ patches
kept_all f [] all = refl
kept_all f (d ∷ ds) all = ap (λ b. cond b (d ∷ filter f ds) (filter f ds)) all.0 ∙ ap (λ es. d ∷ es) (kept_all f ds all.1)

pub kept_none : (f : Patch → Bool) (patches : List Patch) → AllByRecursion (λ d. f d ≡ false) patches → filter f patches ≡ []
kept_none f [] none = refl
kept_none f (d ∷ ds) none = ap (λ b. cond b (d ∷ filter f ds) (filter f ds)) none.0 ∙ kept_none f ds none.1
