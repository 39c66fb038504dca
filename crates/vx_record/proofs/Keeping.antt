-- Windows of which those with entries are kept.
use Rattle.std.proofs.Common.{◌≡◌, ◌≢◌, ℕ, zero, suc, ◌+◌, ◌<◌, ◌≤◌, true, false, List, [], ◌∷◌, ◌++◌, Vec, Global, length, map, get_or, set, replicate, take, drop, cond, zero-add, refl, inl, inr, sym, ap, subst, ◌∙◌, arith}
use Rattle.std.specs.List.{All, count_by, enumerate_from, filter}
use Rattle.std.specs.List.Sorted.{IsNonDecreasingBy, IsPartitionPoint}
use Rattle.std.proofs.Math.Dec.{ltb}
use Rattle.std.proofs.lemmas.Bool.{cases_lt, ltb-false, ltb-true}
use Rattle.std.proofs.lemmas.List.{length-set, length-replicate, length-take-le, get_or-map, get_or-set_same, get_or-set_other, get_or-take, get_or_default, set_at, set_comm, set-append_left, replicate_more, take_more}
use Rattle.std.proofs.lemmas.List.Elements.{All-tail, All-push}
use Rattle.std.proofs.lemmas.List.FromFn.{length-enumerate_from, get_or-enumerate_from}
use Rattle.std.proofs.lemmas.List.Quantifiers.{all_pairs_push}
use Rattle.std.proofs.lemmas.List.Sorted.{IsNonDecreasingBy-from_all_adjacent}
use Rattle.std.proofs.lemmas.List.Sums.{length-filter, sum_by-cons}
use Rattle.vx_sector.specs.SectorData.{EntryData, entry_of}
use Rattle.vx_sector.specs.declared.entry.Entry.{Entry}
use Rattle.vx_windows.specs.Sectors.{entries_in}
use Rattle.vx_record.specs.Kept.{is_busy, busy_count, windows_kept, AreInOrder}
use Rattle.vx_record.specs.declared.kept_window.KeptWindow.{KeptWindow}

-- there is one for each sector
pub as_many : (sectors : ℕ) (kept : List KeptWindow) → length (windows_kept sectors kept) ≡ sectors
as_many sectors [] = length-replicate sectors []
as_many sectors (window ∷ kept) =
    length-set (windows_kept sectors kept) window.sector (entries_in window.entries) ∙ as_many sectors kept

-- those after the first are in order
order_after : (sectors : ℕ) (first : KeptWindow) (kept : List KeptWindow)
    → AreInOrder sectors (first ∷ kept) → AreInOrder sectors kept
order_after sectors first kept order = (
  λ i j d before within. order.0 (suc i) (suc j) d (omega (arith, before)) (omega (arith, within)),
  λ k d within. order.1 (suc k) d (omega (arith, within)),
)

-- a window that is kept stands at its number
pub kept_at : (sectors : ℕ) (kept : List KeptWindow) (i : ℕ) (window : KeptWindow)
    → AreInOrder sectors kept → i < length kept → window ≡ get_or kept i window
    → get_or (windows_kept sectors kept) window.sector [] ≡ entries_in window.entries
kept_at sectors [] i window order within here = absurd (omega (arith, within))
kept_at sectors (first ∷ kept) zero window order within here =
    let below : window.sector < sectors = subst (λ w. w.sector < sectors) (sym here) (order.1 0 window within) in
    ap (λ w. get_or (set (windows_kept sectors kept) w.sector (entries_in w.entries)) window.sector []) (sym here)
    ∙ get_or-set_same (windows_kept sectors kept) window.sector (entries_in window.entries) []
    (omega (arith, below, as_many sectors kept))
kept_at sectors (first ∷ kept) (suc i) window order within here =
    let later : first.sector < window.sector =
    subst (λ w. first.sector < w.sector) (sym here) (order.0 0 (suc i) window (omega arith) within) in
    get_or-set_other (windows_kept sectors kept) first.sector window.sector (entries_in first.entries) []
    (omega (arith, later))
    ∙ kept_at sectors kept i window (order_after sectors first kept order) (omega (arith, within)) here

-- of empty ones, each is empty
none_at : (n at : ℕ) → get_or (windows_kept n []) at [] ≡ []
none_at zero at = refl
none_at (suc n) zero = refl
none_at (suc n) (suc at) = none_at n at

-- so is that of a number of which none is kept
pub empty_at : (sectors : ℕ) (kept : List KeptWindow) (at : ℕ) → All (λ w. w.sector ≢ at) kept
    → get_or (windows_kept sectors kept) at [] ≡ []
empty_at sectors [] at others = none_at sectors at
empty_at sectors (window ∷ kept) at others =
    get_or-set_other (windows_kept sectors kept) window.sector at (entries_in window.entries) []
    (λ same. others 0 window (omega arith) (sym same))
    ∙ empty_at sectors kept at (All-tail (λ w. w.sector ≢ at) window kept others)

-- the numbers never fall
pub never_fall : (sectors : ℕ) (kept : List KeptWindow) → AreInOrder sectors kept
    → IsNonDecreasingBy (λ w. w.sector) kept
never_fall sectors kept order = IsNonDecreasingBy-from_all_adjacent (λ w. w.sector) kept
    (λ k d within. omega (arith, order.0 k (k + 1) d (omega arith) within))

-- so none is kept of a number, where the first window that is not of a lower one is not of it
pub not_kept : (sectors : ℕ) (kept : List KeptWindow) (at i : ℕ) → AreInOrder sectors kept
    → IsPartitionPoint (λ w. ltb w.sector at ≡ true) (λ w. ltb w.sector at ≡ false) kept i
    → ((window : KeptWindow) → i < length kept → (get_or kept i window).sector ≢ at)
    → All (λ w. w.sector ≢ at) kept
not_kept sectors kept at i order parted other k d within = elim (cases_lt k i) [
  | inl early ↦ let lower = ltb-true _ at (parted.0 k d (omega arith) early) in omega arith
  | inr late ↦
      let there : i < length kept = omega arith in
      let no_lower = ltb-false _ at (parted.1 i d (omega arith) there) in
      let after = never_fall sectors kept order i k d late within in
      omega (arith, other d there)
]

-- those from a number on are in order
pub order_from : (sectors : ℕ) (kept : List KeptWindow) (i : ℕ) → AreInOrder sectors kept
    → AreInOrder sectors (drop i kept)
order_from sectors kept zero order = order
order_from sectors [] (suc i) order = order
order_from sectors (first ∷ kept) (suc i) order =
    order_from sectors kept i (order_after sectors first kept order)

-- of each sector that none of the first is of, they have the window
pub kept_behind : (sectors : ℕ) (kept : List KeptWindow) (i at : ℕ)
    → ((j : ℕ) (d : KeptWindow) → j < i → j < length kept → (get_or kept j d).sector ≢ at)
    → get_or (windows_kept sectors kept) at [] ≡ get_or (windows_kept sectors (drop i kept)) at []
kept_behind sectors kept zero at others = refl
kept_behind sectors [] (suc i) at others = refl
kept_behind sectors (window ∷ kept) (suc i) at others =
    get_or-set_other (windows_kept sectors kept) window.sector at (entries_in window.entries) []
    (λ same. others 0 window (omega arith) (omega arith) (sym same))
    ∙ kept_behind sectors kept i at
    (λ j d before within. others (suc j) d (omega (arith, before)) (omega (arith, within)))

-- what is put in one place of windows that are alike there or elsewhere leaves them so
set_alike : (xs ys : List (List EntryData)) (k at : ℕ) (entries : List EntryData)
    → length xs ≡ length ys → get_or xs at [] ≡ get_or ys at []
    → get_or (set xs k entries) at [] ≡ get_or (set ys k entries) at []
set_alike [] [] k at entries long same = refl
set_alike [] (y ∷ ys) k at entries long same = absurd (omega (arith, long))
set_alike (x ∷ xs) [] k at entries long same = absurd (omega (arith, long))
set_alike (x ∷ xs) (y ∷ ys) zero zero entries long same = refl
set_alike (x ∷ xs) (y ∷ ys) zero (suc at) entries long same = same
set_alike (x ∷ xs) (y ∷ ys) (suc k) zero entries long same = same
set_alike (x ∷ xs) (y ∷ ys) (suc k) (suc at) entries long same =
    set_alike xs ys k at entries (omega (arith, long)) same

-- of each sector that none is of from a number on, those before have the window
pub kept_before : (sectors : ℕ) (kept : List KeptWindow) (i at : ℕ)
    → ((j : ℕ) (d : KeptWindow) → i ≤ j → j < length kept → (get_or kept j d).sector ≢ at)
    → get_or (windows_kept sectors kept) at [] ≡ get_or (windows_kept sectors (take i kept)) at []
kept_before sectors kept zero at others =
    empty_at sectors kept at (λ j d within. others j d (omega arith) within)
    ∙ sym (none_at sectors at)
kept_before sectors [] (suc i) at others = refl
kept_before sectors (window ∷ kept) (suc i) at others =
    set_alike (windows_kept sectors kept) (windows_kept sectors (take i kept)) window.sector at
    (entries_in window.entries)
    (as_many sectors kept ∙ sym (as_many sectors (take i kept)))
    (kept_before sectors kept i at
    (λ j d after within. others (suc j) d (omega (arith, after)) (omega (arith, within))))

-- a window with entries is busy
pub busy_one : (entries : List Entry) → length entries ≢ 0 → is_busy (map entry_of entries) ≡ true
busy_one [] some = absurd (some refl)
busy_one (entry ∷ entries) some = refl

-- what a walk over windows with their numbers has at its turn
pub at_turn : (windows : List (Vec Entry Global)) (n number : ℕ) (window : Vec Entry Global)
    → (n < length (enumerate_from 0 windows)) × ((number, window) ≡ get_or (enumerate_from 0 windows) n (number, window))
    → (n < length windows) × (number ≡ n) × (get_or (map entries_in windows) n [] ≡ entries_in window)
at_turn windows n number window turn =
    let within : n < length windows = omega (arith, turn.0, length-enumerate_from 0 windows) in
    let here = turn.1 ∙ get_or-enumerate_from 0 windows n (number, window) within in (
      within,
      ap (λ p. p.0) here ∙ zero-add n,
      get_or-map entries_in windows n window [] within ∙ ap (λ p. entries_in p.1) (sym here),
    )

-- the first windows, and the one after them
pub one_more : (all front : List (List EntryData)) (n : ℕ) (window : List EntryData) → n < length all
    → get_or all n [] ≡ window → front ≡ take n all → front ++ window ∷ [] ≡ take (n + 1) all
one_more all front n window within here so_far =
    ap (λ ws. ws ++ window ∷ []) so_far ∙ ap (λ w. take n all ++ w ∷ []) (sym here) ∙ sym (take_more all n [] within)

-- those that are kept are in order where there is one sector more
pub order_more : (n : ℕ) (kept : List KeptWindow) → AreInOrder n kept → AreInOrder (n + 1) kept
order_more n kept order = (order.0, λ k d within. omega (arith, order.1 k d within))

-- also with its window behind them
pub order_push : (n : ℕ) (kept : List KeptWindow) (last : KeptWindow) → AreInOrder n kept → last.sector ≡ n
    → AreInOrder (n + 1) (kept ++ last ∷ [])
order_push n kept last order is_last = (
  all_pairs_push (λ w v. w.sector < v.sector) kept last order.0 (λ k d within. omega (arith, order.1 k d within, is_last)),
  All-push (λ w. w.sector < n + 1) kept last (order_more n kept order).1 (omega (arith, is_last)),
)

-- the windows of one sector more, of which none is kept
pub kept_none : (n : ℕ) (kept : List KeptWindow) → All (λ w. w.sector < n) kept
    → windows_kept (n + 1) kept ≡ windows_kept n kept ++ [] ∷ []
kept_none n [] below = sym (replicate_more n [])
kept_none n (window ∷ kept) below =
    ap (λ ws. set ws window.sector (entries_in window.entries)) (kept_none n kept (All-tail (λ w. w.sector < n) window kept below))
    ∙ set-append_left (windows_kept n kept) ([] ∷ []) window.sector (entries_in window.entries)
    (omega (arith, as_many n kept, below 0 window (omega arith)))

-- and where its window is kept
pub kept_more : (n : ℕ) (kept : List KeptWindow) (last : KeptWindow) → All (λ w. w.sector < n) kept → last.sector ≡ n
    → windows_kept (n + 1) (kept ++ last ∷ []) ≡ windows_kept n kept ++ entries_in last.entries ∷ []
kept_more n [] last below is_last =
    ap (λ ws. set ws last.sector (entries_in last.entries)) (sym (replicate_more n []))
    ∙ set_at (replicate n []) [] [] (entries_in last.entries) last.sector (length-replicate n [] ∙ sym is_last)
kept_more n (window ∷ kept) last below is_last =
    ap (λ ws. set ws window.sector (entries_in window.entries))
    (kept_more n kept last (All-tail (λ w. w.sector < n) window kept below) is_last)
    ∙ set-append_left (windows_kept n kept) (entries_in last.entries ∷ []) window.sector (entries_in window.entries)
    (omega (arith, as_many n kept, below 0 window (omega arith)))

-- a window that is kept is of a later sector than those before it
pub later_than : (sectors : ℕ) (kept : List KeptWindow) (i : ℕ) (window : KeptWindow)
    → AreInOrder sectors kept → i < length kept → window ≡ get_or kept i window
    → All (λ w. w.sector < window.sector) (take i kept)
later_than sectors kept i window order within here k d before =
    let early : k < i = omega (arith, before, length-take-le i kept (omega (arith, within))) in
    subst (λ w. w.sector < window.sector) (sym (get_or-take i kept k d early))
    (subst (λ w. (get_or kept k d).sector < w.sector) (get_or_default kept i d window within ∙ sym here)
    (order.0 k i d early within))

-- its sector is one of so many
pub is_below : (sectors : ℕ) (kept : List KeptWindow) (i : ℕ) (window : KeptWindow)
    → AreInOrder sectors kept → i < length kept → window ≡ get_or kept i window
    → window.sector < sectors
is_below sectors kept i window order within here =
    subst (λ w. w.sector < sectors) (sym here) (order.1 i window within)

-- a window of a later sector than those before it is put in its place
pub put_last : (n : ℕ) (kept : List KeptWindow) (last : KeptWindow)
    → All (λ w. w.sector < last.sector) kept
    → windows_kept n (kept ++ last ∷ []) ≡ set (windows_kept n kept) last.sector (entries_in last.entries)
put_last n [] last before = refl
put_last n (window ∷ kept) last before =
    ap (λ ws. set ws window.sector (entries_in window.entries))
    (put_last n kept last (All-tail (λ w. w.sector < last.sector) window kept before))
    ∙ set_comm (windows_kept n kept) last.sector window.sector
    (entries_in last.entries) (entries_in window.entries)
    (λ same. absurd (omega (arith, same, before 0 window (omega arith))))

-- places that are all empty
pub all_empty : (places : List (List EntryData)) → All (λ place. place ≡ []) places
    → places ≡ replicate (length places) []
all_empty [] empty = refl
all_empty (place ∷ places) empty =
    let first : place ≡ [] = empty 0 place (omega arith) in
    let others = all_empty places (All-tail (λ es. es ≡ []) place places empty) in
    λ i. first i ∷ others i

-- how many have entries, counted one by one
count_each : {X : Type 0} (entries : X → List EntryData) (xs : List X)
    → count_by (λ x. is_busy (entries x)) xs ≡ busy_count (map entries xs)
count_each entries [] = refl
count_each entries (x ∷ xs) =
    sum_by-cons (λ y. cond (is_busy (entries y)) 1 0) x xs
    ∙ ap (λ n. cond (is_busy (entries x)) 1 0 + n) (count_each entries xs)
    ∙ sym (sum_by-cons (λ window. cond (is_busy window) 1 0) (entries x) (map entries xs))

-- as many as pass the test, where all others are left out
pub counted : {X : Type 0} (entries : X → List EntryData) (xs : List X)
    → length (filter (λ x. is_busy (entries x)) xs) ≡ busy_count (map entries xs)
counted entries xs = length-filter (λ x. is_busy (entries x)) xs ∙ count_each entries xs
