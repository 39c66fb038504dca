-- What a definition or a change leaves at each number and each id.
use Rattle.std.proofs.Common.{◌≡◌, ◌≢◌, ℕ, ◌+◌, Bool, true, false, cond, nat_eq, bytes_eq, if◌then◌else◌, List, [], ◌∷◌, ◌++◌, find, Option, None, Some, option_map, arith, refl, ap, sym, ◌∙◌}
use Rattle.std.specs.Option.{option_or}
use Rattle.std.proofs.lemmas.Bool.{ne_eqb, eq-eqb, false_from_ne_true}
use Rattle.std.proofs.lemmas.Slice.Eq.{bytes_eq-Decides}
use Rattle.std.proofs.lemmas.List.Folds.{find-append}
use borrow.Author.Tests.{eqb-true}
use Rattle.vx_geom.specs.Outline.{Outline}
use Rattle.vx_region.specs.Forest.{IsNumbered}
use Rattle.vx_region.specs.Regions.{RegionData, Entry, Regions, region_at, number_of, is_global_id, fresh_region, with_region, changed, changed_at}
use Rattle.vx_region.proofs.Numbers.{find_above}

-- what a search finds after one more entry
pub find_last : (test : Entry → Bool) (es : List Entry) (e : Entry) → find test es ≡ None → test e ≡ true → find test (es ++ e ∷ []) ≡ Some e
find_last test es e none passes =
    find-append test es (e ∷ []) ∙ ap (λ o. option_or o (find test (e ∷ []))) none ∙ ap (λ b. cond b (Some e) None) passes

or_none : (o : Option Entry) → option_or o None ≡ o
or_none None = refl
or_none (Some e) = refl

pub find_before : (test : Entry → Bool) (es : List Entry) (e : Entry) → test e ≡ false → find test (es ++ e ∷ []) ≡ find test es
find_before test es e fails =
    find-append test es (e ∷ []) ∙ ap (λ b. option_or (find test es) (cond b (Some e) None)) fails ∙ or_none (find test es)

none_from_map : {X : Type 0} (f : Entry → X) (o : Option Entry) → option_map f o ≡ None → o ≡ None
none_from_map f None none = refl
none_from_map f (Some e) none = cc

-- after a change, the number has the changed region
found_changed : (change : RegionData → RegionData) (n : ℕ) (es : List Entry)
    → option_map (λ e. e.1) (find (λ e. nat_eq n e.0) (changed_at change n es)) ≡ option_map change (option_map (λ e. e.1) (find (λ e. nat_eq n e.0) es))
found_changed change n [] = refl
found_changed change n (e ∷ es) = by (nat_eq n e.0) refl (found_changed change n es)
  where
    found : List Entry → Option RegionData
    found ds = option_map (λ (d : Entry). d.1) (find (λ d. nat_eq n d.0) ds)

    by : (b : Bool) → nat_eq n e.0 ≡ b → found (changed_at change n es) ≡ option_map change (found es)
        → found ((if b then (e.0, change e.1) else e) ∷ changed_at change n es) ≡ option_map change (option_map (λ (d : Entry). d.1) (cond b (Some e) (find (λ d. nat_eq n d.0) es)))
    by true is rest = ap (λ b. option_map (λ (d : Entry). d.1) (cond b (Some (e.0, change e.1)) (find (λ (d : Entry). nat_eq n d.0) (changed_at change n es)))) is
    by false is rest = ap (λ b. option_map (λ (d : Entry). d.1) (cond b (Some e) (find (λ (d : Entry). nat_eq n d.0) (changed_at change n es)))) is ∙ rest

-- and each other number has the region that it had
found_elsewhere : (change : RegionData → RegionData) (n m : ℕ) (es : List Entry) → m ≢ n
    → option_map (λ e. e.1) (find (λ e. nat_eq m e.0) (changed_at change n es)) ≡ option_map (λ e. e.1) (find (λ e. nat_eq m e.0) es)
found_elsewhere change n m [] other = refl
found_elsewhere change n m (e ∷ es) other = by (nat_eq n e.0) refl (found_elsewhere change n m es other)
  where
    found : List Entry → Option RegionData
    found ds = option_map (λ (d : Entry). d.1) (find (λ d. nat_eq m d.0) ds)

    past : (d : Entry) (ds : List Entry) → nat_eq m d.0 ≡ false → found (d ∷ ds) ≡ found ds
    past d ds fails = ap (λ b. option_map (λ (d : Entry). d.1) (cond b (Some d) (find (λ (d : Entry). nat_eq m d.0) ds))) fails

    both : (b : Bool) → found (changed_at change n es) ≡ found es
        → option_map (λ (d : Entry). d.1) (cond b (Some e) (find (λ (d : Entry). nat_eq m d.0) (changed_at change n es))) ≡ option_map (λ (d : Entry). d.1) (cond b (Some e) (find (λ (d : Entry). nat_eq m d.0) es))
    both true rest = refl
    both false rest = rest

    by : (b : Bool) → nat_eq n e.0 ≡ b → found (changed_at change n es) ≡ found es
        → found ((if b then (e.0, change e.1) else e) ∷ changed_at change n es) ≡ found (e ∷ es)
    by true is rest =
        let fails : nat_eq m e.0 ≡ false = ne_eqb m e.0 (λ same. other (same ∙ sym (eqb-true n e.0 is))) in
        past (e.0, change e.1) (changed_at change n es) fails ∙ rest ∙ sym (past e es fails)
    by false is rest = both (nat_eq m e.0) rest

-- the region of a number after a change at that number, and at another
pub region_changed : (change : RegionData → RegionData) (n : ℕ) (rs : Regions) → region_at (changed change n rs) n ≡ option_map change (region_at rs n)
unfolding region_at
region_changed change n rs = found_changed change n rs.entries

pub region_elsewhere : (change : RegionData → RegionData) (n m : ℕ) (rs : Regions) → m ≢ n → region_at (changed change n rs) m ≡ region_at rs m
unfolding region_at
region_elsewhere change n m rs other = found_elsewhere change n m rs.entries other

-- one more region under the next number, at that number and at the others
abbrev pub pushed : Regions → RegionData → Regions
pushed rs r = record rs { last = rs.last + 1; entries = rs.entries ++ (rs.last + 1, r) ∷ [] }

pub region_pushed : (rs : Regions) (r : RegionData) → IsNumbered rs → region_at (pushed rs r) (rs.last + 1) ≡ Some r
unfolding region_at
region_pushed rs r numbered =
    ap (option_map (λ (e : Entry). e.1)) (find_last (λ e. nat_eq (rs.last + 1) e.0) rs.entries (rs.last + 1, r)
    (find_above rs.last (rs.last + 1) rs.entries numbered.given (omega arith)) (eq-eqb (rs.last + 1) (rs.last + 1) refl))

pub region_before : (rs : Regions) (r : RegionData) (n : ℕ) → n ≢ rs.last + 1 → region_at (pushed rs r) n ≡ region_at rs n
unfolding region_at
region_before rs r n other =
    ap (option_map (λ (e : Entry). e.1)) (find_before (λ e. nat_eq n e.0) rs.entries (rs.last + 1, r) (ne_eqb n (rs.last + 1) other))

-- a definition, at its own number and id and at the others
pub region_defined : (rs : Regions) (id : List ℕ) (shape : Outline) → IsNumbered rs → region_at (with_region rs id shape) (rs.last + 1) ≡ Some (fresh_region id shape)
unfolding with_region
region_defined rs id shape = region_pushed rs (fresh_region id shape)

pub region_kept : (rs : Regions) (id : List ℕ) (shape : Outline) (n : ℕ) → n ≢ rs.last + 1 → region_at (with_region rs id shape) n ≡ region_at rs n
unfolding with_region
region_kept rs id shape = region_before rs (fresh_region id shape)

-- an id that has no number is not that of the world at large
pub not_global : (id : List ℕ) (o : Option ℕ) → (if is_global_id id then Some 0 else o) ≡ None → is_global_id id ≡ false
not_global id o none = by (is_global_id id) none
  where
    by : (b : Bool) → (if b then Some 0 else o) ≡ None → b ≡ false
    by true some = cc
    by false none = refl

pub number_defined : (rs : Regions) (id : List ℕ) (shape : Outline) → number_of rs id ≡ None → number_of (with_region rs id shape) id ≡ Some (rs.last + 1)
unfolding number_of with_region
number_defined rs id shape free =
    let local = not_global id _ free in
    let none : option_map (λ (e : Entry). e.0) (find (λ e. bytes_eq id e.1.id) rs.entries) ≡ None =
    sym (ap (λ b. if b then Some 0 else option_map (λ (e : Entry). e.0) (find (λ e. bytes_eq id e.1.id) rs.entries)) local) ∙ free in
    ap (λ b. if b then Some 0 else option_map (λ (e : Entry). e.0) (find (λ e. bytes_eq id e.1.id) (rs.entries ++ (rs.last + 1, fresh_region id shape) ∷ []))) local
    ∙ ap (option_map (λ (e : Entry). e.0)) (find_last (λ e. bytes_eq id e.1.id) rs.entries (rs.last + 1, fresh_region id shape)
    (none_from_map (λ e. e.0) _ none) ((bytes_eq-Decides id id).1 refl))

pub number_kept : (rs : Regions) (id other : List ℕ) (shape : Outline) → other ≢ id → number_of (with_region rs id shape) other ≡ number_of rs other
unfolding number_of with_region
number_kept rs id other shape apart =
    ap (λ o. if is_global_id other then Some 0 else option_map (λ (e : Entry). e.0) o)
    (find_before (λ e. bytes_eq other e.1.id) rs.entries (rs.last + 1, fresh_region id shape)
    (false_from_ne_true (bytes_eq other id) (λ same. apart ((bytes_eq-Decides other id).0 same))))
