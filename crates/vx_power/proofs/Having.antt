-- Positions in a list, and in lists that are joined.
use Rattle.std.proofs.Common.{◌≡◌, Bool, true, false, ◌&&◌, ◌||◌, List, [], ◌∷◌, ◌++◌, filter, cond, inl, inr, refl, sym, ap, ◌∙◌, subst}
use Rattle.std.specs.List.{list_any}
use Rattle.std.specs.Ordering.{int_eq}
use Rattle.std.proofs.lemmas.Bool.{and_parts, and_from, cases_Bool, or_cases, or_left, or_parts, or_right, false≢true}
use Rattle.std.proofs.lemmas.Bool.Decides.{Decides-int_eq, same_from_decides}
use Rattle.std.proofs.lemmas.List.Folds.{list_any-append}
use Rattle.vx_geom.specs.declared.pos.Pos.{Pos}
use Rattle.vx_geom.proofs.Positions.{same_pos}
use Rattle.vx_power.specs.Levels.{same_place, has}
use Rattle.vx_power.specs.Walks.{IsAmong}
use Rattle.vx_power.proofs.Reach.{any_from, any_at}

-- the test on places tells that they are one
pub place_is : (a b : Pos) → same_place a b ≡ true → a ≡ b
place_is a b same =
    let parts = and_parts (int_eq a.y b.y) (int_eq a.z b.z && int_eq a.x b.x) same in
    let rest = and_parts (int_eq a.z b.z) (int_eq a.x b.x) parts.1 in
    same_pos a b ((Decides-int_eq a.y b.y).0 parts.0) ((Decides-int_eq a.z b.z).0 rest.0)
    ((Decides-int_eq a.x b.x).0 rest.1)

-- and a place is the same as itself
pub own_place : (p : Pos) → same_place p p ≡ true
own_place p =
    and_from (int_eq p.y p.y) (int_eq p.z p.z && int_eq p.x p.x) ((Decides-int_eq p.y p.y).1 refl)
    (and_from (int_eq p.z p.z) (int_eq p.x p.x) ((Decides-int_eq p.z p.z).1 refl)
    ((Decides-int_eq p.x p.x).1 refl))

-- equal positions are the same place
pub place_of : (p q : Pos) → p ≡ q → same_place p q ≡ true
place_of p q same = subst (λ r. same_place p r ≡ true) same (own_place p)

-- which of two positions is named first does not matter
pub same_place_back : (p q : Pos) → same_place p q ≡ same_place q p
same_place_back p q =
    same_from_decides (same_place p q) (same_place q p) (place_is p q, place_of p q)
    (λ same. sym (place_is q p same), λ same. place_of q p (sym same))

-- the list has the positions that are among its elements
pub has_at : (ps : List Pos) (p : Pos) → has ps p ≡ true → IsAmong ps p
has_at ps p is =
    let found = any_at (same_place p) ps is in
    subst (IsAmong ps) (sym (place_is p found.0 found.2)) found.1

-- and those alone
pub has_from : (ps : List Pos) (p : Pos) → IsAmong ps p → has ps p ≡ true
has_from ps p among = any_from (same_place p) ps p among (own_place p)

-- no element of a list of which none passes does
pub none_at : {X : Type 0} (test : X → Bool) (xs : List X) (x : X)
    → list_any test xs ≡ false → IsAmong xs x → test x ≡ false
none_at test xs x none among = elim (cases_Bool (test x)) [
  | inl is ↦ absurd (false≢true (sym none ∙ any_from test xs x among is))
  | inr isnt ↦ isnt
]

-- where none passes a test, none passes one that passes nothing else
pub fewer : (some more : Pos → Bool) → ((q : Pos) → more q ≡ false → some q ≡ false) → (ps : List Pos)
    → list_any more ps ≡ false → list_any some ps ≡ false
fewer some more less [] none = refl
fewer some more less (p ∷ ps) none =
    let parts = or_parts (more p) (list_any more ps) none in
    ap (λ b. b || list_any some ps) (less p parts.0) ∙ fewer some more less ps parts.1

-- two lists joined have what either has
pub has_joined : (ps qs : List Pos) (p : Pos) → has (ps ++ qs) p ≡ (has ps p || has qs p)
has_joined ps qs p = list_any-append (same_place p) ps qs

-- what passes stays in a filtered list
pub among_filter : {X : Type 0} (test : X → Bool) (xs : List X) (x : X) → IsAmong xs x → test x ≡ true
    → IsAmong (filter test xs) x
among_filter test [] x among passes = absurd among
among_filter test (y ∷ xs) x (inl same) passes =
    subst (λ b. IsAmong (cond b (y ∷ filter test xs) (filter test xs)) x) (sym (ap test same ∙ passes))
    (inl same)
among_filter test (y ∷ xs) x (inr among) passes = kept (test y) (among_filter test xs x among passes)
  where
    kept : (b : Bool) → IsAmong (filter test xs) x → IsAmong (cond b (y ∷ filter test xs) (filter test xs)) x
    kept true further = inr further
    kept false further = further

-- what is in a filtered list passes, and is in the list
filter_at : {X : Type 0} (test : X → Bool) (xs : List X) (x : X) → IsAmong (filter test xs) x
    → (test x ≡ true) × IsAmong xs x
filter_at test [] x among = absurd among
filter_at test (y ∷ ys) x among = by (test y) refl (filter_at test ys x) among
  where
    by : (b : Bool) → test y ≡ b
        → (IsAmong (filter test ys) x → (test x ≡ true) × IsAmong ys x)
        → IsAmong (cond b (y ∷ filter test ys) (filter test ys)) x
        → (test x ≡ true) × IsAmong (y ∷ ys) x
    by true is rest (inl same) = (ap test (sym same) ∙ is, inl same)
    by true is rest (inr further) = ((rest further).0, inr (rest further).1)
    by false is rest further = ((rest further).0, inr (rest further).1)

-- a filtered list has what the list has that passes
pub has_filter : (test : Pos → Bool) (ps : List Pos) (p : Pos) → has (filter test ps) p ≡ (test p && has ps p)
has_filter test ps p =
    same_from_decides {P = (test p ≡ true) × (has ps p ≡ true)} (has (filter test ps) p) (test p && has ps p) (
      λ is. let kept = filter_at test ps p (has_at (filter test ps) p is) in (kept.0, has_from ps p kept.1),
      λ both. has_from (filter test ps) p (among_filter test ps p (has_at ps p both.1) both.0),
    )
    (and_parts (test p) (has ps p), λ both. and_from (test p) (has ps p) both.0 both.1)

-- all joins the lists that each gives for the elements of a list
module _ {X : Type 0} (each : X → List Pos) (all : List X → List Pos)
    (none : all [] ≡ [])
    (more : (x : X) (xs : List X) → all (x ∷ xs) ≡ each x ++ all xs)
  where
    -- one list more
    has_more : (x : X) (xs : List X) (p : Pos) → has (all (x ∷ xs)) p ≡ (has (each x) p || has (all xs) p)
    has_more x xs p = ap (λ ps. has ps p) (more x xs) ∙ has_joined (each x) (all xs) p

    -- what they have together, one of them has
    pub all_at : (xs : List X) (p : Pos) → has (all xs) p ≡ true
        → (x : X) × IsAmong xs x × (has (each x) p ≡ true)
    all_at [] p is = absurd (false≢true (sym (ap (λ ps. has ps p) none) ∙ is))
    all_at (x ∷ xs) p is =
        elim (or_cases (has (each x) p) (has (all xs) p) (sym (has_more x xs p) ∙ is)) [
          | inl here ↦ (x, inl refl, here)
          | inr further ↦ let found = all_at xs p further in (found.0, inr found.1, found.2)
        ]

    -- what one of them has, they have together
    pub all_from : (xs : List X) (p : Pos) (x : X) → IsAmong xs x → has (each x) p ≡ true
        → has (all xs) p ≡ true
    all_from [] p x among is = absurd among
    all_from (y ∷ xs) p x (inl same) is =
        has_more y xs p
        ∙ or_left (has (each y) p) (has (all xs) p) (ap (λ z. has (each z) p) same ∙ is)
    all_from (y ∷ xs) p x (inr among) is =
        has_more y xs p
        ∙ or_right (has (each y) p) (has (all xs) p) (all_from xs p x among is)
