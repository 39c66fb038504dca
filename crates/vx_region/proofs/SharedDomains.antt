-- The domains that regions share, as they are looked for.
use Rattle.std.proofs.Common.{◌≡◌, ℕ, suc, arith, Bool, true, false, ◌&&◌, ◌||◌, nat_lt, List, [], ◌∷◌, length, Option, Some, None, refl, ap, sym, ◌∙◌}
use Rattle.std.specs.List.{list_any, flat_map}
use Rattle.std.proofs.Math.Bool.{and-false}
use Rattle.std.proofs.lemmas.Bool.{true≢false, lt-ltb}
use Rattle.std.proofs.lemmas.List.Concat.{flat_map-cons}
use Rattle.std.proofs.lemmas.List.Folds.{list_any-append}
use Rattle.vx_geom.specs.declared.pos.Pos.{Pos}
use Rattle.vx_geom.specs.Outline.{is_in}
use Rattle.vx_region.specs.Ancestry.{ancestors}
use Rattle.vx_region.specs.Association.{is_such, domains_of, has_name, has_name_along, has_domain_along, domains_at, domains_along, share_domain, stands_in_domain}
use Rattle.vx_region.specs.Domains.{lists_domains, lists_domains_along, lists_domain_of}
use Rattle.vx_name.specs.Names.{names}
use Rattle.vx_region.specs.Regions.{RegionData, Regions, region_at, names_of}
use Rattle.vx_region.specs.declared.roster.Roster.TheVariants.{Domains}

pub any_flat : {X A : Type 0} (p : A → Bool) (f : X → List A) (xs : List X) → list_any p (flat_map f xs) ≡ list_any (λ x. list_any p (f x)) xs
any_flat p f [] = refl
any_flat p f (x ∷ xs) =
    ap (list_any p) (flat_map-cons f x xs) ∙ list_any-append p (f x) (flat_map f xs) ∙ ap (λ b. list_any p (f x) || b) (any_flat p f xs)

-- what fails one test fails the other
fails_too : {X : Type 0} (p q : X → Bool) → ((x : X) → q x ≡ false → p x ≡ false) → (xs : List X) → list_any q xs ≡ false → list_any p xs ≡ false
fails_too p q fail [] none = refl
fails_too p q fail (x ∷ xs) none = by (q x) refl none (fails_too p q fail xs)
  where
    by : (b : Bool) → q x ≡ b → (b || list_any q xs) ≡ false → (list_any q xs ≡ false → list_any p xs ≡ false) → (p x || list_any p xs) ≡ false
    by true is none rest = absurd (true≢false none)
    by false is none rest = ap (λ b. b || list_any p xs) (fail x is) ∙ rest none

none_passes : {X : Type 0} (p : X → Bool) → ((x : X) → p x ≡ false) → (xs : List X) → list_any p xs ≡ false
none_passes p fail [] = refl
none_passes p fail (x ∷ xs) = ap (λ b. b || list_any p xs) (fail x) ∙ none_passes p fail xs

-- a domain is shared where some region of the ancestry lists one of the other's
pub shared_along : (rs : Regions) (a b : ℕ) → list_any (lists_domain_of rs b) (ancestors rs a) ≡ share_domain rs a b
unfolding lists_domain_of share_domain domains_along
shared_along rs a b = sym (any_flat (λ name. has_domain_along rs name b) (domains_at rs) (ancestors rs a))

-- where the region has no domain at all, none is shared with those that contain a place
pub nothing_shared : (rs : Regions) (n : ℕ) → ((name : List ℕ) → has_domain_along rs name n ≡ false) → (p : Pos) → stands_in_domain rs p n ≡ false
unfolding stands_in_domain share_domain
nothing_shared rs n none p =
    none_passes (λ e. is_in e.1.shape p && share_domain rs e.0 n)
    (λ e. ap (λ b. is_in e.1.shape p && b) (none_passes (λ name. has_domain_along rs name n) none (domains_along rs e.0)) ∙ and-false (is_in e.1.shape p))
    rs.entries

-- a region that lists no domain lists none of any name
none_of_name : (rs : Regions) (name : List ℕ) (n : ℕ) → lists_domains rs n ≡ false → has_name rs Domains name n ≡ false
unfolding lists_domains domains_at has_name
none_of_name rs name n none = by (region_at rs n) none
  where
    unnamed : (ds : List (List ℕ)) → nat_lt 0 (length ds) ≡ false → names ds name ≡ false
    unnamed [] few = refl
    unnamed (d ∷ ds) few = absurd (true≢false (sym (lt-ltb 0 (suc (length ds)) (omega arith)) ∙ few))

    by : (o : Option RegionData) → nat_lt 0 (length (domains_of o)) ≡ false → is_such (λ r. names (names_of Domains r) name) o ≡ false
    by None few = refl
    by (Some r) few = unnamed r.domains few

-- and where its ancestry lists none, no place is in a region that shares one with it
pub nothing_listed : (rs : Regions) (n : ℕ) → lists_domains_along rs n ≡ false → (p : Pos) → stands_in_domain rs p n ≡ false
unfolding lists_domains_along has_name_along
nothing_listed rs n none =
    nothing_shared rs n (λ name. fails_too (has_name rs Domains name) (lists_domains rs) (none_of_name rs name) (ancestors rs n) none)
