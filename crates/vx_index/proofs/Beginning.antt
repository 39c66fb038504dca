-- The patches of a tile that is made anew, region by region.
use Rattle.std.proofs.Common.{◌≡◌, ℕ, zero, suc, ◌+◌, ◌<◌, ◌≤◌, Bool, true, false, cond, if◌then◌else◌, nat_eq, find, length, take, slice_get, List, [], ◌∷◌, ◌++◌, Option, Some, None, option_map, refl, ap, sym, ◌∙◌, subst, arith, add-one}
use Rattle.std.specs.List.{AllByRecursion}
use Rattle.std.proofs.lemmas.Bool.{eqb-true, lt-ltb, ne_eqb, false_from_ne_true, ltb-true}
use Rattle.std.proofs.lemmas.List.{append-nil, take_all}
use Rattle.vx_base.proofs.Lists.{all_weaker}
use Rattle.vx_geom.specs.declared.extent.Extent.{Extent}
use Rattle.vx_geom.specs.Extent.{extent_of, meets}
use Rattle.vx_geom.specs.Outline.{Outline}
use Rattle.vx_region.specs.Forest.{IsAscending}
use Rattle.vx_region.specs.Regions.{Entry, RegionData, Regions, region_at}
use Rattle.vx_region.proofs.Places.{number_above}
use Rattle.vx_index.specs.declared.patch.Patch.{Patch}
use Rattle.vx_index.specs.Patches.{AreOf, Adds, IsMet}
use Rattle.vx_index.specs.Shapes.{Shapes, renewed_at, shape_at}
use Rattle.vx_index.proofs.Adding.{any_some}
use Rattle.vx_index.proofs.Orders.{kept_all, kept_none}
use Rattle.vx_index.proofs.Renewing.{is_before, is_behind, renewed_tells}

-- the shapes of these regions by number
abbrev pub shapes_in : List Entry → Shapes
shapes_in es n = option_map (λ (r : RegionData). r.shape) (option_map (λ (e : Entry). e.1) (find (λ e. nat_eq n e.0) es))

-- of no region there is no patch
pub of_none : (es : List Entry) (columns : Extent) (patches : List Patch) → patches ≡ [] → AreOf (shapes_in (take 0 es)) columns patches
of_none es columns patches none = subst (AreOf (shapes_in (take 0 es)) columns) (sym none) (record {
  ordered = tt;
  told = λ n o p at within inside. let nothing : None ≡ Some o = at in cc;
  met = tt;
})

-- a number that has a shape among the first regions is below that of the next
below_next : (m : ℕ) (es : List Entry) (i : ℕ) (e : Entry) (n : ℕ) (o : Outline) → IsAscending m es → slice_get es i ≡ Some e
    → shapes_in (take i es) n ≡ Some o → n < e.0
below_next m [] i e n o up item at = cc
below_next m (d ∷ es) zero e n o up item at = let nothing : None ≡ Some o = at in cc
below_next m (d ∷ es) (suc i) e n o up item at = by (nat_eq n d.0) refl at (below_next d.0 es i e n o up.1 item)
  where
    rest : Option Entry
    rest = find (λ x. nat_eq n x.0) (take i es)

    by : (b : Bool) → nat_eq n d.0 ≡ b → option_map (λ (r : RegionData). r.shape) (option_map (λ (x : Entry). x.1) (cond b (Some d) rest)) ≡ Some o
        → (shapes_in (take i es) n ≡ Some o → n < e.0) → n < e.0
    by true is here later = omega (arith, eqb-true n d.0 is, number_above d.0 es i e up.1 item)
    by false is here later = later here

-- one region more is one shape more, at its number
shapes_more : (m : ℕ) (es : List Entry) (i : ℕ) (e : Entry) (n : ℕ) → IsAscending m es → slice_get es i ≡ Some e
    → shapes_in (take (suc i) es) n ≡ renewed_at (shapes_in (take i es)) e.0 (Some e.1.shape) n
shapes_more m [] i e n up item = cc
shapes_more m (d ∷ es) zero e n up item = let same : d ≡ e = cc in subst (λ (x : Entry). shapes_in (d ∷ []) n ≡ renewed_at (shapes_in []) x.0 (Some x.1.shape) n) same (by (nat_eq n d.0))
  where
    by : (b : Bool) → option_map (λ (r : RegionData). r.shape) (option_map (λ (x : Entry). x.1) (cond b (Some d) None)) ≡ (if b then Some d.1.shape else None)
    by true = refl
    by false = refl
shapes_more m (d ∷ es) (suc i) e n up item = by (nat_eq n d.0) refl (shapes_more d.0 es i e n up.1 item)
  where
    shape : Option Entry → Option Outline
    shape o = option_map (λ (r : RegionData). r.shape) (option_map (λ (x : Entry). x.1) o)

    more : Option Entry
    more = find (λ x. nat_eq n x.0) (take (suc i) es)

    rest : Option Entry
    rest = find (λ x. nat_eq n x.0) (take i es)

    by : (b : Bool) → nat_eq n d.0 ≡ b → shape more ≡ (if nat_eq n e.0 then Some e.1.shape else shape rest)
        → shape (cond b (Some d) more) ≡ (if nat_eq n e.0 then Some e.1.shape else shape (cond b (Some d) rest))
    by true is later =
        sym (ap (λ b. if b then Some e.1.shape else Some d.1.shape)
        (ne_eqb n e.0 (λ same. omega (arith, same, eqb-true n d.0 is, number_above d.0 es i e up.1 item))))
    by false is later = later

-- the patches that are added for the next region, behind those of the regions before it
pub of_one_more : (es : List Entry) (columns : Extent) (i : ℕ) (e : Entry) (old new : List Patch) → IsAscending 0 es → slice_get es i ≡ Some e
    → AreOf (shapes_in (take i es)) columns old → Adds e.0 e.1.shape columns old new → (meets (extent_of e.1.shape) columns ≡ false → new ≡ old)
    → AreOf (shapes_in (take (i + 1) es)) columns new
of_one_more es columns i e old new up item of adds apart =
    subst (λ (shapes : Shapes). AreOf shapes columns new) (sym same)
    (renewed_tells before columns e.0 (Some e.1.shape) old of old new new
    (sym (kept_all (is_before e.0) old (all_weaker (λ d. d.number < e.0) (λ d. is_before e.0 d ≡ true) (λ d low. lt-ltb d.number e.0 low) old lower)))
    (any_some e.0 e.1.shape columns old new adds apart)
    (sym (append-nil new) ∙ ap (λ ds. new ++ ds) (sym (kept_none (is_behind e.0) old
    (all_weaker (λ d. d.number < e.0) (λ d. is_behind e.0 d ≡ false) (λ d low. not_behind d low) old lower)))))
  where
    before : Shapes
    before = shapes_in (take i es)

    next : (n : ℕ) → shapes_in (take (i + 1) es) n ≡ shapes_in (take (suc i) es) n
    next n = rw add-one refl

    same : shapes_in (take (i + 1) es) ≡ renewed_at before e.0 (Some e.1.shape)
    same = λ j n. (next n ∙ shapes_more 0 es i e n up item) j

    lower : AllByRecursion (λ d. d.number < e.0) old
    lower = all_weaker (λ d. IsMet (before d.number) columns) (λ d. d.number < e.0) (λ d met. below_next 0 es i e d.number met.0 up item met.1) old of.met

    not_behind : (d : Patch) → d.number < e.0 → is_behind e.0 d ≡ false
    not_behind d low = false_from_ne_true (is_behind e.0 d) (λ is. omega (arith, low, ltb-true e.0 d.number is))

-- all regions
pub of_all : (rs : Regions) (columns : Extent) (i : ℕ) (patches : List Patch) → length rs.entries ≤ i → AreOf (shapes_in (take i rs.entries)) columns patches
    → AreOf (shape_at rs) columns patches
unfolding region_at
of_all rs columns i patches past of = subst (λ es. AreOf (shapes_in es) columns patches) (take_all i rs.entries past) of
