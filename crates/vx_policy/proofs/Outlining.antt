-- What an edit leaves of the shapes of the regions.
use Rattle.std.proofs.Common.{◌≡◌, ◌≢◌, ℕ, ◌+◌, Bool, true, false, List, Some, None, IsSome, IfSome, Option, option_map, Result, IfOk, refl, ap, sym, ◌∙◌, subst, inl, inr}
use Rattle.std.proofs.lemmas.Bool.{cases_eq}
use Rattle.std.proofs.lemmas.Result.{IfOk-weaker}
use Rattle.vx_flag.specs.declared.flag.Flag.{Flag}
use Rattle.vx_flag.specs.declared.setting.Setting.{Setting}
use Rattle.vx_geom.specs.Outline.{Outline}
use Rattle.vx_geom.specs.Written.{Written, outline_asked}
use Rattle.vx_region.specs.declared.region_no.RegionNo.{RegionNo}
use Rattle.vx_region.specs.declared.roster.Roster.{Roster}
use Rattle.vx_region.specs.declared.roster.Roster.TheVariants.{Owners, Members, Domains}
use Rattle.vx_region.specs.Regions.{RegionData, Regions, region_at, changed, gaining, losing, with_region, without_region, with_shape, with_priority, with_parent, with_flag, with_name, without_name}
use Rattle.vx_name.specs.Words.{read_id, read_name}
use Rattle.vx_region.specs.Forest.{IsNumbered}
use Rattle.vx_region.proofs.Changes.{region_changed, region_defined, region_elsewhere, region_kept}
use Rattle.vx_region.proofs.Globals.{flag_at_large, flag_of_region}
use Rattle.vx_region.proofs.Removals.{region_beside, region_removed}
use Rattle.vx_policy.specs.Asked.{Asked, Define, Reshape, Remove, Priority, Parent, SetFlag, ClearFlag, Listed}
use Rattle.vx_policy.specs.Edits.{given, listed, edited}
use Rattle.vx_policy.specs.Outlines.{ShapesStayBut}
use Rattle.vx_policy.specs.Refusals.{numbered, refusal}
use Rattle.vx_policy.proofs.Accepted.{id_spelled, shape_there, new_shape, local_target, numbered_there, region_there}
use Rattle.vx_policy.specs.declared.listing.Listing.{Listing}
use Rattle.vx_policy.specs.declared.listing.Listing.TheVariants.{Add, Drop}
use Rattle.vx_policy.proofs.Parts.{kept_given}
use Rattle.vx_index.specs.declared.tile.Tile.{Tile}
use Rattle.vx_index.specs.Lands.{IsLandOf}
use Rattle.vx_index.specs.Shapes.{Shapes, renewed_at, shape_at}
use Rattle.vx_index.proofs.Shapes.{at_number, elsewhere}

-- the shape of a region that is there
abbrev shaped : Option RegionData → Option Outline
shaped o = option_map (λ r. r.shape) o

-- an edit of another kind than a definition, a reshape and a removal
abbrev pub keeps_shapes : Asked → Bool
keeps_shapes (Define id shape) = false
keeps_shapes (Reshape id shape) = false
keeps_shapes (Remove id) = false
keeps_shapes e = true

-- all shapes are as before
abbrev Keeps : Regions → Regions → Type 0
Keeps rs after = (n : ℕ) → shape_at after n ≡ shape_at rs n

keeps_all : (rs : Regions) → Keeps rs rs
keeps_all rs n = refl

-- a change that leaves the shape leaves all of them
module _ (change : RegionData → RegionData) (keeps : (r : RegionData) → (change r).shape ≡ r.shape) (k : ℕ) (rs : Regions) where
  still_shaped : (o : Option RegionData) → shaped (option_map change o) ≡ shaped o
  still_shaped None = refl
  still_shaped (Some r) = ap Some (keeps r)

  shapes_kept : Keeps rs (changed change k rs)
  shapes_kept n = elim (cases_eq n k) [
    | inl same ↦
        subst (λ m. shape_at (changed change k rs) m ≡ shape_at rs m) (sym same)
        (ap shaped (region_changed change k rs) ∙ still_shaped (region_at rs k))
    | inr other ↦ ap shaped (region_elsewhere change k n rs other)
  ]

module _ (rs : Regions) (n : ℕ) where
  flagged : (f : Flag) (o : Option Setting) → Keeps rs (with_flag rs n f o)
  unfolding region_at
  flagged f o m =
      elim (cases_eq n 0) [
        | inl at_large ↦ ap (λ after. shape_at after m) (flag_at_large rs n f o at_large)
        | inr region ↦ ap (λ after. shape_at after m) (flag_of_region rs n f o region) ∙ shapes_kept _ (λ r. refl) n rs m
      ]

  gained : (roster : Roster) (name : List ℕ) (r : RegionData) → (gaining roster name r).shape ≡ r.shape
  gained Owners name r = refl
  gained Members name r = refl
  gained Domains name r = refl

  lost : (roster : Roster) (name : List ℕ) (r : RegionData) → (losing roster name r).shape ≡ r.shape
  lost Owners name r = refl
  lost Members name r = refl
  lost Domains name r = refl

  name_listed : (roster : Roster) (listing : Listing) (name : List ℕ) → Keeps rs (listed rs n roster listing name)
  unfolding with_name without_name
  name_listed roster Add name = shapes_kept (gaining roster name) (gained roster name) n rs
  name_listed roster Drop name = shapes_kept (losing roster name) (lost roster name) n rs

-- an edit of another kind leaves all shapes
kept_shapes : (rs : Regions) (e : Asked) → keeps_shapes e ≡ true → Keeps rs (edited rs e)
unfolding edited with_priority with_parent
kept_shapes rs (Define id shape) keeps = cc
kept_shapes rs (Reshape id shape) keeps = cc
kept_shapes rs (Remove id) keeps = cc
kept_shapes rs (Priority id priority) keeps =
    kept_given (Keeps rs) rs (numbered rs id) _ (keeps_all rs) (λ n. shapes_kept _ (λ r. refl) n rs)
kept_shapes rs (Parent id parent) keeps =
    kept_given (Keeps rs) rs (numbered rs id) _ (keeps_all rs) (λ n. shapes_kept _ (λ r. refl) n rs)
kept_shapes rs (SetFlag id flag setting) keeps = kept_given (Keeps rs) rs (numbered rs id) _ (keeps_all rs) (λ n. flagged rs n flag (Some setting))
kept_shapes rs (ClearFlag id flag) keeps = kept_given (Keeps rs) rs (numbered rs id) _ (keeps_all rs) (λ n. flagged rs n flag None)
kept_shapes rs (Listed roster id listing name) keeps =
    kept_given (Keeps rs) rs (numbered rs id) _ (keeps_all rs)
    (λ n. kept_given (Keeps rs) rs (read_name name) _ (keeps_all rs) (λ word. name_listed rs n roster listing word))

pub others_kept : (rs : Regions) (e : Asked) (o : Option ℕ) → keeps_shapes e ≡ true → ShapesStayBut o rs (edited rs e)
others_kept rs e o keeps n other = kept_shapes rs e keeps n

-- a definition adds the shape of the next number
pub defined : (rs : Regions) (id : List ℕ) (shape : Written) → ShapesStayBut (Some (rs.last + 1)) rs (edited rs (Define id shape))
unfolding edited
defined rs id shape =
    kept_given (ShapesStayBut (Some (rs.last + 1)) rs) rs (read_id id) _ (λ n other. refl)
    (λ word. kept_given (ShapesStayBut (Some (rs.last + 1)) rs) rs (outline_asked shape) _ (λ n other. refl)
    (λ outline n other. ap shaped (region_kept rs word outline n (λ same. other (ap Some (sym same))))))

-- a reshape puts another shape at the number of its region
pub reshaped_one : (rs : Regions) (id : List ℕ) (shape : Written) → ShapesStayBut (numbered rs id) rs (edited rs (Reshape id shape))
unfolding edited with_shape
reshaped_one rs id shape = by (numbered rs id)
  where
    by : (o : Option ℕ) → ShapesStayBut o rs (given rs o (λ k. given rs (outline_asked shape) (with_shape rs k)))
    by None n other = refl
    by (Some k) n other =
        kept_given (ShapesStayBut (Some k) rs) rs (outline_asked shape) (with_shape rs k) (λ m apart. refl)
        (λ outline m apart. ap shaped (region_elsewhere _ k m rs (λ same. apart (ap Some (sym same))))) n other

-- and a removal takes the shape of its region away
pub removed_one : (rs : Regions) (id : List ℕ) → ShapesStayBut (numbered rs id) rs (edited rs (Remove id))
unfolding edited
removed_one rs id = by (numbered rs id)
  where
    by : (o : Option ℕ) → ShapesStayBut o rs (given rs o (without_region rs))
    by None n other = refl
    by (Some k) n other = ap shaped (region_beside rs k n (λ same. other (ap Some (sym same))))

-- the shape of an option of a region that is there and got this one
some_shaped : (outline : Outline) (o : Option RegionData) → IsSome o → shaped (option_map (λ (r : RegionData). let given : RegionData = record r { shape = outline } in given) o) ≡ Some outline
some_shaped outline None there = cc
some_shaped outline (Some r) there = refl

-- and where nothing stands against it, each of the three gives that number the shape that it asks for, or none
module _ (rs : Regions) (id : List ℕ) where
  pub defined_shape : (shape : Written) → IsNumbered rs → refusal rs (Define id shape) ≡ None
      → shape_at (edited rs (Define id shape)) (rs.last + 1) ≡ outline_asked shape
  unfolding edited
  defined_shape shape numbers none = by (read_id id) refl (outline_asked shape) refl
    where
      by : (o : Option (List ℕ)) → read_id id ≡ o → (made : Option Outline) → outline_asked shape ≡ made
          → shape_at (given rs o (λ word. given rs made (with_region rs word))) (rs.last + 1) ≡ made
      by None misspelled made is = absurd (id_spelled rs id shape none misspelled)
      by (Some word) spelled None is = absurd (shape_there rs id shape none is)
      by (Some word) spelled (Some outline) is = ap shaped (region_defined rs word outline numbers)

  pub reshaped_shape : (shape : Written) (n : ℕ) → refusal rs (Reshape id shape) ≡ None → numbered rs id ≡ Some n
      → shape_at (edited rs (Reshape id shape)) n ≡ outline_asked shape
  unfolding edited with_shape
  reshaped_shape shape n none named = by (numbered rs id) named (outline_asked shape) refl
    where
      there : IsSome (region_at rs n)
      there = region_there rs id n named (local_target rs (Reshape id shape) none refl) (numbered_there rs id n named)

      by : (o : Option ℕ) → o ≡ Some n → (made : Option Outline) → outline_asked shape ≡ made
          → shape_at (given rs o (λ k. given rs made (with_shape rs k))) n ≡ made
      by None is made _ = cc
      by (Some k) is None none_made = absurd (new_shape rs id shape none none_made)
      by (Some k) is (Some outline) _ =
          let same : n ≡ k = cc in
          subst (λ m. shape_at (with_shape rs m outline) n ≡ Some outline) same
          (ap shaped (region_changed _ n rs) ∙ some_shaped outline (region_at rs n) there)

  pub removed_shape : (n : ℕ) → numbered rs id ≡ Some n → shape_at (edited rs (Remove id)) n ≡ None
  unfolding edited
  removed_shape n named = by (numbered rs id) named
    where
      by : (o : Option ℕ) → o ≡ Some n → shape_at (given rs o (without_region rs)) n ≡ None
      by None is = cc
      by (Some k) is =
          let same : n ≡ k = cc in
          subst (λ m. shape_at (without_region rs m) n ≡ None) same (ap shaped (region_removed rs n))

-- what holds of the number that a text names, if it names one
pub at_some : (P : ℕ → Type 0) (o : Option RegionNo) (named : Option ℕ) → option_map (λ n. n.0) o ≡ named → ((n : ℕ) → named ≡ Some n → P n)
    → IfSome o (λ n. P n.0)
at_some P None named is holds = tt
at_some P (Some n) named is holds = holds n.0 (sym is)

-- a land stays one where no shape changes
pub land_stays : (before after : Regions) (land : List Tile) → ShapesStayBut None before after → IsLandOf (shape_at before) land → IsLandOf (shape_at after) land
land_stays before after land stay of = subst (λ (shapes : Shapes). IsLandOf shapes land) same of
  where
    differs : (n : ℕ) → None ≢ Some n
    differs n is = cc

    same : shape_at before ≡ shape_at after
    same = λ i n. sym (stay n (differs n)) i

-- and so does a copy of it
pub copy_tells : {E : Type 0} (before after : Regions) (land : List Tile) (result : Result (List Tile) E) → ShapesStayBut None before after
    → IsLandOf (shape_at before) land → IfOk result (λ copy. copy ≡ land) → IfOk result (IsLandOf (shape_at after))
copy_tells before after land result stay of copies =
    IfOk-weaker result (λ copy. copy ≡ land) (IsLandOf (shape_at after))
    (λ copy is. subst (λ (cs : List Tile). IsLandOf (shape_at after) cs) (sym is) (land_stays before after land stay of)) copies

-- and a land with the shape of the number as it is then is one of those after the edit
pub renewed_tells : {E : Type 0} (before after : Regions) (number : ℕ) (o : Option Outline) (result : Result (List Tile) E)
    → ShapesStayBut (Some number) before after → shape_at after number ≡ o → IfOk result (IsLandOf (renewed_at (shape_at before) number o))
    → IfOk result (IsLandOf (shape_at after))
renewed_tells before after number o result stay is made = subst (λ (shapes : Shapes). IfOk result (IsLandOf shapes)) (λ i n. same n i) made
  where
    same : (n : ℕ) → renewed_at (shape_at before) number o n ≡ shape_at after n
    same n = elim (cases_eq n number) [
      | inl this ↦
          ap (renewed_at (shape_at before) number o) this ∙ at_number (shape_at before) number o ∙ sym is ∙ ap (shape_at after) (sym this)
      | inr other ↦
          elsewhere (shape_at before) number o n other
          ∙ sym (stay n (λ equal. let number_is : number ≡ n = cc in other (sym number_is)))
    ]
