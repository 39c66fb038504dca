use Rattle.std.specs.Prelude.{ℕ, ◌≡◌, ◌+◌, List, [], ◌∷◌, Option, Some, None}
use Rattle.std.specs.Option.{option_and_then}
use Rattle.vx_geom.specs.Written.{outline_asked}
use Rattle.vx_region.specs.Regions.{Regions, with_region, without_region, with_shape, with_priority, with_parent, with_flag, with_name, without_name}
use Rattle.vx_name.specs.Words.{read_id, read_name}
use Rattle.vx_policy.specs.Asked.{Asked, Define, Reshape, Remove, Priority, Parent, SetFlag, ClearFlag, Listed}
use Rattle.vx_policy.specs.Refusals.{numbered, refusal}
use Rattle.vx_region.specs.declared.roster.Roster.{Roster}
use Rattle.vx_policy.specs.declared.listing.Listing.{Listing}
use Rattle.vx_policy.specs.declared.listing.Listing.TheVariants.{Add, Drop}

-- what a value that is there makes of the regions; without one they are as before
abbrev pub given : {A : Type 0} → Regions → Option A → (A → Regions) → Regions
given rs None change = rs
given rs (Some x) change = change x

-- a name on a roster more or less
abbrev pub listed : Regions → ℕ → Roster → Listing → List ℕ → Regions
listed rs n roster Add name = with_name rs n roster name
listed rs n roster Drop name = without_name rs n roster name

-- the regions after an edit that was accepted
unfoldable pub edited : Regions → Asked → Regions
edited rs (Define id shape) =
    given rs (read_id id) (λ word. given rs (outline_asked shape) (with_region rs word))
edited rs (Reshape id shape) =
    given rs (numbered rs id) (λ n. given rs (outline_asked shape) (with_shape rs n))
edited rs (Remove id) = given rs (numbered rs id) (without_region rs)
edited rs (Priority id priority) = given rs (numbered rs id) (λ n. with_priority rs n priority)
edited rs (Parent id parent) =
    given rs (numbered rs id) (λ n. with_parent rs n (option_and_then (numbered rs) parent))
edited rs (SetFlag id flag setting) =
    given rs (numbered rs id) (λ n. with_flag rs n flag (Some setting))
edited rs (ClearFlag id flag) = given rs (numbered rs id) (λ n. with_flag rs n flag None)
edited rs (Listed roster id listing name) =
    given rs (numbered rs id) (λ n. given rs (read_name name) (listed rs n roster listing))

-- the number that an edit gives: a definition the one above all that were ever given
abbrev pub number_given : Regions → Asked → Option ℕ
number_given rs (Define id shape) = Some (rs.last + 1)
number_given rs e = None

-- the regions after these edits, one after another
abbrev pub after : Regions → List Asked → Regions
after rs [] = rs
after rs (e ∷ es) = after (edited rs e) es

-- each of these edits is accepted in its turn
abbrev pub AreAccepted : Regions → List Asked → Type 0
AreAccepted rs [] = Unit {0}
AreAccepted rs (e ∷ es) = (refusal rs e ≡ None) × AreAccepted (edited rs e) es
