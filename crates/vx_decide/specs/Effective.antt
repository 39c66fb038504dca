use Rattle.std.specs.Prelude.{ℕ, Bool, true, false, if◌then◌else◌, List, [], ◌∷◌, Option, Some, None, is_some}
use Rattle.std.specs.Option.{option_or}
use Rattle.vx_flag.specs.declared.association.Association.{Association}
use Rattle.vx_flag.specs.declared.flag.Flag.{Flag}
use Rattle.vx_flag.specs.declared.setting.Setting.{Setting}
use Rattle.vx_flag.specs.declared.state.State.{State}
use Rattle.vx_flag.specs.declared.state.State.TheVariants.{Allow, Deny}
use Rattle.vx_flag.specs.Group.{fits}
use Rattle.vx_region.specs.declared.region_no.RegionNo.{RegionNo}
use Rattle.vx_region.specs.Regions.{Regions, setting_at}
use Rattle.vx_region.specs.Ancestry.{ancestors}
use Rattle.vx_region.specs.Association.{association}
use Rattle.vx_region.specs.Subjects.{Actor}
use Rattle.vx_decide.specs.declared.value.Value.{Value}

abbrev pub region_no : ℕ → RegionNo
region_no n = record { 0 = n }

-- what is set counts where its group fits the association
abbrev pub heard : ℕ → Association → Option Setting → Option Value
heard n a None = None
heard n a (Some s) =
    if fits s.group a then Some (record { state = s.state; from = region_no n }) else None

-- the value that the region of the number itself sets for those of this association
unfoldable pub value_at : Regions → Flag → Association → ℕ → Option Value
value_at rs f a n = heard n a (setting_at rs n f)

-- the first that there is
abbrev pub first_of : {X : Type 0} → (ℕ → Option X) → List ℕ → Option X
first_of f [] = None
first_of f (n ∷ ns) = option_or (f n) (first_of f ns)

-- the value of a flag for an actor at a region: the one that the nearest region of its ancestry
-- sets for those who are to that region, at which the question began, what the actor is
unfoldable pub effective : Regions → Actor → Flag → ℕ → Option Value
effective rs s f n = first_of (value_at rs f (association rs s n)) (ancestors rs n)

-- there is a value
unfoldable pub has_value : Regions → Actor → Flag → ℕ → Bool
has_value rs s f n = is_some (effective rs s f n)

abbrev pub is_deny : Option Value → Bool
is_deny None = false
is_deny (Some v) = by v.state
  where
    by : State → Bool
    by Deny = true
    by Allow = false

abbrev pub is_allow : Option Value → Bool
is_allow None = false
is_allow (Some v) = by v.state
  where
    by : State → Bool
    by Deny = false
    by Allow = true
