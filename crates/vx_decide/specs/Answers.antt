use Rattle.std.specs.Prelude.{◌≡◌, ℕ, ◌≤◌, ◌≤ℤ◌, ◌⊎◌, true, false, List, ◌∷◌, ◌++◌, Option, Some, None, option_map, Contains}
use Rattle.vx_flag.specs.declared.flag.Flag.{Flag}
use Rattle.vx_flag.specs.declared.setting.Setting.{Setting}
use Rattle.vx_flag.specs.declared.state.State.{State}
use Rattle.vx_flag.specs.declared.state.State.TheVariants.{Deny}
use Rattle.vx_flag.specs.Group.{fits}
use Rattle.vx_region.specs.Ancestry.{ancestors, is_above}
use Rattle.vx_region.specs.Association.{association}
use Rattle.vx_region.specs.Regions.{Entry, RegionData, Regions, setting_at}
use Rattle.vx_region.specs.Subjects.{Actor}
use Rattle.vx_decide.specs.declared.answer.Answer.{Answer}
use Rattle.vx_decide.specs.declared.question.Question.{Question}
use Rattle.vx_decide.specs.declared.question.Question.TheVariants.{OnBuilding}
use Rattle.vx_decide.specs.declared.value.Value.{Value}
use Rattle.vx_decide.specs.Cases.{Case}
use Rattle.vx_decide.specs.Build.{admits}
use Rattle.vx_decide.specs.Effective.{value_at, effective, has_value}
use Rattle.vx_decide.specs.Query.{flag_of_question, contains, counts, is_top, is_taken}
use Rattle.vx_decide.specs.RegionGroups.{Members}

-- the region is among these and a member
pub record In (members : Members) (es : List Entry) (e : Entry) : Type 0 where
  pub among : Contains es e
  pub passes : members e ≡ true

-- a member of this number is among these, and none has a lesser number
pub record IsLeast (members : Members) (es : List Entry) (n : ℕ) : Type 0 where
  pub region : RegionData
  pub member : In members es (n, region)
  pub least : (e : Entry) → In members es e → n ≤ e.0

-- what the region of the number says on the question
abbrev pub value_for : Question → Case → ℕ → Option Value
value_for q a n = effective a.regions a.actor (flag_of_question q) n

-- a state where there is a value
abbrev pub value_state : Option Value → Option State
value_state = option_map (λ v. v.state)

-- the region is taken: its value decides on the question
abbrev pub IsTaken : Question → Case → Entry → Type 0
IsTaken q a e = In (is_taken q a) a.regions.entries e

-- a region of this number contains the place
abbrev pub IsAtPlace : Case → ℕ → Type 0
IsAtPlace a n = (r : RegionData) × Contains a.regions.entries (n, r) × (contains a (n, r) ≡ true)

-- the region is among those that contain the place and have a say on the question
abbrev pub Counts : Question → Case → Entry → Type 0
Counts q a e = In (counts q a) a.regions.entries e

-- the region counts, none that counts has a higher priority, and it has a value for the flag that
-- is asked for
pub record Speaks (q : Question) (a : Case) (e : Entry) : Type 0 where
  pub counts : Counts q a e
  pub highest : (d : Entry) → Counts q a d → d.1.priority ≤ℤ e.1.priority
  pub value : has_value a.regions a.actor (flag_of_question q) e.0 ≡ true

-- the region speaks, and is no ancestor of another that speaks
pub record SpeaksLowest (q : Question) (a : Case) (e : Entry) : Type 0 where
  pub speaks : Speaks q a e
  pub lowest : (d : Entry) → Speaks q a d → is_above a.regions e.0 d.1 ≡ false

-- the answer is that of a region taken; it denies where one that is taken denies; and it names the
-- least of those that say the same
pub record IsAnswer (q : Question) (a : Case) (answer : Answer) : Type 0 where
  pub region : RegionData
  pub taken : IsTaken q a (answer.at.0, region)
  pub value : value_for q a answer.at.0 ≡ Some answer.value
  pub deny_wins : (e : Entry) → IsTaken q a e → value_state (value_for q a e.0) ≡ Some Deny
      → answer.value.state ≡ Deny
  pub least : (e : Entry) → IsTaken q a e
      → value_state (value_for q a e.0) ≡ Some answer.value.state → answer.at.0 ≤ e.0

-- the value of a flag is set by the nearest region of the ancestry that sets it for those who are
-- to the region at which the question began what the actor is
pub record IsInherited (rs : Regions) (s : Actor) (f : Flag) (n : ℕ) (v : Value) : Type 0 where
  pub nearer : List ℕ
  pub farther : List ℕ
  pub ancestry : ancestors rs n ≡ nearer ++ v.from.0 ∷ farther
  pub setting : Setting
  pub set : setting_at rs v.from.0 f ≡ Some setting
  pub fitting : fits setting.group (association rs s n) ≡ true
  pub state : setting.state ≡ v.state
  pub silent : (m : ℕ) → Contains nearer m → value_at rs f (association rs s n) m ≡ None

-- the region is of highest priority on building
abbrev pub OnTop : Case → Entry → Type 0
OnTop a e = In (is_top OnBuilding a) a.regions.entries e

-- the region is of highest priority on building, and admits the actor neither by itself nor by one
-- of its descendants of the same priority
pub record Fails (a : Case) (e : Entry) : Type 0 where
  pub top : OnTop a e
  pub stranger : admits a e.0 ≡ false
  pub no_home : (d : Entry) → OnTop a d → admits a d.0 ≡ true → is_above a.regions e.0 d.1 ≡ false

-- membership denies: the region contains the place and fails, and none that fails has a lesser
-- number
pub record MemberDenies (a : Case) (n : ℕ) : Type 0 where
  pub region : RegionData
  pub place : contains a (n, region) ≡ true
  pub fails : Fails a (n, region)
  pub least : (e : Entry) → Fails a e → n ≤ e.0

-- the region admits the actor by itself or by one of its descendants of the same priority
abbrev pub IsSatisfied : Case → Entry → Type 0
IsSatisfied a e = (admits a e.0 ≡ true)
    ⊎ ((d : Entry) × OnTop a d × (admits a d.0 ≡ true) × (is_above a.regions e.0 d.1 ≡ true))

-- membership permits: the region contains the place and admits the actor, none that does has a
-- lesser number, and every region of highest priority is satisfied
pub record MemberPermits (a : Case) (n : ℕ) : Type 0 where
  pub region : RegionData
  pub place : contains a (n, region) ≡ true
  pub top : OnTop a (n, region)
  pub insider : admits a n ≡ true
  pub satisfied : (e : Entry) → OnTop a e → IsSatisfied a e
  pub least : (e : Entry) → OnTop a e → admits a e.0 ≡ true → n ≤ e.0
