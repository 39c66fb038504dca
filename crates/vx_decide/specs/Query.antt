use Rattle.std.specs.Prelude.{ℕ, Bool, not, ◌&&◌, ◌||◌, Option, option_map}
use Rattle.std.specs.Option.{option_or, option_and_then}
use Rattle.vx_flag.specs.declared.flag.Flag.{Flag}
use Rattle.vx_flag.specs.declared.flag.Flag.TheVariants.{Build, Passthrough}
use Rattle.vx_geom.specs.Outline.{is_in}
use Rattle.vx_region.specs.Regions.{Entry}
use Rattle.vx_decide.specs.declared.answer.Answer.{Answer}
use Rattle.vx_decide.specs.declared.question.Question.{Question}
use Rattle.vx_decide.specs.declared.question.Question.TheVariants as question
use Rattle.vx_decide.specs.Cases.{Case}
use Rattle.vx_decide.specs.Effective.{region_no, effective, has_value, is_deny, is_allow}
use Rattle.vx_decide.specs.RegionGroups.{is_highest, is_lowest, least}

-- the flag whose value is asked for
abbrev pub flag_of_question : Question → Flag
flag_of_question (question.OnFlag f) = f
flag_of_question question.OnBuilding = Build

-- the region contains the place
unfoldable pub contains : Case → Entry → Bool
contains a e = is_in e.1.shape a.place

-- the region of the number has a value for the flag; on building, it counts also where it does not
-- let pass
unfoldable pub has_say : Question → Case → ℕ → Bool
has_say (question.OnFlag f) a n = has_value a.regions a.actor f n
has_say question.OnBuilding a n =
    has_value a.regions a.actor Build n
    || not (is_allow (effective a.regions a.actor Passthrough n))

-- the region contains the place and has a say
unfoldable pub counts : Question → Case → Entry → Bool
counts q a e = contains a e && has_say q a e.0

-- it counts, and none that counts has a higher priority
unfoldable pub is_top : Question → Case → Entry → Bool
is_top q a e = is_highest (counts q a) a.regions.entries e

-- it is of highest priority and has a value
unfoldable pub speaks : Question → Case → Entry → Bool
speaks q a e = is_top q a e && has_value a.regions a.actor (flag_of_question q) e.0

-- it speaks, and is no ancestor of another that speaks
unfoldable pub is_taken : Question → Case → Entry → Bool
is_taken q a e = is_lowest (speaks q a) a.regions e

-- it is taken, and its value denies
unfoldable pub is_denying : Question → Case → Entry → Bool
is_denying q a e = is_deny (effective a.regions a.actor (flag_of_question q) e.0) && is_taken q a e

unfoldable pub first_denying : Question → Case → Option ℕ
first_denying q a = least (is_denying q a) a.regions.entries

unfoldable pub first_taken : Question → Case → Option ℕ
first_taken q a = least (is_taken q a) a.regions.entries

-- the least region taken that denies, else the least taken
unfoldable pub decider : Question → Case → Option ℕ
decider q a = option_or (first_denying q a) (first_taken q a)

-- the answer of the region of the number: its value
unfoldable pub answer_at : Case → Flag → ℕ → Option Answer
answer_at a f n =
    option_map (λ v. record { at = region_no n; value = v }) (effective a.regions a.actor f n)

-- what the regions at the place answer
unfoldable pub decided : Question → Case → Option Answer
decided q a = option_and_then (answer_at a (flag_of_question q)) (decider q a)

-- what they answer on a flag, else what the world at large says on it
unfoldable pub query : Flag → Case → Option Answer
query f a = option_or (decided (question.OnFlag f) a) (answer_at a f 0)
