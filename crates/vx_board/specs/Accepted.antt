use Rattle.std.specs.Prelude.{ℕ, ◌≡◌, ◌+◌, ◌≤◌, ◌<◌, ◌^◌, Some, None, option_map, Result, Ok, Err}
use Rattle.vx_region.specs.Regions.{Regions}
use Rattle.vx_policy.specs.Asked.{Asked}
use Rattle.vx_policy.specs.Edits.{number_given}
use Rattle.vx_policy.specs.Refusals.{refusal}
use Rattle.vx_board.specs.declared.edited.Edited.{Edited}
use Rattle.vx_board.specs.declared.desk_error.DeskError.{DeskError}
use Rattle.vx_board.specs.declared.desk_error.DeskError.TheVariants.{HistoryFull, Refused, NoMemory}

-- how many edits a desk accepts
abbrev pub most_edits : ℕ
most_edits = 2 ^ 40

-- what an error of a desk says of an edit, when so many were accepted before it: the first that
-- holds of a full list, a cause of the policy's, and want of memory
abbrev pub IsRefused : Regions → ℕ → Asked → DeskError → Type 0
IsRefused rs count e HistoryFull = most_edits ≤ count
IsRefused rs count e (Refused cause) = (count < most_edits) × (refusal rs e ≡ Some cause)
IsRefused rs count e NoMemory = (count < most_edits) × (refusal rs e ≡ None)

-- what a desk answers to an edit, on regions that so many accepted edits left: how many are
-- accepted with it and the number that a definition gave, where nothing stands against it, or why
-- it is not accepted
abbrev pub IsAnswer : Regions → ℕ → Asked → Result Edited DeskError → Type 0
IsAnswer rs count e (Ok edited) =
    (count < most_edits) × (refusal rs e ≡ None) × (edited.count ≡ count + 1)
    × (option_map (λ n. n.0) edited.region ≡ number_given rs e)
IsAnswer rs count e (Err error) = IsRefused rs count e error
