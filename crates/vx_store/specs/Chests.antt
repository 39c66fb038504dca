-- The slots of a sector's chests, by their indices.
use Rattle.std.specs.Prelude.{◌≡◌, ℕ, nat_eq, Bool, List, Option, None, Some, option_map, replicate, slice_set, if◌then◌else◌}
use Rattle.std.specs.Map.{lookup, update}
use Rattle.vx_store.specs.declared.stack.TheConstants.{SLOTS}
use Rattle.vx_store.specs.declared.stack.Stack.{Stack}

-- the slots of one chest
abbrev pub Slots : Type 0
Slots = List (Option Stack)

-- the slots of each chest, beside its index
abbrev pub ChestData : Type 0
ChestData = List (ℕ × Slots)

-- the slots of the chest at an index, if there is one
abbrev pub slots_of_chest : ChestData → ℕ → Option Slots
slots_of_chest chests index = lookup (nat_eq index) chests

-- a chest with nothing in it
abbrev pub no_content : Slots
no_content = replicate SLOTS None

-- what begins with a cell: an empty chest where it is one
abbrev pub begun : Bool → Option Slots
begun b = if b then Some no_content else None

-- each index has the slots that it had
abbrev pub SameSlots : ChestData → ChestData → Type 0
SameSlots old new = (q : ℕ) → slots_of_chest new q ≡ slots_of_chest old q

-- one index has other slots or none, and all the others what they had
abbrev pub Changes : ChestData → ChestData → ℕ → Option Slots → Type 0
Changes old new index slots = (q : ℕ)
    → slots_of_chest new q ≡ update nat_eq (slots_of_chest old) index slots q

-- the slots of a chest, if there is one, with something else in one of them
abbrev pub refilled : ℕ → Option Stack → Option Slots → Option Slots
refilled slot content slots = option_map (λ each. slice_set each slot content) slots
