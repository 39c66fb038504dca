use Rattle.std.specs.Prelude.{◌≡◌, ℕ, ◌+◌, ◌-◌, Bool, true, false, not, nat_eq, if◌then◌else◌, Option, Some, None}
use Rattle.vx_store.specs.declared.stack.Stack.{Stack}
use Rattle.vx_cells.specs.SectorCells.{IsSlot}

-- how many items a slot holds
abbrev pub count_in : Option Stack → ℕ
count_in None = 0
count_in (Some stack) = stack.count

-- a slot holds something
abbrev pub is_filled : Option Stack → Bool
is_filled None = false
is_filled (Some stack) = true

-- a slot holds another item than this one
abbrev pub holds_other : ℕ → Option Stack → Bool
holds_other item None = false
holds_other item (Some stack) = not (nat_eq stack.item item)

-- a slot with so many more of an item
abbrev pub with_more : ℕ → ℕ → Option Stack → Option Stack
with_more item count slot = Some (record { item = item; count = count_in slot + count })

-- a slot with so many fewer; one from which all are taken is empty
abbrev pub with_fewer : ℕ → Option Stack → Option Stack
with_fewer count None = None
with_fewer count (Some stack) =
    if nat_eq stack.count count
    then None
    else Some (record stack { count = stack.count - count })

-- a slot holds nothing but this item
abbrev pub IsOf : ℕ → Option Stack → Type 0
IsOf item None = Unit {0}
IsOf item (Some stack) = stack.item ≡ item

-- both are slots: the first holds nothing but this item, and the second so many more of it
pub record HoldsMore (item count : ℕ) (low high : Option Stack) : Type 0 where
  pub low_slot : IsSlot low
  pub high_slot : IsSlot high
  pub only : IsOf item low
  pub more : high ≡ Some (record { item = item; count = count_in low + count })
