-- Levels that are being made right again: which positions have to be looked at.
use Rattle.std.specs.Prelude.{◌≡◌, ℕ, ◌+◌, ◌≤◌, ◌==◌, nat_lt, nat_le, ◌&&◌, Bool, true, false, ◌||◌, if◌then◌else◌, List}
use Rattle.std.specs.List.{filter}
use Rattle.vx_geom.specs.declared.pos.Pos.{Pos}
use Rattle.vx_block.specs.declared.cell.Cell.{Cell}
use Rattle.vx_block.specs.Components.{is_dust}
use Rattle.vx_levels.specs.Consistency.{IsConsistent}
use Rattle.vx_power.specs.Dust.{links}
use Rattle.vx_power.specs.Levels.{has, same_place}
use Rattle.vx_power.specs.Signals.{is_fed}

-- positions that have to be looked at: where it may be new whether dust is fed, and what it links
-- to; where a level may be too high; and where one may be too low
pub record PendingData : Type 0 where
  pub unsure : List Pos
  pub falling : List Pos
  pub rising : List Pos

-- the position is in one of the three lists
abbrev pub is_pending : PendingData → Pos → Bool
is_pending pending p = has pending.unsure p || (has pending.falling p || has pending.rising p)

-- all dust elsewhere has what it is told, and 15 is had by fed dust alone
pub record AreKept (w : Pos → Cell) (level : Pos → ℕ) (pending : PendingData) : Type 0 where
  pub low : (p : Pos) → level p ≤ 15
  pub fed : (p : Pos) → is_dust (w p) ≡ true → has pending.unsure p ≡ false
      → (level p == 15) ≡ is_fed w p
  pub sure : (p : Pos) → is_dust (w p) ≡ true → is_pending pending p ≡ false
      → IsConsistent w level p

-- one more than the level of q lies from `least` up to below `bound`
abbrev pub is_between : (Pos → ℕ) → ℕ → ℕ → Pos → Bool
is_between level least bound q = nat_le least (level q + 1) && nat_lt (level q + 1) bound

-- what p links to of such a level
abbrev pub linked_below : (Pos → Cell) → (Pos → ℕ) → ℕ → ℕ → Pos → List Pos
linked_below w level least bound p = filter (is_between level least bound) (links w p)

-- another level at one position
abbrev pub IsPut : (Pos → ℕ) → (Pos → ℕ) → Pos → ℕ → Type 0
IsPut old new p level = (q : Pos) → new q ≡ (if same_place q p then level else old q)
