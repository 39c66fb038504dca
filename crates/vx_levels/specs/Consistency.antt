-- Levels that agree with one another: each place has what the places that it links to tell.
use Rattle.std.specs.Prelude.{◌≡◌, ℕ, ◌-◌, ◌≤◌, max, Bool, true, if◌then◌else◌, List, [], ◌∷◌}
use Rattle.vx_geom.specs.declared.pos.Pos.{Pos}
use Rattle.vx_block.specs.declared.cell.Cell.{Cell}
use Rattle.vx_block.specs.Components.{is_dust}
use Rattle.vx_power.specs.Dust.{links}
use Rattle.vx_power.specs.Laws.{dust_level}
use Rattle.vx_power.specs.Signals.{is_fed}

-- the greatest of the levels of these places; 0 where there are none
abbrev pub greatest : {X : Type 0} → (X → ℕ) → List X → ℕ
greatest level [] = 0
greatest level (q ∷ qs) = max (level q) (greatest level qs)

-- what a place is told: 15 where it is fed, else one less than the greatest that it links to
unfoldable pub pulled : {X : Type 0} → (X → Bool) → (X → List X) → (X → ℕ) → X → ℕ
pulled fed links level p = if fed p then 15 else greatest level (links p) - 1

-- dust on a map has what it is told
abbrev pub IsConsistent : (Pos → Cell) → (Pos → ℕ) → Pos → Type 0
IsConsistent w level p = level p ≡ pulled (is_fed w) (links w) level p

-- each dust of a map has a level of at most 15, and it is what the dust is told
abbrev pub IsConsistentOn : (Pos → Cell) → (Pos → ℕ) → Type 0
IsConsistentOn w level = (p : Pos) → is_dust (w p) ≡ true
    → (level p ≤ 15) × IsConsistent w level p

-- each dust of a map has its level
abbrev pub IsExactOn : (Pos → Cell) → (Pos → ℕ) → Type 0
IsExactOn w level = (p : Pos) → is_dust (w p) ≡ true → level p ≡ dust_level w p

-- where all dust has what it is told each has its level
abbrev pub ConsistentIsExact : Type 0
ConsistentIsExact = (w : Pos → Cell) (level : Pos → ℕ) → IsConsistentOn w level → IsExactOn w level

-- and where each has its level all have what they are told
abbrev pub ExactIsConsistent : Type 0
ExactIsConsistent = (w : Pos → Cell) (level : Pos → ℕ) → IsExactOn w level → IsConsistentOn w level
