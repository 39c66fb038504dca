-- Work that is shared out among workers, a piece for each sector.
use Rattle.std.specs.Prelude.{◌≡◌, ℕ, suc, ◌+◌, ◌*◌, ◌/◌, ◌<◌, ◌≤◌, if◌then◌else◌, List, [], ◌∷◌, length}
use Rattle.std.specs.Bool.{⊤}
use Rattle.vx_block.specs.declared.cell.Cell.{Cell}
use Rattle.vx_geom.specs.declared.pos.Pos.{Pos}
use Rattle.vx_cells.specs.Maps.{MapData}
use Rattle.vx_cells.specs.SectorCells.{SectorCells, holds, with_cell}
use Rattle.vx_tick.specs.declared.found.Found.{Found}
use Rattle.vx_tick.specs.Pieces.{asked_in, changed_in, restless_in}

-- where part i of k begins, where n are divided among them
abbrev pub first_of : ℕ → ℕ → ℕ → ℕ
first_of n k i = (i * n) / k

-- of n sectors that k workers share out, s is among those of worker i
abbrev pub IsOwn : ℕ → ℕ → ℕ → ℕ → Type 0
IsOwn n k i s = (first_of n k i ≤ s) × (s < first_of n k (i + 1))

-- each sector is that of some worker
abbrev pub EachIsOwn : Type 0
EachIsOwn = (n k s : ℕ) → 0 < k → s < n → (i : ℕ) × (i < k) × IsOwn n k i s

-- and of no other
abbrev pub NoneIsShared : Type 0
NoneIsShared = (n k s i j : ℕ) → 0 < k → IsOwn n k i s → IsOwn n k j s → i ≡ j

-- P holds of each of these with its number, from number k on
abbrev pub AreEach : {X : Type 0} → (ℕ → X → Type 0) → ℕ → List X → Type 0
AreEach P k [] = ⊤
AreEach P k (x ∷ xs) = P k x × AreEach P (suc k) xs

-- these are those from number a up to below b, and P holds of each with its number
pub record AreFromTo {X : Type 0} (P : ℕ → X → Type 0) (a b : ℕ) (xs : List X) : Type 0 where
  pub all : a + length xs ≡ b
  pub each : AreEach P a xs

-- these are those of part i of k
abbrev pub IsShare : {X : Type 0} → (ℕ → X → Type 0) → ℕ → ℕ → ℕ → List X → Type 0
IsShare P n k i xs = AreFromTo P (first_of n k i) (first_of n k (i + 1)) xs

-- a sector with those of these cells put down that lie in it, one after another
abbrev pub with_own : SectorCells → List (Pos × Cell) → SectorCells
with_own c [] = c
with_own c (put ∷ puts) =
    with_own (if holds c put.0 then with_cell c put.0 put.1 else c) puts

-- what was found in the sector of number k
abbrev pub IsFoundIn : MapData → ℕ → Found → Type 0
IsFoundIn m k found =
    (found.changes.items ≡ changed_in m k)
    × (found.restless.items ≡ restless_in m k)
    × (found.moves.items ≡ asked_in m k)
