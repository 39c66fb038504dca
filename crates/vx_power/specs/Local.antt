-- How far the signals at a position see.
use Rattle.std.specs.Prelude.{◌≡◌, ℕ, zero, suc, ◌+◌, pos, ◌+ℤ◌, ◌-ℤ◌, Bool, true, List, [], ◌∷◌, ◌++◌, Option}
use Rattle.std.specs.List.{list_any}
use Rattle.vx_geom.specs.declared.pos.Pos.{Pos}
use Rattle.vx_geom.specs.declared.dir.Dir.{Dir}
use Rattle.vx_geom.specs.Dirs.{all_dirs}
use Rattle.vx_geom.specs.Neighbor.{neighbor}
use Rattle.vx_block.specs.declared.cell.Cell.{Cell}
use Rattle.vx_block.specs.declared.cell.Cell.TheVariants.{Dust, Repeater, Lamp}
use Rattle.vx_block.specs.declared.lamp.Lamp.TheVariants.{Off}
use Rattle.vx_power.specs.declared.columns.Columns.{Columns}
use Rattle.vx_power.specs.Dust.{links}
use Rattle.vx_power.specs.Laws.{dust_level}
use Rattle.vx_power.specs.Levels.{is_in}
use Rattle.vx_power.specs.Signals.{is_fed, is_powered, is_active}
use Rattle.vx_power.specs.Walks.{IsAmong}

-- what f gives for the neighbors of p in these directions, joined
abbrev pub around : (Pos → List Pos) → Pos → List Dir → List Pos
around f p [] = []
around f p (d ∷ ds) = f (neighbor p d) ++ around f p ds

-- the positions that at most so many steps lead to from p
abbrev pub within_steps : ℕ → Pos → List Pos
within_steps zero p = p ∷ []
within_steps (suc n) p = within_steps n p ++ around (within_steps n) p all_dirs

-- at these positions the two have the same
abbrev pub AreAlike : {X : Type 0} → List Pos → (Pos → X) → (Pos → X) → Type 0
AreAlike ps f g = (q : Pos) → IsAmong ps q → f q ≡ g q

-- what decides whether dust at p is fed, and what it links to
abbrev pub sees : Pos → List Pos
sees p = within_steps 2 p

-- and nothing else does
abbrev pub DustSees : Type 0
DustSees = (w v : Pos → Cell) (p : Pos) → AreAlike (sees p) w v
    → (is_fed w p ≡ is_fed v p) × (links w p ≡ links v p)

-- a change is in sight of p
abbrev pub is_touched : (Pos → Bool) → Pos → Bool
is_touched changed p = list_any changed (sees p)

-- wherever at most so many steps lead from p, these are the levels of the map
unfoldable pub AreLevelsNear : (Pos → Cell) → ℕ → Pos → (Pos → ℕ) → Type 0
AreLevelsNear w n p level = AreAlike (within_steps n p) level (dust_level w)

-- power at p: the cells that three steps lead to, and the levels beside it
abbrev pub PowerSees : Type 0
PowerSees = (w v : Pos → Cell) (a b : Pos → ℕ) (p : Pos)
    → AreAlike (within_steps 3 p) w v → AreAlike (within_steps 1 p) a b
    → is_powered w a p ≡ is_powered v b p

-- what makes a lamp or a piston at p active: one step more of both
abbrev pub ActivitySees : Type 0
ActivitySees = (w v : Pos → Cell) (a b : Pos → ℕ) (front : Option Dir) (p : Pos)
    → AreAlike (within_steps 4 p) w v → AreAlike (within_steps 2 p) a b
    → is_active w a front p ≡ is_active v b front p

-- what a cell shows to other positions: all but the level that dust stores, the state of a lamp and
-- what a repeater counts
abbrev pub shown : Cell → Cell
shown (Dust level) = Dust 0
shown (Repeater r) = Repeater (record r { wait = 0 })
shown (Lamp state) = Lamp Off
shown other = other

-- at these positions the two maps show the same
abbrev pub ShowAlike : List Pos → (Pos → Cell) → (Pos → Cell) → Type 0
ShowAlike ps w v = AreAlike ps (λ q. shown (w q)) (λ q. shown (v q))

-- of what they see, dust, power and activity depend on what is shown there alone
abbrev pub DustSeesShown : Type 0
DustSeesShown = (w v : Pos → Cell) (p : Pos) → ShowAlike (sees p) w v
    → (is_fed w p ≡ is_fed v p) × (links w p ≡ links v p)

abbrev pub PowerSeesShown : Type 0
PowerSeesShown = (w v : Pos → Cell) (a b : Pos → ℕ) (p : Pos)
    → ShowAlike (within_steps 3 p) w v → AreAlike (within_steps 1 p) a b
    → is_powered w a p ≡ is_powered v b p

abbrev pub ActivitySeesShown : Type 0
ActivitySeesShown = (w v : Pos → Cell) (a b : Pos → ℕ) (front : Option Dir) (p : Pos)
    → ShowAlike (within_steps 4 p) w v → AreAlike (within_steps 2 p) a b
    → is_active w a front p ≡ is_active v b front p

-- the columns up to so many off that of p
abbrev pub columns_by : Pos → ℕ → Columns
columns_by p d = record {
  west = p.x -ℤ pos d;
  east = p.x +ℤ pos (d + 1);
  north = p.z -ℤ pos d;
  south = p.z +ℤ pos (d + 1);
}

-- a level is decided within 16 columns of its dust: 14 links, and two steps further
abbrev pub LevelsAreLocal : Type 0
LevelsAreLocal = (w v : Pos → Cell) (p : Pos)
    → ((q : Pos) → is_in (columns_by p 16) q ≡ true → w q ≡ v q)
    → dust_level w p ≡ dust_level v p
