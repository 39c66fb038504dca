-- Parts that are turned on and off: what that leaves as it is, and who heeds it.
use Rattle.std.specs.Prelude.{◌≡◌, ℕ, Bool, true, false, nat_lt, List, Option}
use Rattle.vx_geom.specs.declared.pos.Pos.{Pos}
use Rattle.vx_geom.specs.declared.dir.Dir.{Dir}
use Rattle.vx_geom.specs.Neighbor.{neighbor}
use Rattle.vx_block.specs.declared.cell.Cell.{Cell}
use Rattle.vx_block.specs.declared.cell.Cell.TheVariants.{Torch, Lever, Repeater}
use Rattle.vx_block.specs.Conductors.{conducts}
use Rattle.vx_power.specs.Dust.{links}
use Rattle.vx_power.specs.Levels.{has}
use Rattle.vx_power.specs.Local.{within_steps, sees, shown, AreAlike}
use Rattle.vx_power.specs.Signals.{is_fed, is_active}
use Rattle.vx_power.specs.Spreading.{fed_by}
use Rattle.vx_power.specs.Walks.{IsAmong}

-- a torch, a lever or a repeater as it is when it is on
abbrev pub turned_on : Cell → Cell
turned_on (Torch facing lit) = Torch facing true
turned_on (Lever facing on) = Lever facing true
turned_on (Repeater r) = Repeater (record r { on = true })
turned_on other = other

-- a map on which all of them are on
abbrev pub all_on : (Pos → Cell) → Pos → Cell
all_on w p = turned_on (w p)

-- how a cell is built: all that it shows but whether it is on
abbrev pub built : Cell → Cell
built c = turned_on (shown c)

-- at these positions the two maps are built alike
abbrev pub BuiltAlike : List Pos → (Pos → Cell) → (Pos → Cell) → Type 0
BuiltAlike ps w v = AreAlike ps (λ q. built (w q)) (λ q. built (v q))

-- what holds of each position that a part at p takes power from: its own, those beside it, and those
-- beside a conductor that is beside it
pub record EachHeeded (w : Pos → Cell) (p : Pos) (P : Pos → Type 0) : Type 0 where
  pub own : P p
  pub beside : (d : Dir) → P (neighbor p d)
  pub through : (d e : Dir) → conducts (w (neighbor p d)) ≡ true → P (neighbor (neighbor p d) e)

-- there the two maps show the same
abbrev pub ShowHeeded : (Pos → Cell) → (Pos → Cell) → Pos → Type 0
ShowHeeded w v p = EachHeeded w p (λ q. shown (w q) ≡ shown (v q))

-- the level of dust is over 0
abbrev pub has_power : (Pos → ℕ) → Pos → Bool
has_power level q = nat_lt 0 (level q)

-- there the same dust has power
abbrev pub PowerHeeded : (Pos → Cell) → (Pos → ℕ) → (Pos → ℕ) → Pos → Type 0
PowerHeeded w a b p = EachHeeded w p (λ q. has_power a q ≡ has_power b q)

-- what dust links to depends on how the cells that it sees are built, and on nothing else
abbrev pub LinksSeeBuilt : Type 0
LinksSeeBuilt = (w v : Pos → Cell) (p : Pos) → BuiltAlike (sees p) w v → links w p ≡ links v p

-- and where these are built alike it is fed alike, unless some part that was turned would feed it,
-- were it on
abbrev pub FeedingSeesTurned : Type 0
FeedingSeesTurned = (w v : Pos → Cell) (turned : List Pos) (p : Pos) → BuiltAlike (sees p) w v
    → ((q : Pos) → IsAmong (sees p) q → has turned q ≡ false → shown (w q) ≡ shown (v q))
    → has (fed_by (all_on v) turned) p ≡ false → is_fed w p ≡ is_fed v p

-- what is active at p depends on how the cells that it sees are built, and of those that it heeds on
-- what they show and on which dust has power
abbrev pub ActivityHeeds : Type 0
ActivityHeeds = (w v : Pos → Cell) (a b : Pos → ℕ) (front : Option Dir) (p : Pos)
    → BuiltAlike (within_steps 4 p) w v → ShowHeeded w v p → PowerHeeded w a b p
    → is_active w a front p ≡ is_active v b front p
