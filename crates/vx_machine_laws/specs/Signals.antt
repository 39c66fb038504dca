-- What gives power and what takes it, case by case. Each takes what stands at each position.
use Rattle.std.specs.Prelude.{◌≡◌, ℕ, ◌<◌, true, ◌⊎◌, Some, None}
use Rattle.vx_geom.specs.declared.pos.Pos.{Pos}
use Rattle.vx_geom.specs.declared.dir.Dir.{Dir}
use Rattle.vx_geom.specs.declared.dir.Dir.TheVariants.{Up, Down}
use Rattle.vx_geom.specs.Neighbor.{neighbor}
use Rattle.vx_block.specs.declared.side.Side.{Side}
use Rattle.vx_block.specs.declared.mount.Mount.{Mount}
use Rattle.vx_block.specs.declared.cell.Cell.{Cell}
use Rattle.vx_block.specs.declared.cell.Cell.TheVariants.{Dust, Torch, Lever, Repeater}
use Rattle.vx_block.specs.Conductors.{conducts}
use Rattle.vx_block.specs.Repeating.{Repeating}
use Rattle.vx_block.specs.States.{mount_dir, side_dir}
use Rattle.vx_power.specs.Dust.{points}
use Rattle.vx_power.specs.Signals.{gives, drives, is_strong, is_fed, is_powered, activates, is_active}
use Rattle.vx_machine_laws.specs.Exactly.{Exactly}

-- a lever that is on
abbrev pub IsLeverOn : Cell → Type 0
IsLeverOn c = (mounted : Dir) × (c ≡ Lever mounted true)

-- a repeater that is on and faces that way
abbrev pub IsRepeaterOn : Cell → Dir → Type 0
IsRepeaterOn c d = (r : Repeating) × (c ≡ Repeater r) × (r.on ≡ true) × (side_dir r.facing ≡ d)

-- a lit torch that is not mounted on what lies in that direction
abbrev pub IsTorchLitTo : Cell → Dir → Type 0
IsTorchLitTo c d = (mounted : Mount) × (c ≡ Torch mounted true) × (mount_dir mounted ≡ d → ⊥)

-- a cell gives power in that direction as a lit torch that is mounted on something else, as a lever
-- that is on, or as a repeater that is on and faces that way
abbrev pub Gives : Cell → Dir → Type 0
Gives c d = IsTorchLitTo c d ⊎ (IsLeverOn c ⊎ IsRepeaterOn c d)

-- it drives a conductor in that direction as a lit torch right below it, as a lever that is on and
-- mounted on it, or as a repeater that is on and faces that way
abbrev pub Drives : Cell → Dir → Type 0
Drives c d =
    ((mounted : Mount) × (c ≡ Torch mounted true) × (d ≡ Up))
    ⊎ ((c ≡ Lever d true) ⊎ IsRepeaterOn c d)

-- a lit torch stands right below p
abbrev pub TorchBelow : (Pos → Cell) → Pos → Type 0
TorchBelow w p = (mounted : Mount) × (w (neighbor p Down) ≡ Torch mounted true)

-- a lever that is on is mounted on p
abbrev pub LeverAt : (Pos → Cell) → Pos → Type 0
LeverAt w p = (q : Pos) × (mounted : Dir) × (w q ≡ Lever mounted true) × (neighbor q mounted ≡ p)

-- a repeater that is on faces p
abbrev pub RepeaterAt : (Pos → Cell) → Pos → Type 0
RepeaterAt w p = (q : Pos) × (r : Repeating)
    × (w q ≡ Repeater r) × (r.on ≡ true) × (neighbor q (side_dir r.facing) ≡ p)

-- one of the three drives what stands at p
abbrev pub IsDriven : (Pos → Cell) → Pos → Type 0
IsDriven w p = TorchBelow w p ⊎ (LeverAt w p ⊎ RepeaterAt w p)

-- a conductor is strongly powered where one of them drives it
abbrev pub IsStrong : (Pos → Cell) → Pos → Type 0
IsStrong w p = (conducts (w p) ≡ true) × IsDriven w p

-- dust stands there, of whatever level it stores
abbrev pub IsDust : Cell → Type 0
IsDust c = (stored : ℕ) × (c ≡ Dust stored)

-- what stands at q gives power to p, which lies beside it
abbrev pub GivesTo : (Pos → Cell) → Pos → Pos → Type 0
GivesTo w q p = (d : Dir) × (neighbor q d ≡ p) × Gives (w q) d

-- dust is fed where a neighbor gives to it or is a strongly powered conductor
abbrev pub IsFed : (Pos → Cell) → Pos → Type 0
IsFed w p = IsDust (w p)
    × ((d : Dir) × (GivesTo w (neighbor p d) p ⊎ IsStrong w (neighbor p d)))

-- dust at q of a level over 0 lies on p, or lies beside it and points at it
abbrev pub DustReaches : (Pos → Cell) → (Pos → ℕ) → Pos → Pos → Type 0
DustReaches w level q p = IsDust (w q) × (0 < level q)
    × ((neighbor q Down ≡ p)
    ⊎ ((side : Side) × (neighbor q (side_dir side) ≡ p) × (points w q side ≡ true)))

-- a conductor is powered where it is strongly powered, or dust of a level over 0 reaches it
abbrev pub IsPowered : (Pos → Cell) → (Pos → ℕ) → Pos → Type 0
IsPowered w level p = (conducts (w p) ≡ true)
    × (IsDriven w p ⊎ ((d : Dir) × DustReaches w level (neighbor p d) p))

-- what stands in that direction from p gives to it, is a powered conductor, or is dust of a level
-- over 0 that reaches it
abbrev pub Activates : (Pos → Cell) → (Pos → ℕ) → Pos → Dir → Type 0
Activates w level p d =
    GivesTo w (neighbor p d) p
    ⊎ (IsPowered w level (neighbor p d) ⊎ DustReaches w level (neighbor p d) p)

-- the cells that give power are these
abbrev pub GiversAreThese : Type 0
GiversAreThese = (c : Cell) (d : Dir) → Exactly (gives c d) (Gives c d)

-- so are those that drive a conductor
abbrev pub DriversAreThese : Type 0
DriversAreThese = (c : Cell) (d : Dir) → Exactly (drives c d) (Drives c d)

-- the conductors that are strongly powered
abbrev pub StrongAreThese : Type 0
StrongAreThese = (w : Pos → Cell) (p : Pos) → Exactly (is_strong w p) (IsStrong w p)

-- the dust that is fed
abbrev pub FedAreThese : Type 0
FedAreThese = (w : Pos → Cell) (p : Pos) → Exactly (is_fed w p) (IsFed w p)

-- and the conductors that are powered
abbrev pub PoweredAreThese : Type 0
PoweredAreThese = (w : Pos → Cell) (level : Pos → ℕ) (p : Pos)
    → Exactly (is_powered w level p) (IsPowered w level p)

-- what makes a lamp, a piston or a repeater active from one direction
abbrev pub ActivatorsAreThese : Type 0
ActivatorsAreThese = (w : Pos → Cell) (level : Pos → ℕ) (p : Pos) (d : Dir)
    → Exactly (activates w level p d) (Activates w level p d)

-- a lamp is active where what stands in some direction makes it so
abbrev pub ActiveLampsAreThese : Type 0
ActiveLampsAreThese = (w : Pos → Cell) (level : Pos → ℕ) (p : Pos)
    → Exactly (is_active w level None p) ((d : Dir) × Activates w level p d)

-- a piston is active where what stands in some direction but that of its front makes it so
abbrev pub ActivePistonsAreThese : Type 0
ActivePistonsAreThese = (w : Pos → Cell) (level : Pos → ℕ) (p : Pos) (front : Dir)
    → Exactly (is_active w level (Some front) p)
    ((d : Dir) × (d ≡ front → ⊥) × Activates w level p d)
