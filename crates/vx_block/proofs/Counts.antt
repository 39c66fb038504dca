-- There are 165 cells.
use Rattle.std.proofs.Common.{◌≡◌, ℕ, suc, zero, ◌<◌, Bool, true, false, List, [], ◌∷◌, ◌++◌, flat_map, length, refl, rules, arith, subst, sym, inl, inr}
use Rattle.std.proofs.lemmas.Bool.{cases_eq}
use Rattle.vx_geom.specs.declared.dir.Dir.{Dir}
use Rattle.vx_geom.specs.declared.dir.Dir.TheVariants as dir
use Rattle.vx_block.specs.States.{ticks_of}
use Rattle.vx_block.specs.Cell.{IsCell}
use Rattle.vx_block.specs.Cells.{unfaced, faced, torches, repeaters_of, delays, cells, times, AreCells}
use Rattle.vx_block.specs.Part.{sides, mounts, dirs}
use Rattle.vx_block.specs.declared.side.Side.{Side}
use Rattle.vx_block.specs.declared.side.Side.TheVariants as side
use Rattle.vx_block.specs.declared.mount.Mount.{Mount}
use Rattle.vx_block.specs.declared.mount.Mount.TheVariants as mount
use Rattle.vx_block.specs.declared.delay.Delay.{Delay}
use Rattle.vx_block.specs.declared.delay.Delay.TheVariants as delay
use Rattle.vx_block.specs.declared.lamp.Lamp.{Lamp}
use Rattle.vx_block.specs.declared.lamp.Lamp.TheVariants as lamp
use Rattle.vx_block.specs.declared.cell.Cell.{Cell}
use Rattle.vx_block.specs.declared.cell.Cell.TheVariants as cell

pub cells_counted : length cells ≡ 165
cells_counted = refl

-- P holds of each number below n
abbrev Below : ℕ → (ℕ → Type 0) → Type 0
Below zero P = Unit
Below (suc n) P = Below n P × P n

at_below : (n : ℕ) (P : ℕ → Type 0) → Below n P → (k : ℕ) → k < n → P k
at_below zero P each k below = absurd (omega arith)
at_below (suc n) P each k below = elim (cases_eq k n) [ inl same ↦ subst P (sym same) each.1 | inr other ↦ at_below n P each.0 k (omega arith) ]

dust_once : (n : ℕ) → n < 16 → times (cell.Dust n) ≡ 1
dust_once = at_below 16 (λ n. times (cell.Dust n) ≡ 1)
    ((((((((((((((((tt, refl), refl), refl), refl), refl), refl), refl), refl), refl), refl), refl), refl), refl), refl), refl), refl)

each_side : (P : Side → Type 0) → P side.East → P side.West → P side.South → P side.North → (s : Side) → P s
each_side P east west south north side.East = east
each_side P east west south north side.West = west
each_side P east west south north side.South = south
each_side P east west south north side.North = north

each_dir : (P : Dir → Type 0) → P dir.East → P dir.West → P dir.Up → P dir.Down → P dir.South → P dir.North → (d : Dir) → P d
each_dir P east west up down south north dir.East = east
each_dir P east west up down south north dir.West = west
each_dir P east west up down south north dir.Up = up
each_dir P east west up down south north dir.Down = down
each_dir P east west up down south north dir.South = south
each_dir P east west up down south north dir.North = north

abbrev RepeaterOnce : Delay → Bool → Side → ℕ → Type 0
RepeaterOnce d on s n = times (cell.Repeater (record { facing = s; delay = d; on = on; wait = n })) ≡ 1

waits_once : (d : Delay) (on : Bool) (s : Side) → Below (ticks_of d) (RepeaterOnce d on s)
waits_once delay.One false = each_side (λ s. Below (ticks_of delay.One) (RepeaterOnce delay.One false s)) (tt, refl) (tt, refl) (tt, refl) (tt, refl)
waits_once delay.One true = each_side (λ s. Below (ticks_of delay.One) (RepeaterOnce delay.One true s)) (tt, refl) (tt, refl) (tt, refl) (tt, refl)
waits_once delay.Two false = each_side (λ s. Below (ticks_of delay.Two) (RepeaterOnce delay.Two false s)) ((tt, refl), refl) ((tt, refl), refl) ((tt, refl), refl) ((tt, refl), refl)
waits_once delay.Two true = each_side (λ s. Below (ticks_of delay.Two) (RepeaterOnce delay.Two true s)) ((tt, refl), refl) ((tt, refl), refl) ((tt, refl), refl) ((tt, refl), refl)
waits_once delay.Three false = each_side (λ s. Below (ticks_of delay.Three) (RepeaterOnce delay.Three false s)) (((tt, refl), refl), refl) (((tt, refl), refl), refl) (((tt, refl), refl), refl) (((tt, refl), refl), refl)
waits_once delay.Three true = each_side (λ s. Below (ticks_of delay.Three) (RepeaterOnce delay.Three true s)) (((tt, refl), refl), refl) (((tt, refl), refl), refl) (((tt, refl), refl), refl) (((tt, refl), refl), refl)
waits_once delay.Four false = each_side (λ s. Below (ticks_of delay.Four) (RepeaterOnce delay.Four false s)) ((((tt, refl), refl), refl), refl) ((((tt, refl), refl), refl), refl) ((((tt, refl), refl), refl), refl) ((((tt, refl), refl), refl), refl)
waits_once delay.Four true = each_side (λ s. Below (ticks_of delay.Four) (RepeaterOnce delay.Four true s)) ((((tt, refl), refl), refl), refl) ((((tt, refl), refl), refl), refl) ((((tt, refl), refl), refl), refl) ((((tt, refl), refl), refl), refl)

torch_once : (m : Mount) (lit : Bool) → times (cell.Torch m lit) ≡ 1
torch_once mount.Floor false = refl
torch_once mount.Floor true = refl
torch_once (mount.Wall s) false = each_side (λ s. times (cell.Torch (mount.Wall s) false) ≡ 1) refl refl refl refl s
torch_once (mount.Wall s) true = each_side (λ s. times (cell.Torch (mount.Wall s) true) ≡ 1) refl refl refl refl s

lever_once : (on : Bool) (d : Dir) → times (cell.Lever d on) ≡ 1
lever_once false = each_dir (λ d. times (cell.Lever d false) ≡ 1) refl refl refl refl refl refl
lever_once true = each_dir (λ d. times (cell.Lever d true) ≡ 1) refl refl refl refl refl refl

head_once : (sticky : Bool) (d : Dir) → times (cell.Head d sticky) ≡ 1
head_once false = each_dir (λ d. times (cell.Head d false) ≡ 1) refl refl refl refl refl refl
head_once true = each_dir (λ d. times (cell.Head d true) ≡ 1) refl refl refl refl refl refl

piston_once : (sticky extended : Bool) (d : Dir) → times (cell.Piston d sticky extended) ≡ 1
piston_once false false = each_dir (λ d. times (cell.Piston d false false) ≡ 1) refl refl refl refl refl refl
piston_once false true = each_dir (λ d. times (cell.Piston d false true) ≡ 1) refl refl refl refl refl refl
piston_once true false = each_dir (λ d. times (cell.Piston d true false) ≡ 1) refl refl refl refl refl refl
piston_once true true = each_dir (λ d. times (cell.Piston d true true) ≡ 1) refl refl refl refl refl refl

lamp_once : (l : Lamp) → times (cell.Lamp l) ≡ 1
lamp_once lamp.Off = refl
lamp_once lamp.Lit = refl
lamp_once lamp.Cooling = refl

pub each_once : (c : Cell) → IsCell c → times c ≡ 1
each_once cell.Air ranged = refl
each_once cell.Stone ranged = refl
each_once cell.Dirt ranged = refl
each_once cell.Planks ranged = refl
each_once cell.Glass ranged = refl
each_once cell.Obsidian ranged = refl
each_once cell.Bedrock ranged = refl
each_once cell.Chest ranged = refl
each_once (cell.Dust n) ranged = dust_once n ranged
each_once (cell.Torch m lit) ranged = torch_once m lit
each_once (cell.Lever d on) ranged = lever_once on d
each_once (cell.Repeater r) ranged = at_below (ticks_of r.delay) (RepeaterOnce r.delay r.on r.facing) (waits_once r.delay r.on r.facing) r.wait ranged
each_once (cell.Lamp l) ranged = lamp_once l
each_once (cell.Piston d s e) ranged = piston_once s e d
each_once (cell.Head d s) ranged = head_once s d

all_joined : (xs ys : List Cell) → AreCells xs → AreCells ys → AreCells (xs ++ ys)
all_joined [] ys x_are y_are = y_are
all_joined (x ∷ xs) ys x_are y_are = (x_are.0, all_joined xs ys x_are.1 y_are)

all_mapped : {A : Type 0} (f : A → List Cell) (xs : List A) → ((x : A) → AreCells (f x)) → AreCells (flat_map f xs)
all_mapped f [] each = tt
all_mapped f (x ∷ xs) each = all_joined (f x) (flat_map f xs) (each x) (all_mapped f xs each)

unfaced_are : AreCells unfaced
unfaced_are = search (rules, arith)

faced_are : (d : Dir) → AreCells (faced d)
faced_are d = search rules

repeaters_are : (s : Side) (d : Delay) → AreCells (repeaters_of s d)
repeaters_are s delay.One = search (rules, arith)
repeaters_are s delay.Two = search (rules, arith)
repeaters_are s delay.Three = search (rules, arith)
repeaters_are s delay.Four = search (rules, arith)

pub cells_are : AreCells cells
cells_are =
    let repeaters : List Cell = flat_map (λ s. flat_map (repeaters_of s) delays) sides in
    let mounted : List Cell = flat_map torches mounts ++ repeaters in
    all_joined unfaced (flat_map faced dirs ++ mounted) unfaced_are
    (all_joined (flat_map faced dirs) mounted (all_mapped faced dirs faced_are)
    (all_joined (flat_map torches mounts) repeaters (all_mapped torches mounts (λ m. (tt, (tt, tt))))
    (all_mapped (λ s. flat_map (repeaters_of s) delays) sides (λ s. all_mapped (repeaters_of s) delays (repeaters_are s)))))
