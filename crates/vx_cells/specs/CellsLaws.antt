-- The test of two sectors of cells answers yes exactly where they are one, and so meets the laws of
-- `==`.
use Rattle.std.specs.Prelude.{◌≡◌, ◌≢◌, nat_eq, refl}
use Rattle.std.specs.Bool.{Decides}
use Rattle.std.specs.Cmp.{IsEquivalence, decided, booleans_Decides}
use Rattle.std.specs.Cmp.Lexicographic.{pointwise_decides}
use Rattle.std.proofs.Common.{ap, sym, ◌∙◌}
use Rattle.std.proofs.lemmas.Bool.{false≢true}
use Rattle.std.proofs.lemmas.Bool.Decides.{Decides-eqb, Decides-and, Decides-like}
use Rattle.vx_geom.specs.declared.dir.Dir.{Dir}
use Rattle.vx_geom.specs.declared.dir.Dir.TheVariants.{East, West, Up, Down, South, North}
use Rattle.vx_geom.specs.Sizes.{Sizes}
use Rattle.vx_block.specs.States.{side_dir, mount_dir, ticks_of}
use Rattle.vx_block.specs.Repeating.{Repeating}
use Rattle.vx_block.specs.declared.side.Side.{Side}
use Rattle.vx_block.specs.declared.side.Side.TheVariants as side
use Rattle.vx_block.specs.declared.mount.Mount.{Mount}
use Rattle.vx_block.specs.declared.mount.Mount.TheVariants as mount
use Rattle.vx_block.specs.declared.delay.Delay.{Delay}
use Rattle.vx_block.specs.declared.delay.Delay.TheVariants as delay
use Rattle.vx_block.specs.declared.lamp.Lamp.{Lamp}
use Rattle.vx_block.specs.declared.lamp.Lamp.TheVariants as lamp
use Rattle.vx_block.specs.declared.cell.Cell.{Cell}
use Rattle.vx_block.specs.declared.cell.Cell.TheVariants as cell
use Rattle.vx_store.specs.SameSlots.{slots_decided}
use Rattle.vx_cells.specs.SameCells.{same_dir, same_lamp, same_repeater, same_cell, same_block, same_sizes, same_cells}
use Rattle.vx_cells.specs.SectorCells.{Block, SectorCells}

dir_decided : (a b : Dir) → Decides (same_dir a b) (a ≡ b)
unfolding same_dir
dir_decided East East = (λ e. refl, λ e. refl)
dir_decided West West = (λ e. refl, λ e. refl)
dir_decided Up Up = (λ e. refl, λ e. refl)
dir_decided Down Down = (λ e. refl, λ e. refl)
dir_decided South South = (λ e. refl, λ e. refl)
dir_decided North North = (λ e. refl, λ e. refl)
dir_decided a b = (λ e. absurd (false≢true e), λ e. cc)

one_side : (a b : Side) → side_dir a ≡ side_dir b → a ≡ b
one_side side.East side.East same = refl
one_side side.West side.West same = refl
one_side side.South side.South same = refl
one_side side.North side.North same = refl
one_side a b same = cc

no_floor : (s : Side) → Down ≢ side_dir s
no_floor side.East same = cc
no_floor side.West same = cc
no_floor side.South same = cc
no_floor side.North same = cc

one_mount : (a b : Mount) → mount_dir a ≡ mount_dir b → a ≡ b
one_mount mount.Floor mount.Floor same = refl
one_mount (mount.Wall s) (mount.Wall t) same = ap mount.Wall (one_side s t same)
one_mount mount.Floor (mount.Wall t) same = absurd (no_floor t same)
one_mount (mount.Wall s) mount.Floor same = absurd (no_floor s (sym same))

one_delay : (a b : Delay) → ticks_of a ≡ ticks_of b → a ≡ b
one_delay delay.One delay.One same = refl
one_delay delay.Two delay.Two same = refl
one_delay delay.Three delay.Three same = refl
one_delay delay.Four delay.Four same = refl
one_delay a b same = cc

side_decided : (a b : Side) → Decides (same_dir (side_dir a) (side_dir b)) (a ≡ b)
side_decided a b = Decides-like _ (one_side a b) (ap side_dir) (dir_decided _ _)

mount_decided : (a b : Mount) → Decides (same_dir (mount_dir a) (mount_dir b)) (a ≡ b)
mount_decided a b = Decides-like _ (one_mount a b) (ap mount_dir) (dir_decided _ _)

delay_decided : (a b : Delay) → Decides (nat_eq (ticks_of a) (ticks_of b)) (a ≡ b)
delay_decided a b = Decides-like _ (one_delay a b) (ap ticks_of) (Decides-eqb _ _)

lamp_decided : (a b : Lamp) → Decides (same_lamp a b) (a ≡ b)
unfolding same_lamp
lamp_decided lamp.Off lamp.Off = (λ e. refl, λ e. refl)
lamp_decided lamp.Lit lamp.Lit = (λ e. refl, λ e. refl)
lamp_decided lamp.Cooling lamp.Cooling = (λ e. refl, λ e. refl)
lamp_decided a b = (λ e. absurd (false≢true e), λ e. cc)

repeater_decided : (a b : Repeating) → Decides (same_repeater a b) (a ≡ b)
unfolding same_repeater
repeater_decided a b =
    Decides-like _
    (λ h i. record { facing = h.0.0 i; delay = h.0.1 i; on = h.1.0 i; wait = h.1.1 i })
    (λ e. (
      (ap (λ r. r.facing) e, ap (λ r. r.delay) e),
      (ap (λ r. r.on) e, ap (λ r. r.wait) e),
    ))
    (Decides-and _ _
    (Decides-and _ _ (side_decided a.facing b.facing) (delay_decided a.delay b.delay))
    (Decides-and _ _ (booleans_Decides a.on b.on) (Decides-eqb a.wait b.wait)))

pub cell_decided : (a b : Cell) → Decides (same_cell a b) (a ≡ b)
unfolding same_cell
cell_decided cell.Air cell.Air = (λ e. refl, λ e. refl)
cell_decided cell.Stone cell.Stone = (λ e. refl, λ e. refl)
cell_decided cell.Dirt cell.Dirt = (λ e. refl, λ e. refl)
cell_decided cell.Planks cell.Planks = (λ e. refl, λ e. refl)
cell_decided cell.Glass cell.Glass = (λ e. refl, λ e. refl)
cell_decided cell.Obsidian cell.Obsidian = (λ e. refl, λ e. refl)
cell_decided cell.Bedrock cell.Bedrock = (λ e. refl, λ e. refl)
cell_decided cell.Chest cell.Chest = (λ e. refl, λ e. refl)
cell_decided (cell.Dust a) (cell.Dust b) =
    Decides-like _ (λ e. ap cell.Dust e) (λ e. cc) (Decides-eqb a b)
cell_decided (cell.Torch f a) (cell.Torch g b) =
    Decides-like _
    (λ h. ap (λ x. cell.Torch x a) h.0 ∙ ap (λ x. cell.Torch g x) h.1)
    (λ e. (cc, cc))
    (Decides-and _ _ (mount_decided f g) (booleans_Decides a b))
cell_decided (cell.Lever f a) (cell.Lever g b) =
    Decides-like _
    (λ h. ap (λ x. cell.Lever x a) h.0 ∙ ap (λ x. cell.Lever g x) h.1)
    (λ e. (cc, cc))
    (Decides-and _ _ (dir_decided f g) (booleans_Decides a b))
cell_decided (cell.Repeater a) (cell.Repeater b) =
    Decides-like _ (λ e. ap cell.Repeater e) (λ e. cc) (repeater_decided a b)
cell_decided (cell.Lamp a) (cell.Lamp b) =
    Decides-like _ (λ e. ap cell.Lamp e) (λ e. cc) (lamp_decided a b)
cell_decided (cell.Piston f s a) (cell.Piston g t b) =
    Decides-like _
    (λ h.
    ap (λ x. cell.Piston x s a) h.0 ∙ ap (λ x. cell.Piston g x a) h.1.0
    ∙ ap (λ x. cell.Piston g t x) h.1.1)
    (λ e. (cc, (cc, cc)))
    (Decides-and _ _ (dir_decided f g)
    (Decides-and _ _ (booleans_Decides s t) (booleans_Decides a b)))
cell_decided (cell.Head f s) (cell.Head g t) =
    Decides-like _
    (λ h. ap (λ x. cell.Head x s) h.0 ∙ ap (λ x. cell.Head g x) h.1)
    (λ e. (cc, cc))
    (Decides-and _ _ (dir_decided f g) (booleans_Decides s t))
cell_decided a b = (λ e. absurd (false≢true e), λ e. cc)

block_decided : (a b : Block) → Decides (same_block a b) (a ≡ b)
unfolding same_block
block_decided a b =
    Decides-like _
    (λ h i. record { cell = h.0 i; slots = h.1 i })
    (λ e. (ap (λ c. c.cell) e, ap (λ c. c.slots) e))
    (Decides-and _ _ (cell_decided a.cell b.cell) (slots_decided a.slots b.slots))

pub sizes_decided : (v w : Sizes) → Decides (same_sizes v w) (v ≡ w)
unfolding same_sizes
sizes_decided v w =
    Decides-like _
    (λ e i. record { sx = e.0 i; sz = e.1.0 i; s = e.1.1.0 i; h = e.1.1.1 i })
    (λ e. (ap (λ u. u.sx) e, (ap (λ u. u.sz) e, (ap (λ u. u.s) e, ap (λ u. u.h) e))))
    (Decides-and _ _ (Decides-eqb v.sx w.sx)
    (Decides-and _ _ (Decides-eqb v.sz w.sz)
    (Decides-and _ _ (Decides-eqb v.s w.s) (Decides-eqb v.h w.h))))

pub cells_decided : (a b : SectorCells) → Decides (same_cells a b) (a ≡ b)
unfolding same_cells
cells_decided a b =
    Decides-like _
    (λ h i. record { bounds = h.0 i; sector = h.1.0 i; blocks = h.1.1 i })
    (λ e. (ap (λ c. c.bounds) e, (ap (λ c. c.sector) e, ap (λ c. c.blocks) e)))
    (Decides-and _ _ (sizes_decided a.bounds b.bounds)
    (Decides-and _ _ (Decides-eqb a.sector b.sector)
    (pointwise_decides block_decided a.blocks b.blocks)))

pub cells_equiv : IsEquivalence same_cells
cells_equiv = decided same_cells cells_decided
