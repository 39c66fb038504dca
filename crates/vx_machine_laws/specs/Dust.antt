-- What dust links to and what it joins, case by case.
use Rattle.std.specs.Prelude.{◌≡◌, Bool, true, false, ◌⊎◌}
use Rattle.vx_geom.specs.declared.pos.Pos.{Pos}
use Rattle.vx_geom.specs.declared.dir.Dir.{Dir}
use Rattle.vx_geom.specs.declared.dir.Dir.TheVariants.{Up, Down}
use Rattle.vx_geom.specs.Neighbor.{neighbor}
use Rattle.vx_block.specs.declared.side.Side.{Side}
use Rattle.vx_block.specs.declared.mount.Mount.{Mount}
use Rattle.vx_block.specs.declared.cell.Cell.{Cell}
use Rattle.vx_block.specs.declared.cell.Cell.TheVariants.{Torch, Lever, Repeater}
use Rattle.vx_block.specs.Conductors.{conducts}
use Rattle.vx_block.specs.Repeating.{Repeating}
use Rattle.vx_block.specs.Sides.{side_back}
use Rattle.vx_block.specs.States.{side_dir}
use Rattle.vx_power.specs.Dust.{links, joins}
use Rattle.vx_power.specs.Walks.{IsAmong}
use Rattle.vx_machine_laws.specs.Exactly.{Exactly}
use Rattle.vx_machine_laws.specs.Signals.{IsDust}

-- the position next to p on that side
abbrev pub next_to : Pos → Side → Pos
next_to p side = neighbor p (side_dir side)

-- dust at q is linked to from p, on that side: it lies beside p; or one higher, where nothing over
-- p conducts; or one lower, where nothing over q conducts
abbrev pub IsLinked : (Pos → Cell) → Pos → Side → Pos → Type 0
IsLinked w p side q = IsDust (w q)
    × ((next_to p side ≡ q)
    ⊎ (((neighbor (next_to p side) Up ≡ q) × (conducts (w (neighbor p Up)) ≡ false))
    ⊎ ((neighbor (next_to p side) Down ≡ q) × (conducts (w (next_to p side)) ≡ false))))

-- dust links to these positions and to no others; what is no dust links to none
pub record LinksAreThese (w : Pos → Cell) (p q : Pos) : Type 0 where
  pub only : IsAmong (links w p) q → IsDust (w p) × ((side : Side) × IsLinked w p side q)
  pub all : IsDust (w p) → (side : Side) → IsLinked w p side q → IsAmong (links w p) q

abbrev pub DustLinksToThese : Type 0
DustLinksToThese = (w : Pos → Cell) (p q : Pos) → LinksAreThese w p q

-- besides dust, dust on that side of it joins a torch, lit or not, a lever, on or off, and a
-- repeater, on or off, that faces that way or the opposite
abbrev pub IsJoined : Cell → Side → Type 0
IsJoined c side =
    ((mounted : Mount) × (lit : Bool) × (c ≡ Torch mounted lit))
    ⊎ (((mounted : Dir) × (on : Bool) × (c ≡ Lever mounted on))
    ⊎ ((r : Repeating) × (c ≡ Repeater r) × ((r.facing ≡ side) ⊎ (r.facing ≡ side_back side))))

-- dust at p joins something on that side: dust that it links to there, or one of these
abbrev pub Joins : (Pos → Cell) → Pos → Side → Type 0
Joins w p side = ((q : Pos) × IsLinked w p side q) ⊎ IsJoined (w (next_to p side)) side

abbrev pub DustJoinsThese : Type 0
DustJoinsThese = (w : Pos → Cell) (p : Pos) (side : Side)
    → Exactly (joins w p side) (Joins w p side)

-- a torch that is out is joined as one that is lit
abbrev pub TorchesOutAreJoined : Type 0
TorchesOutAreJoined = (w : Pos → Cell) (p : Pos) (side : Side) (mounted : Mount)
    → w (next_to p side) ≡ Torch mounted false → joins w p side ≡ true
