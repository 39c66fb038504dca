-- What powers nothing feeds no dust.
use Rattle.std.proofs.Common.{◌≡◌, false, ◌&&◌, not, [], ◌++◌, if◌then◌else◌, refl}
use Rattle.vx_block.specs.declared.cell.Cell.{Cell}
use Rattle.vx_block.specs.declared.cell.Cell.TheVariants.{Air, Stone, Dirt, Planks, Glass, Obsidian, Bedrock, Chest, Dust, Torch, Lever, Repeater, Lamp, Piston, Head}
use Rattle.vx_block.specs.Conductors.{conducts}
use Rattle.vx_block.specs.States.{mount_dir, side_dir}
use Rattle.vx_geom.specs.Dirs.{same_dir}
use Rattle.vx_geom.specs.Neighbor.{neighbor}
use Rattle.vx_geom.specs.declared.dir.Dir.{Dir}
use Rattle.vx_geom.specs.declared.dir.Dir.TheVariants.{East, West, Up, Down, South, North}
use Rattle.vx_geom.specs.declared.pos.Pos.{Pos}
use Rattle.vx_power.specs.Powering.{powers}
use Rattle.vx_power.specs.Signals.{gives, drives}
use Rattle.vx_power.specs.Spreading.{dust_at, each_dir, fed_towards, fed_from}

-- it gives to no neighbor, and drives none
record IsQuiet (c : Cell) (d : Dir) : Type 0 where
  gives_none : gives c d ≡ false
  drives_none : drives c d ≡ false

quiet : (c : Cell) (d : Dir) → powers c ≡ false → IsQuiet c d
quiet (Torch facing lit) d off = record { gives_none = λ i. off i && not (same_dir (mount_dir facing) d); drives_none = λ i. off i && same_dir d Up }
quiet (Lever facing on) d off = record { gives_none = off; drives_none = λ i. off i && same_dir facing d }
quiet (Repeater r) d off = record { gives_none = λ i. off i && same_dir (side_dir r.facing) d; drives_none = λ i. off i && same_dir (side_dir r.facing) d }
quiet Air d off = record { gives_none = refl; drives_none = refl }
quiet Stone d off = record { gives_none = refl; drives_none = refl }
quiet Dirt d off = record { gives_none = refl; drives_none = refl }
quiet Planks d off = record { gives_none = refl; drives_none = refl }
quiet Glass d off = record { gives_none = refl; drives_none = refl }
quiet Obsidian d off = record { gives_none = refl; drives_none = refl }
quiet Bedrock d off = record { gives_none = refl; drives_none = refl }
quiet Chest d off = record { gives_none = refl; drives_none = refl }
quiet (Dust level) d off = record { gives_none = refl; drives_none = refl }
quiet (Lamp lamp) d off = record { gives_none = refl; drives_none = refl }
quiet (Piston facing sticky extended) d off = record { gives_none = refl; drives_none = refl }
quiet (Head facing sticky) d off = record { gives_none = refl; drives_none = refl }

module _ (w : Pos → Cell) (s : Pos) (off : powers (w s) ≡ false) where
  none_towards : (d : Dir) → fed_towards w s d ≡ []
  unfolding fed_towards
  none_towards d =
      let next = neighbor s d in
      let is = quiet (w s) d off in
      λ i. (if is.gives_none i then dust_at w s d else [])
      ++ (if is.drives_none i && conducts (w next) then each_dir (dust_at w next) else [])

  pub nothing_fed : fed_from w s ≡ []
  unfolding fed_from
  nothing_fed =
      λ i. none_towards East i ++ (none_towards West i ++ (none_towards Up i ++ (none_towards Down i
      ++ (none_towards South i ++ none_towards North i))))
