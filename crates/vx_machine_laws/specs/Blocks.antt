-- What each cell is to power and to pistons, where its sides lie, and how long delays are.
use Rattle.std.specs.Prelude.{◌≡◌, ℕ, Bool, true, false, pos, ◌+ℤ◌, ◌-ℤ◌}
use Rattle.vx_geom.specs.declared.dir.Dir.{Dir}
use Rattle.vx_geom.specs.declared.dir.Dir.TheVariants.{Up, Down}
use Rattle.vx_geom.specs.declared.pos.Pos.{Pos}
use Rattle.vx_geom.specs.Neighbor.{neighbor}
use Rattle.vx_block.specs.declared.cell.Cell.TheVariants.{Air, Stone, Dirt, Planks, Glass, Obsidian, Bedrock, Chest, Dust, Torch, Lever, Repeater, Lamp, Piston, Head}
use Rattle.vx_block.specs.declared.lamp.Lamp as lamp
use Rattle.vx_block.specs.declared.mobility.Mobility.TheVariants.{Empty, Moves, Breaks, Stays}
use Rattle.vx_block.specs.declared.delay.Delay.TheVariants.{One, Two, Three, Four}
use Rattle.vx_block.specs.declared.mount.Mount.{Mount}
use Rattle.vx_block.specs.declared.mount.Mount.TheVariants.{Floor, Wall}
use Rattle.vx_block.specs.declared.side.Side.{Side}
use Rattle.vx_block.specs.declared.side.Side.TheVariants.{East, West, South, North}
use Rattle.vx_block.specs.Conductors.{conducts}
use Rattle.vx_block.specs.Mobilities.{mobility_of}
use Rattle.vx_block.specs.Repeating.{Repeating}
use Rattle.vx_block.specs.States.{mount_dir, side_dir, ticks_of}

-- full blocks and lamps conduct; glass, chests, pistons, heads, and what is laid or mounted don't
pub record BlocksConduct : Type 0 where
  pub stone : conducts Stone ≡ true
  pub dirt : conducts Dirt ≡ true
  pub planks : conducts Planks ≡ true
  pub obsidian : conducts Obsidian ≡ true
  pub bedrock : conducts Bedrock ≡ true
  pub lamps : (state : lamp.Lamp) → conducts (Lamp state) ≡ true
  pub air : conducts Air ≡ false
  pub glass : conducts Glass ≡ false
  pub chests : conducts Chest ≡ false
  pub dust : (level : ℕ) → conducts (Dust level) ≡ false
  pub torches : (facing : Mount) (lit : Bool) → conducts (Torch facing lit) ≡ false
  pub levers : (facing : Dir) (on : Bool) → conducts (Lever facing on) ≡ false
  pub repeaters : (r : Repeating) → conducts (Repeater r) ≡ false
  pub pistons : (facing : Dir) (sticky out : Bool) → conducts (Piston facing sticky out) ≡ false
  pub heads : (facing : Dir) (sticky : Bool) → conducts (Head facing sticky) ≡ false

-- stone, dirt, planks, glass, lamps and pistons that are in move; what is laid or mounted breaks;
-- air is empty; all else stays
pub record BlocksMove : Type 0 where
  pub stone : mobility_of Stone ≡ Moves
  pub dirt : mobility_of Dirt ≡ Moves
  pub planks : mobility_of Planks ≡ Moves
  pub glass : mobility_of Glass ≡ Moves
  pub lamps : (state : lamp.Lamp) → mobility_of (Lamp state) ≡ Moves
  pub pistons_in : (facing : Dir) (sticky : Bool) → mobility_of (Piston facing sticky false) ≡ Moves
  pub dust : (level : ℕ) → mobility_of (Dust level) ≡ Breaks
  pub torches : (facing : Mount) (lit : Bool) → mobility_of (Torch facing lit) ≡ Breaks
  pub levers : (facing : Dir) (on : Bool) → mobility_of (Lever facing on) ≡ Breaks
  pub repeaters : (r : Repeating) → mobility_of (Repeater r) ≡ Breaks
  pub air : mobility_of Air ≡ Empty
  pub obsidian : mobility_of Obsidian ≡ Stays
  pub bedrock : mobility_of Bedrock ≡ Stays
  pub chests : mobility_of Chest ≡ Stays
  pub pistons_out : (facing : Dir) (sticky : Bool) → mobility_of (Piston facing sticky true) ≡ Stays
  pub heads : (facing : Dir) (sticky : Bool) → mobility_of (Head facing sticky) ≡ Stays

-- where the sides of a cell lie, and what a torch that stands or hangs is mounted on
pub record SidesLie : Type 0 where
  pub east : (p : Pos) → neighbor p (side_dir East) ≡ record p { x = p.x +ℤ pos 1 }
  pub west : (p : Pos) → neighbor p (side_dir West) ≡ record p { x = p.x -ℤ pos 1 }
  pub south : (p : Pos) → neighbor p (side_dir South) ≡ record p { z = p.z +ℤ pos 1 }
  pub north : (p : Pos) → neighbor p (side_dir North) ≡ record p { z = p.z -ℤ pos 1 }
  pub over : (p : Pos) → neighbor p Up ≡ record p { y = p.y +ℤ pos 1 }
  pub under : (p : Pos) → neighbor p Down ≡ record p { y = p.y -ℤ pos 1 }
  pub stands : mount_dir Floor ≡ Down
  pub hangs : (side : Side) → mount_dir (Wall side) ≡ side_dir side

-- how many ticks a delay has
pub record DelaysLast : Type 0 where
  pub one : ticks_of One ≡ 1
  pub two : ticks_of Two ≡ 2
  pub three : ticks_of Three ≡ 3
  pub four : ticks_of Four ≡ 4
