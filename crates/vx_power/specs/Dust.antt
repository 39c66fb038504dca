-- Dust: what it links to, and where it points. Each takes what stands at each position.
use Rattle.std.specs.Prelude.{Bool, true, false, not, ◌&&◌, ◌||◌, if◌then◌else◌, List, [], ◌∷◌, ◌++◌}
use Rattle.vx_geom.specs.declared.pos.Pos.{Pos}
use Rattle.vx_geom.specs.declared.dir.Dir.TheVariants.{Up, Down}
use Rattle.vx_geom.specs.Neighbor.{neighbor}
use Rattle.vx_block.specs.declared.side.Side.{Side}
use Rattle.vx_block.specs.declared.side.Side.TheVariants.{East, West, South, North}
use Rattle.vx_block.specs.declared.cell.Cell.{Cell}
use Rattle.vx_block.specs.declared.cell.Cell.TheVariants.{Torch, Lever, Repeater}
use Rattle.vx_block.specs.Components.{is_dust}
use Rattle.vx_block.specs.Conductors.{conducts}
use Rattle.vx_block.specs.Sides.{side_back, side_right, same_side}
use Rattle.vx_block.specs.States.{side_dir}

-- the position beside, and those over and under it
abbrev pub beside : Pos → Side → Pos
beside p side = neighbor p (side_dir side)

abbrev pub over : Pos → Pos
over p = neighbor p Up

abbrev pub under : Pos → Pos
under p = neighbor p Down

-- dust at p links to dust beside it
unfoldable pub links_beside : (Pos → Cell) → Pos → Side → Bool
links_beside w p side = is_dust (w (beside p side))

-- it climbs to dust one higher, where nothing over p conducts
unfoldable pub links_up : (Pos → Cell) → Pos → Side → Bool
links_up w p side = is_dust (w (over (beside p side))) && not (conducts (w (over p)))

-- it runs down to dust one lower, where nothing over that dust conducts
unfoldable pub links_down : (Pos → Cell) → Pos → Side → Bool
links_down w p side = is_dust (w (under (beside p side))) && not (conducts (w (beside p side)))

-- the dust that p links to on one side
unfoldable pub links_on : (Pos → Cell) → Pos → Side → List Pos
links_on w p side =
    (if links_beside w p side then beside p side ∷ [] else [])
    ++ ((if links_up w p side then over (beside p side) ∷ [] else [])
    ++ (if links_down w p side then under (beside p side) ∷ [] else []))

-- all dust that p links to, if it is dust
unfoldable pub links : (Pos → Cell) → Pos → List Pos
links w p =
    if is_dust (w p)
    then links_on w p East ++ (links_on w p West ++ (links_on w p South ++ links_on w p North))
    else []

-- what dust on that side of it joins, besides dust: a torch, a lever, or a repeater that lies along
abbrev pub is_joined : Side → Cell → Bool
is_joined side (Torch facing lit) = true
is_joined side (Lever facing on) = true
is_joined side (Repeater r) = same_side r.facing side || same_side r.facing (side_back side)
is_joined side _ = false

-- dust at p joins something on that side
unfoldable pub joins : (Pos → Cell) → Pos → Side → Bool
joins w p side =
    links_beside w p side || links_up w p side || links_down w p side
    || is_joined side (w (beside p side))

-- dust at p points to that side: it joins something there, or nothing across
unfoldable pub points : (Pos → Cell) → Pos → Side → Bool
points w p side =
    joins w p side || not (joins w p (side_right side) || joins w p (side_back (side_right side)))
