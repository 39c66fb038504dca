use Rattle.std.specs.Prelude.{Bool, true, false, List, [], ◌∷◌}
use Rattle.vx_block.specs.declared.side.Side.{Side}
use Rattle.vx_block.specs.declared.side.Side.TheVariants.{East, West, South, North}

-- the four sides
abbrev pub all_sides : List Side
all_sides = East ∷ West ∷ South ∷ North ∷ []

-- the side that leads back
abbrev pub side_back : Side → Side
side_back East = West
side_back West = East
side_back South = North
side_back North = South

-- the side to the right of one who looks there
abbrev pub side_right : Side → Side
side_right East = South
side_right South = West
side_right West = North
side_right North = East

-- they are one side
abbrev pub same_side : Side → Side → Bool
same_side East East = true
same_side West West = true
same_side South South = true
same_side North North = true
same_side a b = false
