use Rattle.vx_geom.specs.declared.dir.Dir.{Dir}
use Rattle.vx_geom.specs.declared.dir.Dir.TheVariants.{East, West, Up, Down, South, North}
use Rattle.std.specs.Prelude.{Bool, true, false, List, [], ◌∷◌}

-- the six directions
abbrev pub all_dirs : List Dir
all_dirs = East ∷ West ∷ Up ∷ Down ∷ South ∷ North ∷ []

-- the direction that leads back
abbrev pub opposite : Dir → Dir
opposite East = West
opposite West = East
opposite Up = Down
opposite Down = Up
opposite South = North
opposite North = South

-- they are one direction
abbrev pub same_dir : Dir → Dir → Bool
same_dir East East = true
same_dir West West = true
same_dir Up Up = true
same_dir Down Down = true
same_dir South South = true
same_dir North North = true
same_dir a b = false
