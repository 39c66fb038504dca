use Rattle.std.specs.Prelude.{ℕ, codes, bytes_eq, List, [], ◌∷◌, find, Option}
use Rattle.vx_flag.specs.declared.flag.Flag.{Flag}
use Rattle.vx_flag.specs.declared.flag.Flag.TheVariants.{Build, BlockBreak, BlockPlace, Usage, ChestAccess, Passthrough, Pistons}

-- the text of a flag
abbrev pub flag_text : Flag → List ℕ
flag_text Build = codes "build"
flag_text BlockBreak = codes "block-break"
flag_text BlockPlace = codes "block-place"
flag_text Usage = codes "use"
flag_text ChestAccess = codes "chest-access"
flag_text Passthrough = codes "passthrough"
flag_text Pistons = codes "pistons"

-- every flag
abbrev pub flags : List Flag
flags = Build ∷ BlockBreak ∷ BlockPlace ∷ Usage ∷ ChestAccess ∷ Passthrough ∷ Pistons ∷ []

-- the place of a flag among all
abbrev pub flag_index : Flag → ℕ
flag_index Build = 0
flag_index BlockBreak = 1
flag_index BlockPlace = 2
flag_index Usage = 3
flag_index ChestAccess = 4
flag_index Passthrough = 5
flag_index Pistons = 6

-- the flag that has this text
unfoldable pub flag_of : List ℕ → Option Flag
flag_of text = find (λ f. bytes_eq (flag_text f) text) flags
