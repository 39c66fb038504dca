use Rattle.std.specs.Prelude.{◌≡◌, ⊤, ℕ, List, Some, Ok}
use Rattle.std.specs.Option.{MatchOption}
use Rattle.vx_geom.specs.Sizes.{Sizes, AreSizes}
use Rattle.vx_grammar.specs.ScriptLines.{Said, World, sizes_of}
use Rattle.vx_cells.specs.MapLaws.{IsFilled}
use Rattle.vx_region.specs.Regions.{Regions}
use Rattle.vx_record.specs.Openings.{OpeningData}
use Rattle.vx_script.specs.Headers.{Opening, HeaderEnd, Faulty, Bare, Begins, says_of, no_opening, header_after, header_end, begun}

-- an opening has each sector of its size in its place, and something at each place of it, once the
-- size was said
abbrev pub IsOpening : Opening → Type 0
IsOpening o = MatchOption o.terrain (Unit {0}) IsFilled

-- the sizes that a `world` line can say are those of a world
abbrev pub SizesAreSound : Type 0
SizesAreSound = (sx sz s h : ℕ) (v : Sizes) → sizes_of sx sz s h ≡ Some v → AreSizes v

-- if a line says a size, it is that of a world
abbrev pub HasSizes : Said → Type 0
HasSizes (World sizes) = AreSizes sizes
HasSizes said = Unit {0}

-- each line of a header keeps an opening so
abbrev pub HeadersKeepTerrain : Type 0
HeadersKeepTerrain = (said : Said) (o next : Opening) → HasSizes said → IsOpening o
    → header_after o said ≡ Some next → IsOpening next

-- something stands at each place of the world that is made there, if one is
abbrev pub OpensFilled : Regions → Opening → ℕ → Type 0
OpensFilled rs o n = (opening : OpeningData) → begun rs o n ≡ Ok opening → IsFilled opening.terrain

abbrev pub EndsFilled : Regions → HeaderEnd → Type 0
EndsFilled rs (Faulty cause) = ⊤
EndsFilled rs (Bare o n) = OpensFilled rs o n
EndsFilled rs (Begins o n first lines) = OpensFilled rs o n

-- so whatever a script says, something stands at each place of its world
abbrev pub ScriptsOpenFilled : Type 0
ScriptsOpenFilled = (rs : Regions) (script : List ℕ)
    → EndsFilled rs (header_end no_opening 1 (says_of script))
