-- The columns that a change of one region's shape touches.
use Rattle.std.specs.Prelude.{◌≡◌, Bool, ◌||◌, false, Option, option_map}
use Rattle.std.specs.Option.{option_map_or}
use Rattle.vx_geom.specs.declared.extent.Extent.{Extent}
use Rattle.vx_geom.specs.Extent.{extent_of, overlap, meets}
use Rattle.vx_geom.specs.Outline.{Outline}
use Rattle.vx_index.specs.declared.touched.Touched.{Touched}

-- the columns of a shape before a change, if there is one, and of one after it
pub record AreTouched (old new : Option Outline) (touched : Touched) : Type 0 where
  pub before : touched.before ≡ option_map extent_of old
  pub after : touched.after ≡ option_map extent_of new

-- some columns of both are equally far from the north
abbrev pub share_row : Extent → Extent → Bool
share_row e f = overlap e.north e.south f.north f.south

-- there are columns of which one is as far from the north as one of these
abbrev pub any_shares_row : Option Extent → Extent → Bool
any_shares_row o e = option_map_or (λ d. share_row d e) o false

-- there are columns of which one is among these
abbrev pub any_meets : Option Extent → Extent → Bool
any_meets o e = option_map_or (λ d. meets d e) o false

-- one of the two has a column as far from the north as one of these
abbrev pub touches_row : Touched → Extent → Bool
touches_row touched e = any_shares_row touched.before e || any_shares_row touched.after e

-- one of the two has a column among these
abbrev pub touches : Touched → Extent → Bool
touches touched e = any_meets touched.before e || any_meets touched.after e
