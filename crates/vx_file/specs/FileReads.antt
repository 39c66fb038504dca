-- How the edits that a function added stand to what a definition gives.
use Rattle.std.specs.Prelude.{◌≡◌, List, [], ◌∷◌, ◌++◌, map, if◌then◌else◌, Option, Some, None, is_some, Result, Ok, Err}
use Rattle.vx_policy.specs.Asked.{Asked, asked}
use Rattle.vx_policy.specs.Edits.{edited}
use Rattle.vx_policy.specs.Refusals.{refusal}
use Rattle.vx_policy.specs.declared.edit.Edit.{Edit}
use Rattle.vx_region.specs.Regions.{Regions}
use Rattle.vx_base.specs.Then.{◌>>=◌}
use Rattle.vx_base.specs.declared.unread.Unread.{Unread}
use Rattle.vx_base.specs.declared.unread.Unread.TheVariants.{Faulty}

-- these edits, behind those before
abbrev pub behind : List Asked → Option (List Asked) → Option (List Asked)
behind before None = None
behind before (Some more) = Some (before ++ more)

-- the edits that were added are those that are meant; the file is malformed only where none are
abbrev pub Adds : {X : Type 0} → Result X Unread → List Edit → List Edit → Option (List Asked)
    → Type 0
Adds (Ok x) old new meant = behind (map asked old) meant ≡ Some (map asked new)
Adds (Err e) old new meant = e ≡ Faulty → meant ≡ None

-- the regions after an edit, unless it is refused
unfoldable pub accepted : Regions → Asked → Option Regions
accepted rs e = if is_some (refusal rs e) then None else Some (edited rs e)

-- the regions after these edits, unless one of them is refused in its turn
abbrev pub applied : Regions → List Asked → Option Regions
applied rs [] = Some rs
applied rs (e ∷ es) = do
  now ← accepted rs e
  applied now es
