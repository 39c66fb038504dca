use Rattle.std.specs.Prelude.{ℕ, ◌≡◌, ◌≢◌, ◌<◌, ◌+◌, ◌↔◌, true, false, List, [], ◌∷◌, ◌++◌, Some, None}
use Rattle.std.specs.List.{list_any}
use Rattle.vx_flag.specs.declared.flag.Flag.{Flag}
use Rattle.vx_geom.specs.Written.{Written}
use Rattle.vx_region.specs.Regions.{Regions, region_at, setting_at}
use Rattle.vx_policy.specs.Asked.{Asked, Define, Reshape, target}
use Rattle.vx_policy.specs.Edits.{edited, number_given, after, AreAccepted}
use Rattle.vx_policy.specs.Refusals.{numbered, is_definition, is_at_large, holds, causes, refusal}
use Rattle.vx_policy.specs.declared.edit_refusal.EditRefusal.{EditRefusal}

-- the cause stands against the edit, and none of those before it does
pub record IsFirstCause (rs : Regions) (e : Asked) (c : EditRefusal) : Type 0 where
  pub before : List EditRefusal
  pub behind : List EditRefusal
  pub order : causes ≡ before ++ c ∷ behind
  pub none_before : list_any (holds rs e) before ≡ false
  pub stands : holds rs e c ≡ true

-- an edit is refused for the first cause that stands against it
abbrev pub RefusedByTheFirst : Type 0
RefusedByTheFirst = (rs : Regions) (e : Asked) (c : EditRefusal)
    → (refusal rs e ≡ Some c) ↔ IsFirstCause rs e c

-- it is accepted where no cause stands against it
abbrev pub AcceptedWithoutCause : Type 0
AcceptedWithoutCause = (rs : Regions) (e : Asked)
    → (refusal rs e ≡ None) ↔ ((c : EditRefusal) → holds rs e c ≡ false)

-- the last of some edits is made of what the others left
abbrev pub LastEditIsMade : Type 0
LastEditIsMade = (rs : Regions) (es : List Asked) (e : Asked)
    → after rs (es ++ e ∷ []) ≡ edited (after rs es) e

-- all are accepted where the others are, and then the last
abbrev pub LastEditIsAccepted : Type 0
LastEditIsAccepted = (rs : Regions) (es : List Asked) (e : Asked)
    → AreAccepted rs (es ++ e ∷ []) ↔ (AreAccepted rs es × (refusal (after rs es) e ≡ None))

-- an edit leaves each region but the one that it names as it was
abbrev pub OthersAreKept : Type 0
OthersAreKept = (rs : Regions) (e : Asked) (n m : ℕ)
    → is_definition e ≡ false → numbered rs (target e) ≡ Some n → m ≢ n
    → region_at (edited rs e) m ≡ region_at rs m

-- a definition leaves each region but the new one as it was
abbrev pub DefinitionKeepsOthers : Type 0
DefinitionKeepsOthers = (rs : Regions) (id : List ℕ) (shape : Written) (m : ℕ)
    → m ≢ rs.last + 1 → region_at (edited rs (Define id shape)) m ≡ region_at rs m

-- a number that is given is above all that were given
abbrev pub NumberIsNew : Type 0
NumberIsNew = (rs : Regions) (e : Asked) (n : ℕ) → number_given rs e ≡ Some n → rs.last < n

-- it is the last one from then on
abbrev pub NumberIsTheLast : Type 0
NumberIsTheLast = (rs : Regions) (e : Asked) (n : ℕ)
    → refusal rs e ≡ None → number_given rs e ≡ Some n → (edited rs e).last ≡ n

-- other edits leave the last number as it was
abbrev pub LastIsKept : Type 0
LastIsKept = (rs : Regions) (e : Asked) → number_given rs e ≡ None → (edited rs e).last ≡ rs.last

-- so a number that was given is below each one that is given after it, whatever was edited between
abbrev pub LaterNumbersAreHigher : Type 0
LaterNumbersAreHigher = (rs : Regions) (e : Asked) (es : List Asked) (later : Asked) (n m : ℕ)
    → refusal rs e ≡ None → number_given rs e ≡ Some n
    → number_given (after (edited rs e) es) later ≡ Some m → n < m

-- another shape leaves each flag of each region as it was
abbrev pub FlagsSurviveAReshape : Type 0
FlagsSurviveAReshape = (rs : Regions) (id : List ℕ) (shape : Written) (m : ℕ) (f : Flag)
    → setting_at (edited rs (Reshape id shape)) m f ≡ setting_at rs m f

-- an edit that is not of the world at large leaves each flag of it as it was
abbrev pub FlagsAtLargeAreKept : Type 0
FlagsAtLargeAreKept = (rs : Regions) (e : Asked) (f : Flag)
    → is_at_large rs (target e) ≡ false → setting_at (edited rs e) 0 f ≡ setting_at rs 0 f

-- an edit of the world at large, where it is accepted, leaves all regions as they were
abbrev pub RegionsAreKept : Type 0
RegionsAreKept = (rs : Regions) (e : Asked)
    → refusal rs e ≡ None → is_at_large rs (target e) ≡ true
    → (edited rs e).entries ≡ rs.entries
