-- The regions among which a machine's domains are found.
use Rattle.std.specs.Prelude.{◌≡◌, ℕ, List}
use Rattle.vx_geom.specs.declared.pos.Pos.{Pos}
use Rattle.vx_region.specs.Regions.{Entry, Regions}
use Rattle.vx_region.specs.Subjects.{Actor, Machine}
use Rattle.vx_decide.specs.Candidates.{AreNumbers, HoldCandidates, Suffice}

-- where the actor is a machine, these regions hold each in which it stands
abbrev pub HoldHosts : Regions → Actor → List Entry → Type 0
HoldHosts rs actor these = (q : Pos) → actor ≡ Machine q → Suffice rs.entries q these

-- these are numbers of regions, and where the actor is a machine, of each in which it stands
pub record NameHosts (rs : Regions) (actor : Actor) (numbers : List ℕ) : Type 0 where
  pub named : AreNumbers rs numbers
  pub whole : (q : Pos) → actor ≡ Machine q → HoldCandidates rs q numbers
