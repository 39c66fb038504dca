-- What stands after every list of events.
use Rattle.std.specs.Prelude.{◌≡◌, ◌+◌, ◌≤◌, false, List, [], ◌∷◌, length, map}
use Rattle.std.specs.List.{All}
use Rattle.vx_cells.specs.Wholes.{IsMap}
use Rattle.vx_policy.specs.Asked.{Asked}
use Rattle.vx_policy.specs.Edits.{AreAccepted}
use Rattle.vx_policy.specs.declared.version.Version.{Version}
use Rattle.vx_sector.specs.SectorData.{SectorData}
use Rattle.vx_windows.specs.Sectors.{entries_of, cells_of, first_version}
use Rattle.vx_record.specs.Chronicles.{TickData, ChronicleData, AreWindows, AreGrown, IsRun, map_after, all_after, version_by}
use Rattle.vx_core.specs.Events.{Happening}
use Rattle.vx_core.specs.Machines.{MachineData, is_enabled, after_event, chronicle_of, run}
use Rattle.vx_core.specs.Outcomes.{OutcomeData, IsReachable, HasRoom, outcome}
use Rattle.vx_record.specs.Openings.{OpeningData}
use Rattle.vx_core.specs.declared.stage.Stage.{Stage}
use Rattle.vx_core.specs.declared.stage.Stage.TheVariants.{Home}

-- an event that may not happen changes nothing
abbrev pub ChangesNothing : Type 0
ChangesNothing = (m : MachineData) (event : Happening)
    → is_enabled m event ≡ false → after_event m event ≡ m

-- the chronicle is a run: each tick is what the one-threaded rules give from the commands before
-- it, and the opening's policy judges the first of them
abbrev pub IsAlwaysARun : Type 0
IsAlwaysARun = (o : OpeningData) (events : List Happening)
    → IsMap o.terrain → IsRun (chronicle_of o events)

-- the version of the first windows of all: those before the first of these ticks or, where there
-- is none yet, the open ones
abbrev pub first_of : List TickData → Version → Version
first_of [] open_one = open_one
first_of (tick ∷ ticks) open_one = tick.version

-- no edit counts in version 1, which is the opening's policy; the versions of the ticks grow, and
-- so does the version of the open windows: each is the policy after the first so many of the edits
-- that were accepted, each in its turn
pub record AreVersionsGrown (o : OpeningData) (m : MachineData) : Type 0 where
  pub first : first_of m.ticks m.play.version ≡ first_version o.policy
  pub accepted : AreAccepted o.policy m.play.accepted
  pub ticks : AreGrown o.policy m.play.accepted 0 m.ticks m.play.version.edits
  pub next : m.play.version
      ≡ version_by o.policy m.play.accepted m.play.version.edits (length m.ticks + 1)
  pub within : m.play.version.edits ≤ length m.play.accepted

abbrev pub VersionsGrow : Type 0
VersionsGrow = (o : OpeningData) (events : List Happening)
    → IsMap o.terrain → AreVersionsGrown o (run o events)

-- the entries of each sector are a window over its part of the last map, by the version that stands
-- since; and its cells are what they leave
pub record AreOpen (o : OpeningData) (m : MachineData) : Type 0 where
  pub windows : AreWindows o.names m.play.version.policy (map_after o.terrain m.ticks).sectors
      (map entries_of m.play.sectors)
  pub cells : map cells_of m.play.sectors
      ≡ all_after (map_after o.terrain m.ticks).sectors (map entries_of m.play.sectors)
  pub versions : All (λ (s : SectorData). s.version ≡ m.play.version) m.play.sectors

abbrev pub WindowsAreOpen : Type 0
WindowsAreOpen = (o : OpeningData) (events : List Happening)
    → IsMap o.terrain → AreOpen o (run o events)

-- all sectors are at home
abbrev pub AreHome : List Stage → Type 0
AreHome stages = All (λ stage. stage ≡ Home) stages

-- what stands after every list of events, the rules give, and there is room for it
abbrev pub OutcomesAreByTheRules : Type 0
OutcomesAreByTheRules = (o : OpeningData) (events : List Happening)
    → IsMap o.terrain → IsReachable o (outcome (run o events))

-- and such an outcome stands after some list of events, with all sectors at home
abbrev pub ByTheRulesIsReached : Type 0
ByTheRulesIsReached = (o : OpeningData) (r : OutcomeData) → IsMap o.terrain → IsReachable o r
    → (events : List Happening) × (outcome (run o events) ≡ r) × AreHome (run o events).stages

-- every run whose versions grow by accepted edits is the chronicle of some list of events, of which
-- these are the edits
abbrev pub RunsAreReached : Type 0
RunsAreReached = (c : ChronicleData) (edits : List Asked)
    → IsMap c.opening.terrain → IsRun c → AreAccepted c.opening.policy edits
    → AreGrown c.opening.policy edits 0 c.ticks (length edits) → HasRoom c.ticks edits []
    → (events : List Happening) × (chronicle_of c.opening events ≡ c)
    × ((run c.opening events).play.accepted ≡ edits)
