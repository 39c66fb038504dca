-- Games: what is done in a world at play, one step after another.
use Rattle.std.specs.Prelude.{◌≡◌, ℕ, zero, suc, ◌+◌, List, [], ◌∷◌, ◌++◌, length}
use Rattle.std.specs.List.{All}
use Rattle.vx_region.specs.Regions.{Regions}
use Rattle.vx_policy.specs.Asked.{Asked}
use Rattle.vx_policy.specs.Edits.{after}
use Rattle.vx_policy.specs.declared.version.Version.{Version}
use Rattle.vx_sector.specs.SectorData.{SectorData, SeatData}
use Rattle.vx_sector.specs.declared.cmd.Cmd.{Cmd}
use Rattle.vx_cells.specs.Maps.{MapData}
use Rattle.vx_play.specs.Plays.{PlayData, opened, answered, ticked}

-- a step of a game: a command of a seat, an edit that is accepted, or a tick
pub data Step : Type 0 where
  Command : SeatData → Cmd → Step
  Accepted : Asked → Step
  Tick : Step

-- the play after a step
abbrev pub after_step : PlayData → Step → PlayData
after_step play (Command seat cmd) = record play { sectors = (answered play seat cmd).1 }
after_step play (Accepted edit) = record play { accepted = play.accepted ++ edit ∷ [] }
after_step play Tick = ticked play

-- the play after steps, one after another
abbrev pub played : PlayData → List Step → PlayData
played play [] = play
played play (step ∷ steps) = played (after_step play step) steps

-- a game in the world of this terrain and these players, opened under this policy
abbrev pub game : Regions → MapData → List (List ℕ) → List Step → PlayData
game rs terrain names steps = played (opened rs terrain names) steps

-- the edits among the steps
abbrev pub edits_of : List Step → List Asked
edits_of [] = []
edits_of (Accepted edit ∷ steps) = edit ∷ edits_of steps
edits_of (step ∷ steps) = edits_of steps

-- how many of the steps are ticks
abbrev pub ticks_of : List Step → ℕ
ticks_of [] = zero
ticks_of (Tick ∷ steps) = suc (ticks_of steps)
ticks_of (step ∷ steps) = ticks_of steps

-- the version of the policy after these edits, as it stands after so many ticks
abbrev pub version_after : Regions → List Asked → ℕ → Version
version_after rs edits ticks =
    record { tick = ticks + 1; edits = length edits; policy = after rs edits }

-- each sector judges its commands by this version, and so does the next tick the machines
pub record AreJudgedBy (version : Version) (play : PlayData) : Type 0 where
  pub commands : All (λ (s : SectorData). s.version ≡ version) play.sectors
  pub machines : play.version ≡ version
