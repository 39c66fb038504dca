-- The game that a script plays.
use Rattle.std.specs.Prelude.{◌≡◌, ℕ, false, codes, decimal, List, [], ◌∷◌, ◌++◌, map, Option}
use Rattle.vx_record.specs.Openings.{OpeningData}
use Rattle.vx_sector.specs.SectorData.{EntryData}
use Rattle.vx_play.specs.Games.{Step, Command, Accepted, Tick, game}
use Rattle.vx_play.specs.Plays.{PlayData, opened, calls}
use Rattle.vx_audit.specs.Deeds.{DeedData, Called, Together, Edited, Ticked, AreInOrder, IsPlayed}
use Rattle.vx_grammar.specs.ScriptLines.{Said}
use Rattle.vx_json.specs.Texts.{line_text}
use Rattle.vx_script.specs.Replies.{RepliesAll}
use Rattle.vx_script.specs.Stages.{Outside}
use Rattle.vx_script.specs.Transcript.{TellsGame}

-- the steps of deeds, one after another
abbrev pub steps_in : List DeedData → List Step
steps_in [] = []
steps_in (Called call ∷ deeds) = Command call.seat call.cmd ∷ steps_in deeds
steps_in (Together calls ∷ deeds) =
    map (λ (call : EntryData). Command call.seat call.cmd) calls ++ steps_in deeds
steps_in (Edited e ∷ deeds) = Accepted e ∷ steps_in deeds
steps_in (Ticked fates ∷ deeds) = Tick ∷ steps_in deeds

-- the last line, by the world at play
abbrev pub game_text : PlayData → List ℕ
game_text play =
    line_text (codes "done ticks " ++ decimal play.ticks ++ codes " calls " ++ decimal (calls play))

-- the text is the replies to these lines, and the last line of the game whose steps the lines are, with
-- each block in place of its commands in an order that keeps that of each player in each sector: each
-- answer is the one that the game gives in that order
pub record PlaysGame (o : OpeningData) (lines : List (Option Said)) (text : List ℕ) : Type 0 where
  pub deeds : List DeedData
  pub replies : List ℕ
  pub says : RepliesAll o.policy o.names Outside lines [] deeds replies
  pub plain : List DeedData
  pub in_order : AreInOrder o.terrain.sizes deeds plain
  pub last : PlayData
  pub played : IsPlayed (opened o.policy o.terrain o.names) plain last
  pub whole : text
      ≡ replies ++ game_text (game o.policy o.terrain o.names (steps_in plain))

-- a body without fault plays such a game
abbrev pub ScriptsAreGames : Type 0
ScriptsAreGames = (o : OpeningData) (lines : List (Option Said)) (text : List ℕ)
    → TellsGame o false lines text → PlaysGame o lines text
