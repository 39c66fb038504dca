-- What several players are asked for at once, and what comes of it.
use Rattle.std.specs.Prelude.{◌≡◌, ℕ, ◌<◌, nat_eq, if◌then◌else◌, List, [], ◌∷◌, ◌++◌, filter, length, map, slice_index_or, Result}
use Rattle.std.specs.List.{All}
use Rattle.vx_geom.specs.Sizes.{Sizes, sector_of}
use Rattle.vx_sector.specs.Commands.{place_of}
use Rattle.vx_sector.specs.SectorData.{EntryData}
use Rattle.vx_sector.specs.declared.reply.Reply.{Reply}
use Rattle.vx_sector.specs.declared.refusal.Refusal.{Refusal}
use Rattle.vx_record.specs.Chronicles.{IsSeatOf}
use Rattle.vx_record.specs.declared.call.Call.{Call}
use Rattle.vx_audit.specs.declared.mark.Mark.{Mark}
use Rattle.vx_audit.specs.declared.mark.Mark.TheVariants as mark
use Rattle.vx_session.specs.Traces.{IsCalled}
use Rattle.vx_session.specs.Sessions.{PassData, pass_in}
use Rattle.vx_session.specs.declared.player.Player.{Player}
use Rattle.vx_session.specs.declared.request.Request.{Request}

-- what a call asks for
abbrev pub request_of : EntryData → Request
request_of call = record { seat = call.seat.number; cmd = call.cmd }

-- what is asked for from a seat
abbrev pub asked_of : ℕ → List Request → List Request
asked_of seat requests = filter (λ request. nat_eq request.seat seat) requests

-- requests with their answers, as calls
abbrev pub calls_of : List Request → List (Result Reply Refusal) → List Call
calls_of [] answers = []
calls_of requests [] = []
calls_of (request ∷ requests) (answer ∷ answers) =
    record { cmd = request.cmd; answer = answer } ∷ calls_of requests answers

-- of the answers to requests, those to the requests of a seat
abbrev pub answers_to : ℕ → List Request → List (Result Reply Refusal) → List (Result Reply Refusal)
answers_to seat [] answers = []
answers_to seat requests [] = []
answers_to seat (request ∷ requests) (answer ∷ answers) =
    if nat_eq request.seat seat
    then answer ∷ answers_to seat requests answers
    else answers_to seat requests answers

-- calls, one after another, lead from what a pass has to this
abbrev pub AreCalled : Sizes → List (List Call) → List Call → List (List Call) → Type 0
AreCalled sizes before [] after = after ≡ before
AreCalled sizes before (call ∷ calls) after =
    (next : List (List Call)) × IsCalled (sector_of sizes (place_of call.cmd)) before call next
    × AreCalled sizes next calls after

-- the calls of these seats are what was asked for, with these answers
pub record AreMade (names : List (List ℕ)) (requests : List Request)
    (answers : List (Result Reply Refusal)) (calls : List EntryData) : Type 0 where
  pub asked : map request_of calls ≡ requests
  pub answered : map (λ (call : EntryData). call.answer) calls ≡ answers
  pub seated : All (λ (call : EntryData). IsSeatOf names call.seat) calls

-- with each pass the requests of its seat were carried out, and their answers were these
pub record AreCarriedOut (sizes : Sizes) (requests : List Request)
    (answers : List (Result Reply Refusal)) (old new : List PassData) : Type 0 where
  pub count : length new ≡ length old
  pub called : (k : ℕ) (d : PassData) → k < length old
      → AreCalled sizes (slice_index_or old k d).lists
      (calls_of (asked_of k requests) (answers_to k requests answers))
      (slice_index_or new k d).lists

-- a player: what his pass has, what is asked of him, and the answers that he was not told yet
pub record PlayerData : Type 0 where
  pub pass : PassData
  pub asked : List Request
  pub answers : List (Result Reply Refusal)

-- what is seen of a player
abbrev pub player_data : {A B : Type 0} {P : _} {E : _} {N : _} {H : _} {S : _}
    → Player A B P E N H S → PlayerData
player_data player = record {
  pass = pass_in player.pass;
  asked = player.asked.items;
  answers = player.answers.items;
}

-- a player has carried out what was asked of him, and has the answers
pub record HasPlayed (sizes : Sizes) (asked : List Request) (old new : PlayerData) : Type 0 where
  pub count : length new.answers ≡ length asked
  pub called : AreCalled sizes old.pass.lists (calls_of asked new.answers) new.pass.lists

-- of the player of each seat the requests of that seat are asked
abbrev pub AreAsked : List Request → List PlayerData → Type 0
AreAsked requests players = (k : ℕ) (d : PlayerData) → k < length players
    → (slice_index_or players k d).asked ≡ asked_of k requests

-- each of the players has carried out the requests of his seat
pub record HaveAllPlayed (sizes : Sizes) (requests : List Request) (old new : List PlayerData)
    : Type 0 where
  pub count : length new ≡ length old
  pub played : (k : ℕ) (d : PlayerData) → k < length old
      → HasPlayed sizes (asked_of k requests) (slice_index_or old k d) (slice_index_or new k d)

-- the passes of the players are as they were
abbrev pub HavePasses : List PlayerData → List PlayerData → Type 0
HavePasses old new = map (λ (player : PlayerData). player.pass) new
    ≡ map (λ (player : PlayerData). player.pass) old

-- of each seat there are as many answers as requests
abbrev pub HaveAnswers : List Request → List PlayerData → Type 0
HaveAnswers requests players = (k : ℕ) (d : PlayerData) → k < length players
    → length (slice_index_or players k d).answers ≡ length (asked_of k requests)

-- of the answers of the players these were told, in the order of the requests, and the others are
-- left; the passes are as they were
pub record AreTold (requests : List Request) (answers : List (Result Reply Refusal))
    (old new : List PlayerData) : Type 0 where
  pub count : length new ≡ length old
  pub told : (k : ℕ) (d : PlayerData) → k < length old → (slice_index_or old k d).answers
      ≡ answers_to k requests answers ++ (slice_index_or new k d).answers
  pub passes : HavePasses old new

-- the mark of the call that is asked for
abbrev pub mark_asked : Sizes → Request → Mark
mark_asked sizes request = mark.Call request.seat (sector_of sizes (place_of request.cmd))

-- the marks of a block of such calls
abbrev pub marks_asked : Sizes → List Request → List Mark
marks_asked sizes requests = mark.Begin ∷ (map (mark_asked sizes) requests ++ mark.End ∷ [])
