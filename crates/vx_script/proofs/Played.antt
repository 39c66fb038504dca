-- The lines of a body are the steps of the game that they play.
use Rattle.std.proofs.Common.{◌≡◌, codes, decimal, List, [], ◌∷◌, ◌++◌, map, sym, ap, ◌∙◌, subst, append-nil}
use Rattle.vx_record.specs.Openings.{OpeningData}
use Rattle.vx_play.specs.Games.{played}
use Rattle.vx_play.specs.Plays.{PlayData, opened, calls}
use Rattle.vx_geom.specs.Sizes.{Sizes}
use Rattle.vx_sector.specs.SectorData.{EntryData}
use Rattle.vx_audit.specs.Deeds.{DeedData, Called, Together, Edited, Ticked, AreInOrder, IsPlayed}
use Rattle.vx_audit.proofs.Unrolled.{unrolled}
use Rattle.vx_json.specs.Texts.{line_text}
use Rattle.vx_script.specs.Played.{steps_in, game_text, ScriptsAreGames}

-- deeds that were done one by one
abbrev OneByOne : List DeedData → Type 0
OneByOne [] = Unit {0}
OneByOne (Called call ∷ deeds) = OneByOne deeds
OneByOne (Together calls ∷ deeds) = ⊥
OneByOne (Edited e ∷ deeds) = OneByOne deeds
OneByOne (Ticked fates ∷ deeds) = OneByOne deeds

and_then : (deeds more : List DeedData) → OneByOne deeds → OneByOne more → OneByOne (deeds ++ more)
and_then [] more one then = then
and_then (Called call ∷ deeds) more one then = and_then deeds more one then
and_then (Together calls ∷ deeds) more one then = absurd one
and_then (Edited e ∷ deeds) more one then = and_then deeds more one then
and_then (Ticked fates ∷ deeds) more one then = and_then deeds more one then

calls_one : (order : List EntryData) → OneByOne (map Called order)
calls_one [] = tt
calls_one (call ∷ order) = calls_one order

-- deeds with each block in order are done one by one
in_order_one : (sizes : Sizes) (deeds plain : List DeedData) → AreInOrder sizes deeds plain → OneByOne plain
in_order_one sizes [] plain is = subst OneByOne (sym is) tt
in_order_one sizes (Called call ∷ deeds) plain is = subst OneByOne (sym is.1) (in_order_one sizes deeds is.0 is.2)
in_order_one sizes (Together calls ∷ deeds) plain is =
    subst OneByOne (sym is.3) (and_then (map Called is.0) is.1 (calls_one is.0) (in_order_one sizes deeds is.1 is.4))
in_order_one sizes (Edited e ∷ deeds) plain is = subst OneByOne (sym is.1) (in_order_one sizes deeds is.0 is.2)
in_order_one sizes (Ticked fates ∷ deeds) plain is = subst OneByOne (sym is.1) (in_order_one sizes deeds is.0 is.2)

-- what is played one by one is where its steps lead
leads : (play : PlayData) (deeds : List DeedData) (last : PlayData) → OneByOne deeds → IsPlayed play deeds last → last ≡ played play (steps_in deeds)
leads play [] last one there = there
leads play (Called call ∷ deeds) last one there = leads there.0 deeds last one there.2 ∙ ap (λ p. played p (steps_in deeds)) there.1.after
leads play (Together calls ∷ deeds) last one there = absurd one
leads play (Edited e ∷ deeds) last one there = leads there.0 deeds last one there.2 ∙ ap (λ p. played p (steps_in deeds)) there.1
leads play (Ticked fates ∷ deeds) last one there = leads there.0 deeds last one there.2 ∙ ap (λ p. played p (steps_in deeds)) there.1.after

pub scripts_are_games : ScriptsAreGames
scripts_are_games o ls text tells =
    let start = opened o.policy o.terrain o.names in
    let game = tells.game in
    let there = subst (λ (x : OpeningData). IsPlayed (opened x.policy x.terrain x.names) tells.deeds game.last) tells.opening game.played in
    let plain = unrolled start tells.deeds game.last there in
    let ends : game.last ≡ played start (steps_in plain.0) = leads start plain.0 game.last (in_order_one o.terrain.sizes tells.deeds plain.0 plain.1) plain.2 in
    record {
      deeds = tells.deeds;
      replies = tells.replies;
      says = tells.says;
      plain = plain.0;
      in_order = plain.1;
      last = game.last;
      played = plain.2;
      whole = tells.whole
          ∙ ap (λ end. tells.replies ++ end) (append-nil _)
          ∙ (λ i. tells.replies ++ line_text (codes "done ticks " ++ decimal (sym game.ticks i) ++ codes " calls " ++ decimal (sym game.calls i)))
          ∙ ap (λ p. tells.replies ++ game_text p) ends;
    }
