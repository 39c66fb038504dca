-- What is told of a world, as it is written.
use Rattle.std.specs.Prelude.{ℕ, codes, List, [], ◌∷◌, ◌++◌, Result, Ok, Err}
use Rattle.std.specs.Fmt.{signed_decimal}
use Rattle.vx_geom.specs.declared.pos.Pos.{Pos}
use Rattle.vx_decide.specs.Texts.{rule_text}
use Rattle.vx_sector.specs.Texts.{reply_text, refusal_text}
use Rattle.vx_sector.specs.declared.reply.Reply.{Reply}
use Rattle.vx_sector.specs.declared.refusal.Refusal.{Refusal}
use Rattle.vx_tick.specs.declared.fate.Fate.{Fate}
use Rattle.vx_tick.specs.declared.fate.Fate.TheVariants.{Moved, Denied, Beaten}

-- a text, and the end of its line
abbrev pub line_text : List ℕ → List ℕ
line_text text = text ++ 10 ∷ []

-- a position as it is written
abbrev pub pos_text : Pos → List ℕ
pos_text p =
    signed_decimal p.x ++ codes " " ++ signed_decimal p.y ++ codes " " ++ signed_decimal p.z

-- an answer as it is written
abbrev pub answer_text : Result Reply Refusal → List ℕ
answer_text (Ok reply) = reply_text reply
answer_text (Err refusal) = refusal_text refusal

-- what became of a piston's move as it is written, with the position of the piston
abbrev pub fate_text : Pos → Fate → List ℕ
fate_text p Moved = codes "moved " ++ pos_text p
fate_text p (Denied cell rule) =
    codes "denied " ++ pos_text p ++ codes " at " ++ pos_text cell ++ codes " " ++ rule_text rule
fate_text p (Beaten by) = codes "beaten " ++ pos_text p ++ codes " by " ++ pos_text by
