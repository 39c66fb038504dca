-- The text of an object of JSON.
use Rattle.std.proofs.Common.{◌≡◌, ℕ, List, [], ◌∷◌, ◌++◌, append_assoc, codes, decimal, refl, ap, ◌∙◌}
use Rattle.json.specs.Print.{escape}
use Rattle.serde_json.specs.Written.{compact_text}
use Rattle.serde_json.proofs.OnLiterals.{serde_json_on_literals}
use Rattle.vx_json.specs.Objects.{call_data, fate_data}
use Rattle.vx_json.specs.Plain.{IsPlain}
use Rattle.vx_json.specs.Records.{call_json, fate_json}
use Rattle.vx_json.proofs.Plainness.{as_it_is}

-- the texts of a call between the words of its object
abbrev call_spread : List ℕ → List ℕ → List ℕ → ℕ → ℕ → List ℕ
call_spread cmd player reply sector tick =
    codes "{\"cmd\":\"" ++ ((cmd ++ 34 ∷ []) ++ (codes ",\"player\":\"" ++ ((player ++ 34 ∷ []) ++ (codes ",\"reply\":\"" ++ ((reply ++ 34 ∷ [])
    ++ (codes ",\"sector\":" ++ (decimal sector ++ (codes ",\"tick\":" ++ (decimal tick ++ codes "}")))))))))

call_is_spread : (cmd player reply : List ℕ) (sector tick : ℕ)
    → compact_text (call_data cmd player reply sector tick) ≡ call_spread (escape cmd) (escape player) (escape reply) sector tick
unfolding serde_json_on_literals
call_is_spread cmd player reply sector tick = refl

call_joined : (cmd player reply : List ℕ) (sector tick : ℕ) → call_spread cmd player reply sector tick ≡ call_json cmd player reply sector tick
call_joined cmd player reply sector tick = simp append_assoc

pub call_written : (cmd player reply : List ℕ) (sector tick : ℕ) → IsPlain cmd → IsPlain player → IsPlain reply
    → compact_text (call_data cmd player reply sector tick) ≡ call_json cmd player reply sector tick
call_written cmd player reply sector tick c p r =
    call_is_spread cmd player reply sector tick
    ∙ (λ i. call_spread (as_it_is c i) (as_it_is p i) (as_it_is r i) sector tick)
    ∙ call_joined cmd player reply sector tick

-- the text of a fate between the words of its object
abbrev fate_spread : List ℕ → ℕ → List ℕ
fate_spread fate tick = codes "{\"fate\":\"" ++ ((fate ++ 34 ∷ []) ++ (codes ",\"tick\":" ++ (decimal tick ++ codes "}")))

fate_is_spread : (fate : List ℕ) (tick : ℕ) → compact_text (fate_data fate tick) ≡ fate_spread (escape fate) tick
unfolding serde_json_on_literals
fate_is_spread fate tick = refl

fate_joined : (fate : List ℕ) (tick : ℕ) → fate_spread fate tick ≡ fate_json fate tick
fate_joined fate tick = simp append_assoc

pub fate_written : (fate : List ℕ) (tick : ℕ) → IsPlain fate → compact_text (fate_data fate tick) ≡ fate_json fate tick
fate_written fate tick f =
    fate_is_spread fate tick ∙ ap (λ text. fate_spread text tick) (as_it_is f) ∙ fate_joined fate tick
