-- What becomes of the moves of a tick.
use Rattle.std.specs.Prelude.{◌≡◌, ⊤, List, [], ◌∷◌, map, Option, Some, None}
use Rattle.vx_geom.specs.declared.pos.Pos.{Pos}
use Rattle.vx_region.specs.Regions.{Regions}
use Rattle.vx_decide.specs.declared.rule.Rule.{Rule}
use Rattle.vx_piston.specs.Claims.{IsBeatenBy, beaten_by}
use Rattle.vx_piston.specs.Moves.{Moving}
use Rattle.vx_cause.specs.Judging.{denial}
use Rattle.vx_cause.specs.Laws.{permitted}
use Rattle.vx_tick.specs.declared.fate.Fate.{Fate}
use Rattle.vx_tick.specs.declared.fate.Fate.TheVariants.{Moved, Denied, Beaten}

-- what becomes of a move among all the moves of a tick: it is denied, else beaten, else made
abbrev pub IsFate : Regions → List Moving → Moving → Fate → Type 0
IsFate rs all m (Denied p rule) = denial rs m ≡ Some (p, rule)
IsFate rs all m (Beaten q) = (denial rs m ≡ None) × IsBeatenBy (permitted rs all) m (Some q)
IsFate rs all m Moved = (denial rs m ≡ None) × IsBeatenBy (permitted rs all) m None

-- these are the fates of these moves, each beside the position of its piston, in their order
abbrev pub AreFates : Regions → List Moving → List Moving → List (Pos × Fate) → Type 0
AreFates rs all [] [] = ⊤
AreFates rs all (m ∷ moves) (told ∷ fates) =
    (told.0 ≡ m.at) × IsFate rs all m told.1 × AreFates rs all moves fates
AreFates rs all moves fates = ⊥

-- what becomes of a move, by what denies it and by who beats it
abbrev pub fate_by : Option (Pos × Rule) → Option Pos → Fate
fate_by (Some denied) beaten = Denied denied.0 denied.1
fate_by None (Some q) = Beaten q
fate_by None None = Moved

-- what becomes of a move among all the moves of a tick
abbrev pub fate_of : Regions → List Moving → Moving → Fate
fate_of rs all m = fate_by (denial rs m) (beaten_by (permitted rs all) m)

-- each of these moves beside what becomes of it, in their order
abbrev pub fates_of : Regions → List Moving → List Moving → List (Pos × Fate)
fates_of rs all moves = map (λ m. (m.at, fate_of rs all m)) moves
