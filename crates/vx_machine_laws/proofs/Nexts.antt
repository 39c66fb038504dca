-- What lamps, levers and pistons are after a tick.
use Rattle.std.proofs.Common.{◌≡◌, ℕ, Bool, true, false, None, refl, sym, ap, ◌∙◌}
use Rattle.vx_geom.specs.declared.pos.Pos.{Pos}
use Rattle.vx_block.specs.declared.lamp.Lamp.{Lamp}
use Rattle.vx_block.specs.declared.lamp.Lamp.TheVariants.{Off, Lit, Cooling}
use Rattle.vx_block.specs.declared.cell.Cell.{Cell}
use Rattle.vx_block.specs.declared.cell.Cell.TheVariants as cell
use Rattle.vx_power.specs.Signals.{is_active}
use Rattle.vx_part.specs.Parts.{next_lamp, next_of, next_part}
use Rattle.vx_machine_laws.specs.Lamps.{LampsLight, after_a_tick, LampsGoOut, LeversStay, PistonsStay}

-- a lamp by whether it is active
next_by : (w : Pos → Cell) (level : Pos → ℕ) (p : Pos) (was : Lamp) (active : Bool)
    → w p ≡ cell.Lamp was → is_active w level None p ≡ active
    → next_part w level p ≡ cell.Lamp (next_lamp was active)
unfolding next_of
next_by w level p was active is power =
    ap (next_of w level p) is ∙ ap (λ b. cell.Lamp (next_lamp was b)) power

goes_out : (was : Lamp) → next_lamp was false ≡ after_a_tick was
goes_out Off = refl
goes_out Lit = refl
goes_out Cooling = refl

lights : (was : Lamp) → next_lamp was true ≡ Lit
lights Off = refl
lights Lit = refl
lights Cooling = refl

pub lamps_light : LampsLight
lamps_light w level p was is power =
    next_by w level p was true is power ∙ ap (λ l. cell.Lamp l) (lights was)

pub lamps_go_out : LampsGoOut
lamps_go_out w level p was is power =
    next_by w level p was false is power ∙ ap (λ l. cell.Lamp l) (goes_out was)

pub levers_stay : LeversStay
unfolding next_of
levers_stay w level p mounted on is = ap (next_of w level p) is ∙ sym is

pub pistons_stay : PistonsStay
unfolding next_of
pistons_stay w level p front sticky out is = ap (next_of w level p) is ∙ sym is
