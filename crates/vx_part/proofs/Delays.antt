-- How a repeater counts.
use Rattle.std.proofs.Common.{◌≡◌, ℕ, zero, suc, ◌<◌, Bool, true, false, refl, sym, subst, arith}
use Rattle.vx_block.specs.declared.delay.Delay.{Delay}
use Rattle.vx_block.specs.declared.delay.Delay.TheVariants.{One, Two, Three, Four}
use Rattle.vx_block.specs.declared.side.Side.{Side}
use Rattle.vx_block.specs.Repeating.{Repeating}
use Rattle.vx_block.specs.States.{ticks_of}
use Rattle.vx_part.specs.Laws.{counted_for, RepeatersDelay}

-- a repeater at rest
abbrev at_rest : Side → Delay → Bool → Repeating
at_rest facing delay on = record { facing = facing; delay = delay; on = on; wait = 0 }

-- it follows at the end of its delay
follows : (facing : Side) (delay : Delay) (on input : Bool)
    → counted_for (ticks_of delay) (at_rest facing delay on) input ≡ at_rest facing delay input
follows facing One true true = refl
follows facing One true false = refl
follows facing One false true = refl
follows facing One false false = refl
follows facing Two true true = refl
follows facing Two true false = refl
follows facing Two false true = refl
follows facing Two false false = refl
follows facing Three true true = refl
follows facing Three true false = refl
follows facing Three false true = refl
follows facing Three false false = refl
follows facing Four true true = refl
follows facing Four true false = refl
follows facing Four false true = refl
follows facing Four false false = refl

-- and not before
waits : (facing : Side) (delay : Delay) (on input : Bool) (n : ℕ)
    → n < ticks_of delay → (counted_for n (at_rest facing delay on) input).on ≡ on
waits facing delay on input zero less = refl
waits facing One on input (suc n) less = absurd (omega (arith, less))
waits facing Two true true (suc zero) less = refl
waits facing Two true false (suc zero) less = refl
waits facing Two false true (suc zero) less = refl
waits facing Two false false (suc zero) less = refl
waits facing Two on input (suc (suc n)) less = absurd (omega (arith, less))
waits facing Three true true (suc zero) less = refl
waits facing Three true false (suc zero) less = refl
waits facing Three false true (suc zero) less = refl
waits facing Three false false (suc zero) less = refl
waits facing Three true true (suc (suc zero)) less = refl
waits facing Three true false (suc (suc zero)) less = refl
waits facing Three false true (suc (suc zero)) less = refl
waits facing Three false false (suc (suc zero)) less = refl
waits facing Three on input (suc (suc (suc n))) less = absurd (omega (arith, less))
waits facing Four true true (suc zero) less = refl
waits facing Four true false (suc zero) less = refl
waits facing Four false true (suc zero) less = refl
waits facing Four false false (suc zero) less = refl
waits facing Four true true (suc (suc zero)) less = refl
waits facing Four true false (suc (suc zero)) less = refl
waits facing Four false true (suc (suc zero)) less = refl
waits facing Four false false (suc (suc zero)) less = refl
waits facing Four true true (suc (suc (suc zero))) less = refl
waits facing Four true false (suc (suc (suc zero))) less = refl
waits facing Four false true (suc (suc (suc zero))) less = refl
waits facing Four false false (suc (suc (suc zero))) less = refl
waits facing Four on input (suc (suc (suc (suc n)))) less = absurd (omega (arith, less))

pub repeaters_delay : RepeatersDelay
repeaters_delay r input rests =
    let same : at_rest r.facing r.delay r.on ≡ r =
    λ i. record { facing = r.facing; delay = r.delay; on = r.on; wait = sym rests i } in
    subst (λ s. (counted_for (ticks_of s.delay) s input ≡ record s { on = input })
    × ((n : ℕ) → n < ticks_of s.delay → (counted_for n s input).on ≡ s.on))
    same (follows r.facing r.delay r.on input, waits r.facing r.delay r.on input)
