-- How a repeater counts, whatever its input does.
use Rattle.std.proofs.Common.{◌≡◌, ℕ, ◌-◌, ◌<◌, Bool, true, false, not, ◌||◌, ◌&&◌, List, [], ◌∷◌, ◌++◌, length, nat_eq, if◌then◌else◌, refl, sym, ap, ◌∙◌, arith}
use Rattle.vx_block.specs.Repeating.{Repeating}
use Rattle.vx_block.specs.States.{ticks_of}
use Rattle.vx_part.specs.Parts.{same_bool, counted}
use Rattle.vx_machine_laws.specs.Repeaters.{counted_by, CountsGoOn, CountsEndOn, CountsEndAsInput, PulsesGoThrough}

not_zero : (k : ℕ) → 0 < k → nat_eq k 0 ≡ false
not_zero k over = grind arith

is_zero : (k : ℕ) → k ≡ 0 → nat_eq k 0 ≡ true
is_zero k is = ap (λ k. nat_eq k 0) is

module _ (r : Repeating) (input : Bool) where
  -- a tick of a count
  counting : 0 < r.wait
      → counted r input ≡ record r { wait = r.wait - 1; on = if nat_eq (r.wait - 1) 0 then not r.on || input else r.on }
  counting over = ap (λ b. if b && same_bool input r.on then r else record r {
    wait = if b then ticks_of r.delay - 1 else r.wait - 1;
    on = if nat_eq (if b then ticks_of r.delay - 1 else r.wait - 1) 0 then not r.on || input else r.on;
  }) (not_zero r.wait over)

  -- one before the last
  goes_on : 1 < r.wait → counted r input ≡ record r { wait = r.wait - 1 }
  goes_on over =
      let more : 0 < r.wait - 1 = omega (arith, over) in
      counting (omega (arith, over))
      ∙ ap (λ b. record r { wait = r.wait - 1; on = if b then not r.on || input else r.on }) (not_zero (r.wait - 1) more)

  -- the last
  ends : r.wait ≡ 1 → counted r input ≡ record r { wait = 0; on = not r.on || input }
  ends one =
      let none : r.wait - 1 ≡ 0 = omega (arith, one) in
      counting (omega (arith, one))
      ∙ ap (λ k. record r { wait = k; on = if nat_eq k 0 then not r.on || input else r.on }) none

  -- the first
  begins : r.wait ≡ 0 → same_bool input r.on ≡ false
      → counted r input ≡ record r {
        wait = ticks_of r.delay - 1;
        on = if nat_eq (ticks_of r.delay - 1) 0 then not r.on || input else r.on;
      }
  begins rests differs =
      ap (λ b. if b && same_bool input r.on then r else record r {
        wait = if b then ticks_of r.delay - 1 else r.wait - 1;
        on = if nat_eq (if b then ticks_of r.delay - 1 else r.wait - 1) 0 then not r.on || input else r.on;
      }) (is_zero r.wait rests)
      ∙ ap (λ b. if b then r else record r {
        wait = ticks_of r.delay - 1;
        on = if nat_eq (ticks_of r.delay - 1) 0 then not r.on || input else r.on;
      }) differs

pub counts_go_on : CountsGoOn
counts_go_on r [] less =
    let same : r.wait ≡ r.wait - 0 = omega arith in
    λ i. record r { wait = same i }
counts_go_on r (input ∷ inputs) less =
    let count : r.wait - 1 - length inputs ≡ r.wait - length (input ∷ inputs) = omega arith in
    ap (counted_by inputs) (goes_on r input (omega (arith, less)))
    ∙ counts_go_on (record r { wait = r.wait - 1 }) inputs (omega (arith, less))
    ∙ ap (λ k. record r { wait = k }) count

-- the last input is the last that counts
by_last : (r : Repeating) (inputs : List Bool) (last : Bool)
    → counted_by (inputs ++ last ∷ []) r ≡ counted (counted_by inputs r) last
by_last r [] last = refl
by_last r (input ∷ inputs) last = by_last (counted r input) inputs last

pub counts_end_as_input : CountsEndAsInput
counts_end_as_input r inputs last on count =
    let before = counts_go_on r inputs (omega (arith, count)) in
    by_last r inputs last
    ∙ ap (λ s. counted s last) before
    ∙ ends (record r { wait = r.wait - length inputs }) last (omega (arith, count))
    ∙ ap (λ b. record r { wait = 0; on = not b || last }) on

pub counts_end_on : CountsEndOn
counts_end_on r [] off over count = absurd (omega (arith, over, count))
counts_end_on r (input ∷ []) off over count =
    ends r input (sym count) ∙ ap (λ b. record r { wait = 0; on = not b || input }) off
counts_end_on r (input ∷ (next ∷ inputs)) off over count =
    ap (counted_by (next ∷ inputs)) (goes_on r input (omega (arith, count)))
    ∙ counts_end_on (record r { wait = r.wait - 1 }) (next ∷ inputs) off (omega (arith, count)) (omega (arith, count))

-- a pulse into one that rests off
pub pulses_go_through : PulsesGoThrough
pulses_go_through r [] off rests count =
    let none : ticks_of r.delay - 1 ≡ 0 = omega (arith, count) in
    begins r true rests off
    ∙ ap (λ k. record r { wait = k; on = if nat_eq k 0 then not r.on || true else r.on }) none
    ∙ ap (λ b. record r { wait = 0; on = not b || true }) off
    ∙ ap (λ k. record r { wait = k; on = true }) (sym rests)
pulses_go_through r (input ∷ inputs) off rests count =
    let some : 0 < ticks_of r.delay - 1 = omega (arith, count) in
    ap (counted_by (input ∷ inputs)) (begins r true rests off
    ∙ ap (λ b. record r { wait = ticks_of r.delay - 1; on = if b then not r.on || true else r.on })
    (not_zero (ticks_of r.delay - 1) some))
    ∙ counts_end_on (record r { wait = ticks_of r.delay - 1 }) (input ∷ inputs) off some (omega (arith, count))
    ∙ ap (λ k. record r { wait = k; on = true }) (sym rests)
