-- What a command leaves on the lists of the pass with which it was made.
use Rattle.std.specs.Prelude.{◌≡◌, ℕ, ◌<◌, List, length, Option, Some, None, Err}
use Rattle.vx_sector.specs.declared.refusal.Refusal.TheVariants.{OutOfWorld}
use Rattle.vx_record.specs.Calls.{with_call}
use Rattle.vx_record.specs.declared.call.Call.{Call}

-- a call that speaks of a sector stands at the end of the list of that sector; one out of the world
-- was refused so, and stands on no list
abbrev pub IsCalled : Option ℕ → List (List Call) → Call → List (List Call) → Type 0
IsCalled None before call after = (call.answer ≡ Err OutOfWorld) × (after ≡ before)
IsCalled (Some at) before call after =
    (at < length before) × (after ≡ with_call before at call)
