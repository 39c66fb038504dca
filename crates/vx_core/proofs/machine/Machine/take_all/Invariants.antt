use Rattle.std.proofs.Common.{◌≡◌, drop, map}
use Rattle.vx_core.specs.Events.{happening}
use Rattle.vx_core.specs.Machines.{after_events}
use Rattle.vx_core.proofs.machine.Machine.take_all.Given as goal

-- the rest of the events leads to what all lead to
abbrev pub invariant-loop-event : goal.invariant-loop-event
invariant-loop-event g l =
    after_events l.self (map happening (drop l.event-index l.events)) ≡ after_events l.fn.self (map happening l.events)
