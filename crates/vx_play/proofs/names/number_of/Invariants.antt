use Rattle.std.proofs.Common.{◌≡◌, drop}
use Rattle.vx_name.specs.Texts.{texts}
use Rattle.vx_play.specs.Plays.{number_from}
use Rattle.vx_play.proofs.names.number_of.Given as goal

-- no name so far is the one
abbrev pub invariant-loop-number : goal.invariant-loop-number
invariant-loop-number l =
    number_from l.number (texts (drop l.number l.names)) l.name.text.bytes ≡ number_from 0 (texts l.names) l.name.text.bytes
