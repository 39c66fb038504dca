-- A signed field that is read and passed on appears wrapped; this takes the wrapping off.
use Rattle.std.proofs.lemmas.Int.{to_z-of_z}

pub ruleset signed = (to_z-of_z)
