use Rattle.std.specs.Prelude.{ℕ, List}
use Rattle.vx_geom.specs.declared.pos.Pos.{Pos}
use Rattle.vx_region.specs.declared.subject.Subject.{Subject}
use Rattle.vx_region.specs.declared.subject.Subject.TheVariants as subject

-- who acts: a player by name, or a machine at its place
pub data Actor : Type 0 where
  Named : List ℕ → Actor
  Machine : Pos → Actor

-- who a subject is
abbrev pub actor_of : Subject → Actor
actor_of (subject.Player name) = Named name.text.bytes
actor_of (subject.Machine place) = Machine place
