use Rattle.std.proofs.Common.{sym, subst}
use Rattle.vx_decide.specs.Hosts.{NameHosts}
use Rattle.vx_region.specs.Subjects.{actor_of}
use Rattle.vx_index.proofs.Listed.{numbers_name_hosts}
use Rattle.vx_index.proofs.tile.Tile.asker.Goals as goal

-- all regions of the tile
pub at-requires : goal.at-requires
at-requires c =
    subst (NameHosts c.args.regions.now (actor_of c.args.subject.now)) (sym c.deref.ensures.value)
    (numbers_name_hosts c.args.regions.now (actor_of c.args.subject.now) c.args.self.now c.soundness.ensures.forest c.requires.of c.requires.stands)
