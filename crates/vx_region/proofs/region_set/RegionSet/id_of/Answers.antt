use Rattle.std.proofs.Common.{sym, ap, ◌∙◌}
use Rattle.std.specs.Option.{option_copied}
use Rattle.vx_region.specs.contracts.region_set.RegionSet.{the_view}
use Rattle.vx_region.proofs.Indexing.{is_id_of}
use Rattle.vx_region.proofs.Lookups.{read_from_known}
use Rattle.vx_region.proofs.region_set.RegionSet.id_of.Goals as goal

pub unwrap-requires : goal.unwrap-requires
unwrap-requires c = read_from_known c.args.number.0 (the_view c.self.inside) c.get.result (rw c.self.view_is c.requires) c.get.ensures

pub returns : goal.returns
returns c =
    rw (← c.self.view_is)
    (is_id_of c.args.number.0 c.unwrap.result.now c.id.result.now (the_view c.self.inside).entries c.self.invariant.forest.numbered.ascending c.self.invariant.own_ids
    (sym c.get.ensures ∙ ap option_copied c.unwrap.ensures) c.id.ensures)
