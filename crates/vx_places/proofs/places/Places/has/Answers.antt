use Rattle.std.proofs.Common.{sym, ◌∙◌}
use Rattle.vx_places.proofs.Marked.{inside_of}
use Rattle.vx_places.proofs.places.Places.has.Goals as goal

pub index_in_sector-requires : goal.index_in_sector-requires
index_in_sector-requires c =
    inside_of c.self.inside.bounds c.args.p c.in-Some.sector (sym c.sector_of.ensures ∙ c.in-Some.is)
