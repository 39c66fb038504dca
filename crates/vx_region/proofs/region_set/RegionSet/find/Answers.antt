use Rattle.std.proofs.Common.{if◌then◌else◌, Some, find, bytes_eq, option_map, rules, ap, sym, ◌∙◌}
use Rattle.vx_region.specs.Regions.{Entry, number_of}
use Rattle.vx_region.specs.contracts.region_set.RegionSet.{the_view}
use Rattle.vx_region.proofs.Indexing.{number_found}
use Rattle.vx_region.proofs.region_set.RegionSet.find.Goals as goal

-- the world at large
pub returns-then-is_global_id : goal.returns-then-is_global_id
unfolding number_of
returns-then-is_global_id c =
    let local = sym c.is_global_id.ensures ∙ c.if-is_global_id.true in
    sym (ap (λ b. if b then Some 0 else option_map (λ (e : Entry). e.0) (find (λ e. bytes_eq c.args.id.now.text.bytes e.1.id) c.args.self.now.entries)) local)

pub returns : goal.returns
returns c =
    let other = sym c.is_global_id.ensures ∙ c.if-is_global_id.false in
    let is = number_found (the_view c.self.inside) c.self.inside.numbers c.self.inside.children c.args.id.now _ other c.get.ensures c.self.invariant in
    rw (← c.self.view_is, ← is) (search rules)
