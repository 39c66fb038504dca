use Rattle.std.proofs.Common.{ℕ, List, None, cond, nat_eq, bytes_eq, sym, ap, ◌∙◌, subst}
use Rattle.std.specs.Map.{lookup, remove_entry}
use Rattle.std.specs.Option.{option_copied}
use Rattle.vx_region.specs.ChildCounts.{Count}
use Rattle.vx_name.specs.Ids.{same_id}
use Rattle.vx_region.specs.Regions.{Regions}
use Rattle.vx_name.specs.declared.id.Id.{Id}
use Rattle.vx_region.specs.contracts.region_set.RegionSet.{the_view}
use Rattle.vx_region.proofs.Indexing.{sound_without}
use Rattle.vx_region.proofs.Lookups.{read_from_known}
use Rattle.vx_region.proofs.Removals.{removed_from}
use Rattle.vx_region.proofs.region_set.RegionSet.remove.Goals as goal

pub unwrap-requires : goal.unwrap-requires
unwrap-requires c = read_from_known c.args.number.0 (the_view c.self.inside) c.get.result (rw c.self.view_is c.requires.known) c.get.ensures

pub invariant_of-self-2 : goal.invariant_of-self-2
invariant_of-self-2 c =
    let rs = the_view c.self.inside in
    let index = c.self.inside.numbers in
    let count = subst (λ (now : Regions). Count c.in_ok-children.children now.entries (remove_entry (nat_eq c.args.number.0) now.entries)) (sym c.self.view_is) c.in_ok-children.ensures in
    sound_without c.args.number.0 rs c.unwrap.result.now index _ c.self.inside.children c.in_ok-children.children _ (rw c.self.view_is c.requires.childless)
    (sym c.get.ensures ∙ ap option_copied c.unwrap.ensures) c.in_ok-remove-2.ensures.ok
    (λ q. c.in_ok-remove.ensures.ok q
    ∙ ap (λ (n : List (Id × ℕ)). cond (same_id c.id.result.now q) None (lookup (same_id q) n)) c.in_ok-numbers.ensures.cases
    ∙ ap (λ id. cond (bytes_eq id q.text.bytes) None (lookup (same_id q) index)) c.id.ensures)
    count
    c.self.invariant

pub returns-clause-ok : goal.returns-clause-ok
returns-clause-ok c =
    rw (← c.self.view_is) (removed_from (the_view c.self.inside) c.args.number.0 _ c.self.invariant.forest c.in_ok-remove-2.ensures.ok)
