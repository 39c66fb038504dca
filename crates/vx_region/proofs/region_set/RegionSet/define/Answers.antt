use Rattle.std.proofs.Common.{ℕ, Some, cond, bytes_eq, ◌+◌, ◌++◌, ◌∷◌, [], List, refl, ap, sym, ◌∙◌, subst}
use Rattle.std.specs.Map.{lookup}
use Rattle.vx_name.specs.Ids.{same_id}
use Rattle.vx_region.specs.IdIndex.{first_with}
use Rattle.vx_region.specs.Regions.{RegionData, Entry, regions_of, is_global_id, with_region}
use Rattle.vx_region.specs.Soundness.{IsSound}
use Rattle.vx_name.specs.declared.id.Id.{Id}
use Rattle.vx_region.specs.contracts.region_set.RegionSet.{the_view}
use Rattle.vx_region.proofs.Indexing.{free_is, free_is_local, sound_pushed}
use Rattle.vx_region.proofs.region_set.RegionSet.define.Goals as goal

pub invariant_of-self-2 : goal.invariant_of-self-2
invariant_of-self-2 c =
    let rs = the_view c.self.inside in
    let index = c.self.inside.numbers in
    let number = Some (c.self.inside.last + 1) in
    let fresh = c.in_ok-region.ensures ∙ c.new.ensures in
    let free = ap (λ (r : RegionData). first_with rs.entries r.id) fresh ∙ free_is rs c.args.id.text.bytes (rw c.self.view_is c.requires.free) in
    let local = ap (λ (r : RegionData). is_global_id r.id) fresh ∙ free_is_local rs c.args.id.text.bytes (rw c.self.view_is c.requires.free) in
    subst (λ (es : List Entry). IsSound (regions_of (c.self.inside.last + 1) es c.self.inside.global) c.add.new.self c.self.inside.children) (sym c.in_ok-push.ensures.ok)
    (sound_pushed rs c.in_ok-region.region index c.add.new.self c.self.inside.children (ap (λ (r : RegionData). r.parent) fresh) free local
    (λ q. c.in_ok-add.ensures.ok q
    ∙ ap (λ (n : List (Id × ℕ)). cond (same_id c.args.id q) number (lookup (same_id q) n)) c.in_ok-numbers.ensures.cases
    ∙ ap (λ (r : RegionData). cond (bytes_eq r.id q.text.bytes) number (lookup (same_id q) index)) (sym fresh))
    c.self.invariant)

pub returns-clause-ok : goal.returns-clause-ok
unfolding with_region
returns-clause-ok c =
    let rs = the_view c.self.inside in
    let number = c.self.inside.last + 1 in
    let fresh = c.in_ok-region.ensures ∙ c.new.ensures in
    rw (← c.self.view_is)
    (refl, ap (λ (es : List Entry). regions_of number es c.self.inside.global) (c.in_ok-push.ensures.ok ∙ ap (λ (r : RegionData). rs.entries ++ (number, r) ∷ []) fresh))
