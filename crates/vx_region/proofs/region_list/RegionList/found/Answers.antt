use Rattle.std.proofs.Common.{nat_eq, ap, sym, refl, ◌∙◌}
use Rattle.std.specs.Map.{lookup}
use Rattle.vx_region.specs.Regions.{Entry}
use Rattle.vx_region.proofs.Places.{found_at, none_at_zero, same_number}
use Rattle.vx_region.proofs.region_list.RegionList.found.Goals as goal

pub returns-then-number-eq0 : goal.returns-then-number-eq0
returns-then-number-eq0 c =
    sym (ap (λ n. lookup (nat_eq n) c.args.self.now) c.if-number-eq0.true ∙ none_at_zero c.args.self.now c.requires)

pub returns-in-Some : goal.returns-in-Some
returns-in-Some c =
    sym (found_at c.args.number 0 c.args.self.now c.in-Some.field-0-0 (c.args.number, c.in-Some.region.now) c.requires c.in-Some.ensures refl)

pub returns : goal.returns
returns c =
    let place = c.in_ok-searched.field-0 in
    let e : Entry = (c.in_ok-nth.field-0.0, c.in_ok-nth.field-0.1.now) in
    sym (found_at c.args.number 0 c.args.self.now place e c.requires (sym c.in_ok-nth.ensures)
    (same_number c.args.number _ e (sym c.in_ok-nth.ensures) c.in_ok-searched.ensures.found))
