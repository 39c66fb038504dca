use Rattle.std.proofs.Common.{◌≡◌, ◌-◌, ◌+◌, ◌/◌, length, min, option_map, ap, sym, ◌∙◌, subst, arith}
use Rattle.std.proofs.Math.Nat.{min-le_left}
use Rattle.vx_region.specs.Blocks.{AreBehind}
use Rattle.vx_region.specs.Regions.{Entry}
use Rattle.vx_region.proofs.Blocks.{seen}
use Rattle.vx_region.proofs.Places.{behind_all, before_lower, behind_higher, none_beside, none_behind}
use Rattle.vx_region.proofs.region_list.RegionList.searched.Goals as goal

pub loop-low-init : goal.loop-low-init
loop-low-init c =
    let es = c.args.self.now in
    let high : c.min-high.result ≡ min (length es) c.args.number = c.min-high.ensures ∙ ap (λ n. min n c.args.number) (c.self.invariant.1 ∙ ap length c.self.view_is) in
    record {
      before = c.first_place-low.ensures;
      behind = subst (λ n. AreBehind n c.args.number es) (sym high) (behind_all c.args.number es c.requires);
      within = omega (arith, high, min-le_left (length es) c.args.number);
    }

pub returns-in_err-found-clause-none : goal.returns-in_err-found-clause-none
returns-in_err-found-clause-none c =
    let middle = c.loop-low.low + (c.loop-low.high - c.loop-low.low) / 2 in
    absurd (omega (arith, none_behind c.args.self.now middle (sym c.nth.ensures ∙ ap (option_map seen) c.in_err-found.was)))

pub loop-low-preserved-then-found-number-2 : goal.loop-low-preserved-then-found-number-2
loop-low-preserved-then-found-number-2 c =
    let middle = c.loop-low.low + (c.loop-low.high - c.loop-low.low) / 2 in
    let e : Entry = (c.in_ok-found.found, c.in_ok-found.field-0-1.now) in
    record {
      before = before_lower c.args.number middle c.args.self.now e c.requires (sym c.in_ok-found.ensures) c.if-found-number-2.true;
      behind = c.loop-low.invariant.behind;
      within = c.loop-low.invariant.within;
    }

pub loop-low-preserved : goal.loop-low-preserved
loop-low-preserved c =
    let middle = c.loop-low.low + (c.loop-low.high - c.loop-low.low) / 2 in
    let e : Entry = (c.in_ok-found.found, c.in_ok-found.field-0-1.now) in
    record {
      before = c.loop-low.invariant.before;
      behind = behind_higher c.args.number middle c.args.self.now e c.requires (sym c.in_ok-found.ensures) (omega arith);
      within = omega arith;
    }

pub returns-clause-none : goal.returns-clause-none
returns-clause-none c =
    none_beside c.loop-low.high c.args.number c.args.self.now c.loop-low.low c.loop-low.invariant.before c.loop-low.invariant.behind (omega arith)
