use Rattle.std.proofs.Common.{◌≡◌, Some, sym, ap, ◌∙◌, subst}
use Rattle.std.specs.Option.{IfSome}
use Rattle.vx_sector.specs.SectorData.{SectorData}
use Rattle.vx_keeper.specs.Keepers.{KeeperData}
use Rattle.vx_keeper.specs.Marks.{GoesOn, WorldData}
use Rattle.vx_keeper.proofs.Giving.{part_on}
use Rattle.vx_keeper.proofs.keeper.Keeper.has_marked.Goals as goal

pub returns-in-Some : goal.returns-in-Some
returns-in-Some g c same =
    let world = c.args.self.now.world in
    let s = c.args.marked.now in
    let number = c.number_of.ensures ∙ ap (λ (t : SectorData). t.base.sector) c.sector.ensures in
    let from = subst (λ o. IfSome o (λ m. (before : WorldData) × (m ≡ Some before) × GoesOn before c.self.inside.known c.number_of.result))
    (sym c.of.ensures ∙ c.in-Some.is) (c.self.invariant.1.1 c.number_of.result) in
    part_on from.0 world s (c.has.ensures same from.0 from.1)
    (subst (GoesOn from.0 world) number (subst (λ w. GoesOn from.0 w c.number_of.result) (ap (λ (k : KeeperData). k.world) c.self.view_is) from.2))
