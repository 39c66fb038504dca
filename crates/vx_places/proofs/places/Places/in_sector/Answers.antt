use Rattle.std.proofs.Common.{◌≡◌, IfOk, Some, None, refl, ap, subst, ◌∙◌}
use Rattle.vx_places.specs.Places.{marked_places}
use Rattle.vx_places.proofs.Finding.{none_found, sector_found}
use Rattle.vx_places.proofs.places.Places.in_sector.Goals as goal

pub returns-in-Some : goal.returns-in-Some
returns-in-Some c =
    let words = c.in-Some.marks.now in
    subst (λ all. IfOk c.marked_places.result (λ found. found.items ≡ all))
    (ap (λ d. marked_places d.sizes c.args.sector (Some words)) c.self.view_is
    ∙ sector_found c.args.self.now c.args.sector (Some words) c.soundness.ensures c.requires c.in-Some.ensures.some)
    c.marked_places.ensures

pub returns-in-None : goal.returns-in-None
returns-in-None c =
    c.new.ensures.items ∙ none_found c.args.self.now.sizes c.args.sector
    ∙ sector_found c.args.self.now c.args.sector None c.soundness.ensures c.requires (c.in-None.ensures.none refl)
