use Rattle.std.proofs.Common.{◌∙◌, sym}
use Rattle.vx_region.proofs.SharedDomains.{nothing_listed}
use Rattle.vx_decide.proofs.asker.Asker.stands_in_domain.Goals as goal

pub returns-then-not-lists_domains_along : goal.returns-then-not-lists_domains_along
returns-then-not-lists_domains_along c =
    sym (nothing_listed c.args.self.now.regions.now c.args.number.0 (sym c.lists_domains_along.ensures ∙ c.if-not-lists_domains_along.true) c.args.place.now)
