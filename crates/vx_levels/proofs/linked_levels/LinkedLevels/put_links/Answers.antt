use Rattle.std.proofs.Common.{ap, sym, ◌+◌, ◌*◌, if◌then◌else◌, ◌∙◌, arith}
use Rattle.std.proofs.lemmas.Result.{on_ok_weaker}
use Rattle.vx_levels.specs.Linked.{level_at, links_at}
use Rattle.vx_levels.proofs.Packing.{links_put, levels_stay, put_again}
use Rattle.vx_power.specs.Levels.{same_place}
use Rattle.vx_levels.proofs.linked_levels.LinkedLevels.put_links.Goals as goal

pub returns-then-links-clause-links : goal.returns-then-links-clause-links
returns-then-links-clause-links c =
    put_again (links_at c.args.self.now) c.args.p c.args.links (sym c.links.ensures.value ∙ c.if-links.true)

pub returns-clause-links : goal.returns-clause-links
returns-clause-links c =
    let p = c.args.p in
    let links = c.args.links in
    let word = 16 * links + c.from.result in
    on_ok_weaker c.put.result
    (λ put q. links_put c.self.inside.words c.put.new.self p links c.from.result word (λ i. word)
    (omega (arith, c.from.ensures, c.at.ensures.most)) put q
    ∙ ap (λ t. if same_place q p then links else links_at t q) c.self.view_is)
    c.put.ensures

pub returns-clause-level : goal.returns-clause-level
returns-clause-level c =
    let p = c.args.p in
    let word = 16 * c.args.links + c.from.result in
    on_ok_weaker c.put.result
    (λ put q. levels_stay c.self.inside.words c.put.new.self p c.args.links c.from.result word (λ i. word)
    (omega (arith, c.from.ensures, c.at.ensures.most)) put
    (c.from.ensures ∙ c.at.ensures.value ∙ ap (λ t. level_at t p) (sym c.self.view_is)) q
    ∙ ap (λ t. level_at t q) c.self.view_is)
    c.put.ensures
