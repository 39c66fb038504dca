use Rattle.std.proofs.Common.{ap, sym, ◌+◌, ◌*◌, if◌then◌else◌, ◌∙◌, arith}
use Rattle.std.proofs.lemmas.Result.{on_ok_weaker}
use Rattle.vx_levels.specs.Linked.{level_at, links_at}
use Rattle.vx_levels.proofs.Packing.{level_put, links_stay}
use Rattle.vx_power.specs.Levels.{same_place}
use Rattle.vx_levels.proofs.linked_levels.LinkedLevels.put.Goals as goal

pub returns-clause-level : goal.returns-clause-level
returns-clause-level c =
    let p = c.args.p in
    let links = c.links.result in
    let level = c.args.level in
    on_ok_weaker c.put.result
    (λ put q. level_put c.self.inside.words c.put.new.self p links level (16 * links + c.from.result)
    (ap (λ n. 16 * links + n) c.from.ensures) (omega (arith, c.requires.most)) put q
    ∙ ap (λ t. if same_place q p then level else level_at t q) c.self.view_is)
    c.put.ensures

pub returns-clause-links : goal.returns-clause-links
returns-clause-links c =
    let p = c.args.p in
    let word = 16 * c.links.result + c.from.result in
    on_ok_weaker c.put.result
    (λ put q. links_stay c.self.inside.words c.put.new.self p c.links.result c.from.result word (λ i. word)
    (omega (arith, c.from.ensures, c.requires.most)) put
    (c.links.ensures.value ∙ ap (λ t. links_at t p) (sym c.self.view_is)) q
    ∙ ap (λ t. links_at t q) c.self.view_is)
    c.put.ensures
