use Rattle.std.proofs.Common.{◌≡◌, false, if◌then◌else◌, ◌++◌, ◌∷◌, [], ap, ◌∙◌}
use Rattle.std.proofs.lemmas.Result.{on_ok_weaker}
use Rattle.vx_block.specs.Components.{is_dust}
use Rattle.vx_cells.specs.Maps.{cell_on}
use Rattle.vx_levels.specs.Linked.{links_at, linked}
use Rattle.vx_levels.specs.Pending.{PendingData}
use Rattle.vx_levels.proofs.Keeping.{on_ok_both, taken_unsure}
use Rattle.vx_levels.proofs.Mending.{cleared_right, relinked_right, follows_on}
use Rattle.vx_power.proofs.Having.{own_place}
use Rattle.vx_levels.proofs.repairing.look_anew.Goals as goal

pub returns-in_default-clause-right : goal.returns-in_default-clause-right
returns-in_default-clause-right c =
    let w = cell_on c.args.map.now in
    let p = c.args.p in
    let pending = c.args.pending.now in
    let before : PendingData = record pending { unsure = pending.unsure ++ p ∷ [] } in
    let none : is_dust (w p) ≡ false = c.sight_at.ensures.none c.in_default.is in
    on_ok_both c.clear.result
    (λ put stay. cleared_right w c.args.levels.now c.clear.new.levels before pending p none (taken_unsure pending p) c.requires put stay)
    c.clear.ensures.levels c.clear.ensures.links

pub feed-requires-clause-right : goal.feed-requires-clause-right
feed-requires-clause-right c =
    relinked_right (cell_on c.args.map.now) c.args.levels.now c.put_links.new.self c.args.pending.now c.args.p c.in-Some.sight.links
    c.in_ok-put_links.ensures.links c.in_ok-put_links.ensures.level c.requires

pub feed-requires-clause-linked : goal.feed-requires-clause-linked
feed-requires-clause-linked c dust =
    let p = c.args.p in
    ap (λ n. linked n p) (c.in_ok-put_links.ensures.links p
    ∙ ap (λ b. if b then c.in-Some.sight.links else links_at c.args.levels.now p) (own_place p))
    ∙ c.in-Some.ensures.some.links

pub returns-clause-follows : goal.returns-clause-follows
returns-clause-follows c =
    on_ok_weaker c.feed.result
    (follows_on c.args.put.now.items c.feed.new.put.items c.args.levels.now c.put_links.new.self c.feed.new.levels c.in_ok-put_links.ensures.level)
    c.feed.ensures.follows
