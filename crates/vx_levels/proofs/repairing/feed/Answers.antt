use Rattle.std.proofs.Common.{◌≡◌, ◌++◌, ◌∷◌, [], ◌==◌, true, false, refl, sym, ◌∙◌, arith}
use Rattle.std.proofs.lemmas.Result.{on_ok_weaker}
use Rattle.vx_cells.specs.Maps.{cell_on}
use Rattle.vx_levels.specs.Linked.{level_at}
use Rattle.vx_levels.specs.Pending.{PendingData}
use Rattle.vx_levels.proofs.Keeping.{not_15, on_ok_both, on_ok_three, own_fed, taken_unsure, now_falling}
use Rattle.vx_levels.proofs.Mending.{fed_right, told_right, moved_right, fallen_right, risen_right, follows_put}
use Rattle.vx_power.specs.Signals.{is_fed}
use Rattle.vx_levels.proofs.repairing.feed.Goals as goal

pub returns-then-fed-clause-right : goal.returns-then-fed-clause-right
returns-then-fed-clause-right c =
    let w = cell_on c.args.map.now in
    let p = c.args.p in
    let old = c.args.levels.now in
    let pending = c.args.pending.now in
    let before : PendingData = record pending { unsure = pending.unsure ++ p ∷ [] } in
    let fed : is_fed w p ≡ true = cc in
    let new = c.rise.new.levels in
    on_ok_three c.rise.result
    (λ stay put is. risen_right w old before pending p (taken_unsure pending p) c.requires.right c.requires.linked c.requires.dust
    new c.rise.new.pending stay 15 put (c.requires.right.kept.low p) (omega arith)
    (sym fed) (own_fed w (level_at old) (level_at new) p 15 put fed refl) is)
    c.rise.ensures.links c.rise.ensures.levels c.rise.ensures.pending

pub returns-then-fed-clause-follows : goal.returns-then-fed-clause-follows
returns-then-fed-clause-follows c =
    on_ok_both c.rise.result (follows_put c.args.put.now.items c.args.levels.now c.rise.new.levels)
    c.rise.ensures.put c.rise.ensures.levels

pub returns-then-was-eq-FED-2-clause-right : goal.returns-then-was-eq-FED-2-clause-right
returns-then-was-eq-FED-2-clause-right c =
    let w = cell_on c.args.map.now in
    let p = c.args.p in
    let old = c.args.levels.now in
    let pending = c.args.pending.now in
    let before : PendingData = record pending { unsure = pending.unsure ++ p ∷ [] } in
    let unfed : is_fed w p ≡ false = cc in
    on_ok_three c.fall.result
    (λ stay put is. fallen_right w old before pending p (taken_unsure pending p) c.requires.right c.requires.linked c.requires.dust
    c.fall.new.levels c.fall.new.pending stay c.at-was.result c.at-was.ensures.value unfed put is)
    c.fall.ensures.links c.fall.ensures.levels c.fall.ensures.pending

pub returns-then-was-eq-FED-2-clause-follows : goal.returns-then-was-eq-FED-2-clause-follows
returns-then-was-eq-FED-2-clause-follows c =
    on_ok_both c.fall.result (follows_put c.args.put.now.items c.args.levels.now c.fall.new.levels)
    c.fall.ensures.put c.fall.ensures.levels

pub returns-then-was-eq-FED-clause-right : goal.returns-then-was-eq-FED-clause-right
returns-then-was-eq-FED-clause-right c =
    let w = cell_on c.args.map.now in
    let p = c.args.p in
    let pending = c.args.pending.now in
    let before : PendingData = record pending { unsure = pending.unsure ++ p ∷ [] } in
    let fed : is_fed w p ≡ true = cc in
    fed_right w c.args.levels.now before pending p (taken_unsure pending p) c.requires.right c.requires.linked
    c.requires.dust fed (sym c.at-was.ensures.value ∙ c.if-was-eq-FED.true)

pub returns-then-told_level-was-clause-right : goal.returns-then-told_level-was-clause-right
returns-then-told_level-was-clause-right c =
    let w = cell_on c.args.map.now in
    let p = c.args.p in
    let pending = c.args.pending.now in
    let before : PendingData = record pending { unsure = pending.unsure ++ p ∷ [] } in
    let unfed : is_fed w p ≡ false = cc in
    told_right w c.args.levels.now before pending p (taken_unsure pending p) c.requires.right c.requires.linked
    c.requires.dust unfed c.at-was.result c.told_level.result
    c.at-was.ensures.value c.if-was-eq-FED-2.false c.told_level.ensures.value c.if-told_level-was.true

pub returns-clause-right : goal.returns-clause-right
returns-clause-right c =
    let w = cell_on c.args.map.now in
    let p = c.args.p in
    let old = c.args.levels.now in
    let pending = c.args.pending.now in
    let before : PendingData = record pending { unsure = pending.unsure ++ p ∷ [] } in
    let unfed : is_fed w p ≡ false = cc in
    let other : (level_at old p == 15) ≡ false = not_15 _ (level_at old p) c.at-was.ensures.value c.if-was-eq-FED-2.false in
    on_ok_weaker c.add_falling.result
    (λ is. moved_right w old before pending p (taken_unsure pending p) c.requires.right c.requires.linked c.requires.dust
    c.add_falling.new.self (other ∙ sym unfed) (now_falling pending p c.add_falling.new.self is))
    c.add_falling.ensures
