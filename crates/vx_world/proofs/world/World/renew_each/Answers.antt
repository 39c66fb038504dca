use Rattle.std.proofs.Common.{◌<◌, ◌≡◌, length, get_or, sym, subst, rules}
use Rattle.std.proofs.lemmas.Iterator.Consumers.{YieldsList-turn}
use Rattle.std.proofs.lemmas.Iterator.Adapters.{YieldsList-from_vec}
use Rattle.vx_keeper.specs.Marks.{IsBegun}
use Rattle.vx_keeper.specs.declared.next_window.NextWindow.{NextWindow}
use Rattle.vx_world.proofs.world.World.renew_each.Goals as goal

pub renew_at-requires : goal.renew_at-requires
renew_at-requires g c =
    let windows = c.args.next.items in
    let before = c.loop-window.yielded in
    let window = c.in-Some.window in
    let turn : (length before < length windows) × (window ≡ get_or windows (length before) window) =
    YieldsList-turn (YieldsList-from_vec {s = c.into_iter-window-iterator.result} windows (search rules) (search rules))
    before c.loop-window.window-iterator c.loop-window.yielded_by c.next.result c.next.new.self window c.in-Some.is c.next.ensures.steps in
    subst (λ (w : NextWindow). IsBegun c.args.keeper.now.world w.number w.fresh) (sym turn.1) (c.requires (length before) window turn.0)
