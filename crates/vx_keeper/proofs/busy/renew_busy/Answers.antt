use Rattle.std.proofs.Common.{◌≡◌, ℕ, length, map, set, take, get_or, sym, ap, subst, ◌∙◌, arith, rules}
use Rattle.std.proofs.lemmas.Iterator.Consumers.{YieldsList-turn, YieldsList-end, YieldsList-from_enumerate}
use Rattle.std.proofs.lemmas.Iterator.Adapters.{YieldsList-from_vec}
use Rattle.std.proofs.lemmas.List.{length-map, length_push, take_all}
use Rattle.std.proofs.lemmas.List.FromFn.{length-enumerate_from}
use Rattle.vx_sector.specs.SectorData.{FreshData, entry_of}
use Rattle.vx_windows.specs.Sectors.{renewed_each}
use Rattle.vx_windows.proofs.Going.{as_many_fresh, renewed_none}
use Rattle.vx_record.specs.Kept.{AreInOrder}
use Rattle.vx_keeper.specs.Busy.{AreKeptOf}
use Rattle.vx_keeper.proofs.Renewing.{at_turn, kept_next, lower_before, next_before, next_is_of, next_renewed, next_there, next_within, nothing_kept}
use Rattle.vx_keeper.proofs.busy.renew_busy.Goals as goal

pub loop-at-init : goal.loop-at-init
loop-at-init c = record {
  so_far = sym (renewed_none c.args.busy.now);
  kept = nothing_kept c.args.kept.items c.requires.room.0;
  few = search rules;
  room = c.requires.room.1;
}

pub bounds-busy-at : goal.bounds-busy-at
bounds-busy-at c =
    let fs = c.args.fresh.items in
    let k = length c.loop-at.yielded in
    let at = c.in-Some.at in
    let f = c.in-Some.fresh in
    let turn = at_turn fs k at f
    (YieldsList-turn (YieldsList-from_enumerate (YieldsList-from_vec fs (search rules) (search rules)) (search rules))
    c.loop-at.yielded c.loop-at.at-iterator c.loop-at.yielded_by c.next.result c.next.new.self (at, f) c.in-Some.is c.next.ensures.steps) in
    next_within c.args.busy.now c.loop-at.busy fs k at f c.requires.fresh turn.1 turn.0 turn.2 c.loop-at.invariant.so_far

pub renew-closed-requires : goal.renew-closed-requires
renew-closed-requires c =
    let fs = c.args.fresh.items in
    let k = length c.loop-at.yielded in
    let at = c.in-Some.at in
    let f = c.in-Some.fresh in
    let turn = at_turn fs k at f
    (YieldsList-turn (YieldsList-from_enumerate (YieldsList-from_vec fs (search rules) (search rules)) (search rules))
    c.loop-at.yielded c.loop-at.at-iterator c.loop-at.yielded_by c.next.result c.next.new.self (at, f) c.in-Some.is c.next.ensures.steps) in
    next_is_of c.args.busy.now c.loop-at.busy fs k at f c.requires.fresh turn.1 turn.0 turn.2
    c.loop-at.invariant.so_far c.index-busy-at.result

pub keep-requires-clause-order : goal.keep-requires-clause-order
keep-requires-clause-order c =
    let ss = c.args.busy.now in
    let fs = c.args.fresh.items in
    let ys = c.loop-at.yielded in
    let k = length ys in
    let at = c.in-Some.at in
    let f = c.in-Some.fresh in
    let d = c.index-busy-at.result in
    let turn = at_turn fs k at f
    (YieldsList-turn (YieldsList-from_enumerate (YieldsList-from_vec fs (search rules) (search rules)) (search rules))
    ys c.loop-at.at-iterator c.loop-at.yielded_by c.next.result c.next.new.self (at, f) c.in-Some.is c.next.ensures.steps) in
    let there = next_there ss c.loop-at.busy fs k at f c.requires.fresh turn.1 turn.0 turn.2 c.loop-at.invariant.so_far in
    let before = next_before ss c.loop-at.busy fs k at f c.requires.fresh turn.1 turn.0 turn.2 c.loop-at.invariant.so_far d in
    let s = get_or c.loop-at.busy at d in
    subst (λ n. AreInOrder n c.loop-at.kept.items) (sym c.number_of-number.ensures)
    (c.loop-at.invariant.kept s.base.sector (lower_before ss k s d c.requires.order there before)).0

pub keep-requires-clause-room : goal.keep-requires-clause-room
keep-requires-clause-room c =
    let ss = c.args.busy.now in
    let fs = c.args.fresh.items in
    let ys = c.loop-at.yielded in
    let k = length ys in
    let at = c.in-Some.at in
    let f = c.in-Some.fresh in
    let turn = at_turn fs k at f
    (YieldsList-turn (YieldsList-from_enumerate (YieldsList-from_vec fs (search rules) (search rules)) (search rules))
    ys c.loop-at.at-iterator c.loop-at.yielded_by c.next.result c.next.new.self (at, f) c.in-Some.is c.next.ensures.steps) in
    let there = next_there ss c.loop-at.busy fs k at f c.requires.fresh turn.1 turn.0 turn.2 c.loop-at.invariant.so_far in
    omega (arith, c.loop-at.invariant.few, c.loop-at.invariant.room, there)

pub loop-at-preserved : goal.loop-at-preserved
loop-at-preserved c =
    let ss = c.args.busy.now in
    let fs = c.args.fresh.items in
    let ys = c.loop-at.yielded in
    let k = length ys in
    let at = c.in-Some.at in
    let f = c.in-Some.fresh in
    let d = c.index-busy-at.result in
    let turn = at_turn fs k at f
    (YieldsList-turn (YieldsList-from_enumerate (YieldsList-from_vec fs (search rules) (search rules)) (search rules))
    ys c.loop-at.at-iterator c.loop-at.yielded_by c.next.result c.next.new.self (at, f) c.in-Some.is c.next.ensures.steps) in
    let there = next_there ss c.loop-at.busy fs k at f c.requires.fresh turn.1 turn.0 turn.2 c.loop-at.invariant.so_far in
    let before = next_before ss c.loop-at.busy fs k at f c.requires.fresh turn.1 turn.0 turn.2 c.loop-at.invariant.so_far d in
    let more = sym (length_push ys (at, f)) in record {
      so_far =
          ap (set c.loop-at.busy at) c.renew-closed.ensures.next
          ∙ next_renewed ss c.loop-at.busy fs k at f c.requires.fresh turn.1 turn.0 turn.2 c.loop-at.invariant.so_far d
          ∙ ap (λ n. renewed_each ss (take n fs)) more;
      kept =
          subst (λ n. AreKeptOf (take n ss) c.keep.new.kept.items) more
          (kept_next ss k c.number_of-number.result c.loop-at.kept.items c.keep.new.kept.items
          (map entry_of c.renew-closed.result.items) (get_or c.loop-at.busy at d) d there before
          c.number_of-number.ensures c.renew-closed.ensures.entries c.loop-at.invariant.kept c.keep.ensures.order c.keep.ensures.windows);
      few = omega (arith, c.keep.ensures.few, c.loop-at.invariant.few, more);
      room = omega (arith, c.keep.ensures.room, c.loop-at.invariant.room);
    }

pub returns-clause-kept : goal.returns-clause-kept
returns-clause-kept c =
    let ss = c.args.busy.now in
    let fs = c.args.fresh.items in
    let ended = YieldsList-end (YieldsList-from_enumerate (YieldsList-from_vec fs (search rules) (search rules)) (search rules))
    c.loop-at.yielded c.loop-at.at-iterator c.loop-at.yielded_by c.next.result c.next.new.self c.in-None.is c.next.ensures.steps in
    let all : length ss ≡ length c.loop-at.yielded =
    omega (arith, as_many_fresh ss fs c.requires.fresh, ap length ended.0, length-map {B = ℕ × FreshData} c.loop-at.yielded (λ p. (p.0, p.1)), length-enumerate_from 0 fs) in
    subst (λ ts. AreKeptOf ts c.loop-at.kept.items) (take_all (length c.loop-at.yielded) ss (omega (arith, all))) c.loop-at.invariant.kept
