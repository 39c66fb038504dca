use Rattle.std.proofs.Common.{◌≡◌, ◌<◌, length, map, take, get_or, set, sym, ap, ◌∙◌, subst, arith, rules}
use Rattle.std.proofs.lemmas.Iterator.Consumers.{YieldsList-turn, YieldsList-end}
use Rattle.std.proofs.lemmas.Iterator.Adapters.{YieldsList-from_vec}
use Rattle.std.proofs.lemmas.List.{length_push, map-id, take_all}
use Rattle.vx_sector.specs.SectorData.{SectorData}
use Rattle.vx_windows.specs.Sectors.{IsOf, entries_of, next_of, nexts, renewed_each}
use Rattle.vx_windows.proofs.Changing.{as_many_quiet, quiet_at}
use Rattle.vx_windows.proofs.Going.{as_many, renewed_none}
use Rattle.vx_windows.proofs.Onward.{goes_on, is_next, no_next, still_there}
use Rattle.vx_windows.proofs.Renewals.{closed_more}
use Rattle.vx_windows.proofs.windows.renew_sectors.Goals as goal

pub loop-next-init : goal.loop-next-init
loop-next-init c = (
  sym (ap (renewed_each c.args.sectors.now) (no_next c.args.tick c.args.sectors.now) ∙ renewed_none c.args.sectors.now),
  search rules,
  search rules,
  search rules,
)

pub bounds-sectors-len : goal.bounds-sectors-len
bounds-sectors-len c =
    let ss = c.args.sectors.now in
    let fs = c.args.fresh.items in
    let ys = c.loop-next.yielded in
    let f = c.in-Some.next in
    let turn : (length ys < length fs) × (f ≡ get_or fs (length ys) f) = YieldsList-turn (YieldsList-from_vec {s = c.into_iter-next-iterator.result} fs (search rules) (search rules)) ys c.loop-next.next-iterator c.loop-next.yielded_by c.next.result c.next.new.self f c.in-Some.is c.next.ensures.steps in
    let within : length ys < length ss = omega (arith, turn.0, as_many_quiet ss fs c.requires.quiet) in
    omega (arith, within, c.len.ensures, c.loop-next.invariant.2, ap length c.loop-next.invariant.0, as_many ss (nexts c.args.tick ss ys))

pub renew-closed-requires-clause-fresh : goal.renew-closed-requires-clause-fresh
renew-closed-requires-clause-fresh c =
    let ss = c.args.sectors.now in
    let fs = c.args.fresh.items in
    let ys = c.loop-next.yielded in
    let f = c.in-Some.next in
    let turn : (length ys < length fs) × (f ≡ get_or fs (length ys) f) = YieldsList-turn (YieldsList-from_vec {s = c.into_iter-next-iterator.result} fs (search rules) (search rules)) ys c.loop-next.next-iterator c.loop-next.yielded_by c.next.result c.next.new.self f c.in-Some.is c.next.ensures.steps in
    let within : length ys < length ss = omega (arith, turn.0, as_many_quiet ss fs c.requires.quiet) in
    let d = c.index-sectors-len.result in
    let before = still_there c.args.tick ss c.loop-next.sectors ys c.len.result d (c.len.ensures ∙ c.loop-next.invariant.2) within c.loop-next.invariant.0 in
    subst (λ (s : SectorData). IsOf s (next_of c.args.tick s f)) (sym before)
    (is_next c.args.tick ss fs (length ys) d f c.requires.fresh within turn.0 turn.1)

pub renew-closed-requires-clause-quiet : goal.renew-closed-requires-clause-quiet
renew-closed-requires-clause-quiet c none =
    let ss = c.args.sectors.now in
    let fs = c.args.fresh.items in
    let ys = c.loop-next.yielded in
    let f = c.in-Some.next in
    let turn : (length ys < length fs) × (f ≡ get_or fs (length ys) f) = YieldsList-turn (YieldsList-from_vec {s = c.into_iter-next-iterator.result} fs (search rules) (search rules)) ys c.loop-next.next-iterator c.loop-next.yielded_by c.next.result c.next.new.self f c.in-Some.is c.next.ensures.steps in
    let within : length ys < length ss = omega (arith, turn.0, as_many_quiet ss fs c.requires.quiet) in
    let d = c.index-sectors-len.result in
    let before = still_there c.args.tick ss c.loop-next.sectors ys c.len.result d (c.len.ensures ∙ c.loop-next.invariant.2) within c.loop-next.invariant.0 in
    ap (λ (s : SectorData). s.entries) before ∙ quiet_at ss fs (length ys) d f c.requires.quiet within (sym turn.1 ∙ none)

pub push_reserved-requires : goal.push_reserved-requires
push_reserved-requires c =
    let ss = c.args.sectors.now in
    let fs = c.args.fresh.items in
    let ys = c.loop-next.yielded in
    let f = c.in-Some.next in
    let turn : (length ys < length fs) × (f ≡ get_or fs (length ys) f) = YieldsList-turn (YieldsList-from_vec {s = c.into_iter-next-iterator.result} fs (search rules) (search rules)) ys c.loop-next.next-iterator c.loop-next.yielded_by c.next.result c.next.new.self f c.in-Some.is c.next.ensures.steps in
    let within : length ys < length ss = omega (arith, turn.0, as_many_quiet ss fs c.requires.quiet) in
    omega (arith, within, c.loop-next.invariant.2, c.loop-next.invariant.3)

pub loop-next-preserved : goal.loop-next-preserved
loop-next-preserved c =
    let ss = c.args.sectors.now in
    let fs = c.args.fresh.items in
    let ys = c.loop-next.yielded in
    let f = c.in-Some.next in
    let turn : (length ys < length fs) × (f ≡ get_or fs (length ys) f) = YieldsList-turn (YieldsList-from_vec {s = c.into_iter-next-iterator.result} fs (search rules) (search rules)) ys c.loop-next.next-iterator c.loop-next.yielded_by c.next.result c.next.new.self f c.in-Some.is c.next.ensures.steps in
    let within : length ys < length ss = omega (arith, turn.0, as_many_quiet ss fs c.requires.quiet) in
    let d = c.index-sectors-len.result in
    let number : c.len.result ≡ length ys = c.len.ensures ∙ c.loop-next.invariant.2 in
    let before = still_there c.args.tick ss c.loop-next.sectors ys c.len.result d number within c.loop-next.invariant.0 in
    let more = length_push ys f in (
      ap (λ s. set c.loop-next.sectors c.len.result s) c.renew-closed.ensures.renewed
          ∙ goes_on c.args.tick ss c.loop-next.sectors ys f c.len.result d number within c.loop-next.invariant.0,
      rw (c.push_reserved.ensures.items, more) (closed_more c.loop-next.windows.items c.renew-closed.result ss (length ys) d within c.loop-next.invariant.1 (c.renew-closed.ensures.window ∙ ap entries_of before)),
      omega (arith, c.push_reserved.ensures.len, c.loop-next.invariant.2, more),
      search rules,
    )

pub returns-clause-renewed : goal.returns-clause-renewed
returns-clause-renewed c =
    let fs = c.args.fresh.items in
    let ended = YieldsList-end (YieldsList-from_vec {s = c.into_iter-next-iterator.result} fs (search rules) (search rules)) c.loop-next.yielded c.loop-next.next-iterator c.loop-next.yielded_by c.next.result c.next.new.self c.in-None.is c.next.ensures.steps in
    c.loop-next.invariant.0
    ∙ ap (λ gs. renewed_each c.args.sectors.now (nexts c.args.tick c.args.sectors.now gs)) (sym (map-id c.loop-next.yielded) ∙ ended.0)

pub returns-clause-windows : goal.returns-clause-windows
returns-clause-windows c =
    let ss = c.args.sectors.now in
    let fs = c.args.fresh.items in
    let ended = YieldsList-end (YieldsList-from_vec {s = c.into_iter-next-iterator.result} fs (search rules) (search rules)) c.loop-next.yielded c.loop-next.next-iterator c.loop-next.yielded_by c.next.result c.next.new.self c.in-None.is c.next.ensures.steps in
    let all : c.loop-next.yielded ≡ fs = sym (map-id c.loop-next.yielded) ∙ ended.0 in
    let whole : take (length c.loop-next.yielded) ss ≡ ss = take_all (length c.loop-next.yielded) ss (omega (arith, ap length all, as_many_quiet ss fs c.requires.quiet)) in
    c.loop-next.invariant.1 ∙ ap (map entries_of) whole
