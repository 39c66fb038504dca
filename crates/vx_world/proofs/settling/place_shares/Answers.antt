use Rattle.std.proofs.Common.{◌≡◌, true, length, refl, ap, arith}
use Rattle.std.proofs.lemmas.List.{length_push, map_push}
use Rattle.std.proofs.lemmas.List.Sums.{sum_by_push}
use Rattle.std.proofs.lemmas.List.Elements.{All-rest, All-push}
use Rattle.vx_world.specs.Settlements.{is_home, sector_here, IsWindowHere}
use Rattle.vx_world.proofs.settling.place_shares.Goals as goal

pub loop-slot-preserved : goal.loop-slot-preserved
loop-slot-preserved g c =
    let before = c.loop-slot.invariant in
    let left = c.in-Some.ensures.steps.0 in (
      rw length_push (omega (arith, c.merge.ensures.parts, c.closed-share.ensures.parts, before.0)),
      rw sum_by_push (omega (arith, c.merge.ensures.amount, c.closed-share.ensures.amount, before.1)),
      rw (c.push_reserved.ensures.items, map_push, map_push, before.2, c.closed-share.ensures.window) refl,
      omega (arith, c.push_reserved.ensures.len, before.3, ap length left),
      omega (arith, c.push_reserved.ensures.capacity, before.4),
      All-rest (λ slot. is_home slot ≡ true) _ _ _ left before.5,
      All-push (λ slot. IsWindowHere (sector_here slot)) _ _ before.6 c.closed-share.ensures.open,
    )
