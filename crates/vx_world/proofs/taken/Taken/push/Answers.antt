use Rattle.std.proofs.Common.{◌≡◌, refl, arith}
use Rattle.std.proofs.lemmas.List.{map_push}
use Rattle.std.proofs.lemmas.List.Elements.{All-push}
use Rattle.vx_world.proofs.taken.Taken.push.Goals as goal

pub push_reserved-requires-3 : goal.push_reserved-requires-3
push_reserved-requires-3 g c =
    omega (arith, c.args.self.now.each, c.args.self.now.roomy.2, c.requires.more)

pub invariant_of-self : goal.invariant_of-self
invariant_of-self g c =
    let old = c.args.self.now in
    let a = c.push_reserved.ensures in
    let b = c.push_reserved-2.ensures in
    let d = c.push_reserved-3.ensures in
    record {
      counted = rw (a.items, d.items, map_push, map_push, old.counted, c.requires.counted) refl;
      told = omega (arith, a.len, b.len, old.told);
      each = omega (arith, a.len, d.len, old.each);
      one_part = rw d.items (All-push (λ share. share.parts ≡ 1) _ _ old.one_part c.requires.one_part);
      roomy = rw (a.capacity, b.capacity, d.capacity) old.roomy;
    }
