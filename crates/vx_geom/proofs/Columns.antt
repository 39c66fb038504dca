-- Extents that hold one column meet.
use Rattle.std.proofs.Common.{◌≡◌, true, arith}
use Rattle.std.specs.Prelude.{ℤ, int_le}
use Rattle.std.proofs.lemmas.Bool.{and_parts, and_from}
use Rattle.std.proofs.lemmas.Int.{ints}
use Rattle.vx_geom.specs.Extent.{is_within, overlap, meets, ExtentsMeet}

-- stretches that have a number in common overlap
overlap_at : (a b c d x : ℤ) → int_le a x ≡ true → int_le x b ≡ true → int_le c x ≡ true → int_le x d ≡ true → overlap a b c d ≡ true
unfolding overlap
overlap_at a b c d x from_a to_b from_c to_d =
    and_from (int_le a d) (int_le c b) (grind (arith, ints)) (grind (arith, ints))

pub extents_meet : ExtentsMeet
unfolding is_within meets
extents_meet e f p in_e in_f =
    let a = and_parts _ _ in_e in
    let b = and_parts _ _ in_f in
    let ax = and_parts _ _ a.0 in
    let az = and_parts _ _ a.1 in
    let bx = and_parts _ _ b.0 in
    let bz = and_parts _ _ b.1 in
    and_from _ _
    (overlap_at e.west e.east f.west f.east p.x ax.0 ax.1 bx.0 bx.1)
    (overlap_at e.north e.south f.north f.south p.z az.0 az.1 bz.0 bz.1)
