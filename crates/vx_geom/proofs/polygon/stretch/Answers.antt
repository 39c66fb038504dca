use Rattle.std.proofs.Common.{◌≡◌, rules, arith, true, ℤ, ◌≤ℤ◌, ◌<ℤ◌, SFits, w32}
use Rattle.std.specs.Prelude.{int_lt}
use Rattle.std.proofs.lemmas.Int.{ints, clamps, to_z-of_z}
use mir.Val.{to_z, of_z}
use Rattle.vx_geom.specs.Polygon.{Column}
use Rattle.vx_geom.specs.Row.{reaches}
use Rattle.vx_geom.proofs.Slopes.{reached}
use Rattle.vx_geom.proofs.polygon.stretch.Goals as goal

less : (m n : ℤ) → SFits w32 m → SFits w32 n → int_lt (to_z w32 (of_z w32 m)) (to_z w32 (of_z w32 n)) ≡ true → m <ℤ n
less m n m_fits n_fits is = omega (arith, ints, to_z-of_z w32 m m_fits, to_z-of_z w32 n n_fits, is)

southward : (a b : Column) (z : ℤ) → SFits w32 z → reaches z (a, b) ≡ true → a.1 <ℤ b.1
    → (a.1 ≤ℤ to_z w32 (of_z w32 z)) × (to_z w32 (of_z w32 z) ≤ℤ b.1)
southward a b z fits there below =
    let ends = reached a b z there in
    rw (to_z-of_z w32 z fits) (omega (arith, ints, clamps, ends.0, below), omega (arith, ints, clamps, ends.1, below))

northward : (a b : Column) (z : ℤ) → SFits w32 z → reaches z (a, b) ≡ true → b.1 <ℤ a.1
    → (b.1 ≤ℤ to_z w32 (of_z w32 z)) × (to_z w32 (of_z w32 z) ≤ℤ a.1)
northward a b z fits there below =
    let ends = reached a b z there in
    rw (to_z-of_z w32 z fits) (omega (arith, ints, clamps, ends.0, below), omega (arith, ints, clamps, ends.1, below))

pub crossing-requires-clause-from : goal.crossing-requires-clause-from
crossing-requires-clause-from c =
    let a_z : SFits w32 c.args.a.now.1 = search rules in
    let b_z : SFits w32 c.args.b.now.1 = search rules in
    (southward c.args.a.now c.args.b.now c.args.z c.ranges.z c.requires (less _ _ a_z b_z c.if-a-b.true)).0

pub crossing-requires-clause-to : goal.crossing-requires-clause-to
crossing-requires-clause-to c =
    let a_z : SFits w32 c.args.a.now.1 = search rules in
    let b_z : SFits w32 c.args.b.now.1 = search rules in
    (southward c.args.a.now c.args.b.now c.args.z c.ranges.z c.requires (less _ _ a_z b_z c.if-a-b.true)).1

pub crossing-requires-then-b-a-clause-from : goal.crossing-requires-then-b-a-clause-from
crossing-requires-then-b-a-clause-from c =
    let a_z : SFits w32 c.args.a.now.1 = search rules in
    let b_z : SFits w32 c.args.b.now.1 = search rules in
    (northward c.args.a.now c.args.b.now c.args.z c.ranges.z c.requires (less _ _ b_z a_z c.if-b-a.true)).0

pub crossing-requires-then-b-a-clause-to : goal.crossing-requires-then-b-a-clause-to
crossing-requires-then-b-a-clause-to c =
    let a_z : SFits w32 c.args.a.now.1 = search rules in
    let b_z : SFits w32 c.args.b.now.1 = search rules in
    (northward c.args.a.now c.args.b.now c.args.z c.ranges.z c.requires (less _ _ b_z a_z c.if-b-a.true)).1
