use Rattle.std.proofs.Common.{◌≡◌, ℕ, ℤ, ◌+◌, ◌*◌, ◌/◌, ◌<◌, ◌≤◌, rules, arith, ap, ◌∙◌, SFits, w32}
use Rattle.std.specs.Prelude.{unsigned_abs}
use Rattle.std.proofs.lemmas.Int.{to_z-of_z}
use Rattle.std.proofs.lemmas.Nat.{mul-le}
use mir.Val.{to_z, of_z}
use Rattle.vx_geom.specs.declared.bounds.TheConstants.{MAX_SECTORS_EACH_WAY}
use Rattle.vx_geom.specs.Sizes.{Sizes, AreSizes, span, sector_number}
use Rattle.vx_geom.proofs.Divisions.{part_below}
use Rattle.vx_geom.proofs.SectorLemmas.{inside_at}
use Rattle.vx_geom.proofs.bounds.Bounds.sector_holding.Goals as goal

-- how many sectors lie before a coordinate
sides_are : (v : Sizes) (z : ℤ) (abs sides : ℕ) → SFits w32 z → abs ≡ unsigned_abs (to_z w32 (of_z w32 z)) → sides ≡ abs / span v
    → sides ≡ unsigned_abs z / span v
sides_are v z abs sides fits abs_is is = is ∙ ap (λ n. n / span v) (abs_is ∙ ap unsigned_abs (to_z-of_z w32 z fits))

few : (v : Sizes) (across n sides : ℕ) → AreSizes v → across ≤ MAX_SECTORS_EACH_WAY → n < across * span v → sides ≡ n / span v → sides < MAX_SECTORS_EACH_WAY
few v across n sides sizes most below is =
    let wide : 0 < span v = omega arith in
    let part = part_below (span v) across n wide below in
    omega arith

row_fits : (sx row : ℕ) → sx ≤ MAX_SECTORS_EACH_WAY → row < MAX_SECTORS_EACH_WAY → sx * row ≤ MAX_SECTORS_EACH_WAY * MAX_SECTORS_EACH_WAY
row_fits sx row sx_most row_few = mul-le sx row MAX_SECTORS_EACH_WAY MAX_SECTORS_EACH_WAY sx_most (omega arith)

same_number : (a b c d sx v_sx : ℕ) → a ≡ b → c ≡ d → sx ≡ v_sx → a + sx * c ≡ b + v_sx * d
same_number a b c d sx v_sx same_a same_c same_sx = λ i. same_a i + same_sx i * same_c i

pub overflow_mul-result : goal.overflow_mul-result
overflow_mul-result c =
    let v = c.args.self.now in
    let sizes = c.soundness.ensures in
    let z_fits : SFits w32 c.args.p.z = search rules in
    let inside = inside_at v c.args.p c.requires in
    let row_is = sides_are v c.args.p.z c.unsigned_abs-2.result c.sides-row.result z_fits c.unsigned_abs-2.ensures.value c.sides-row.ensures in
    let row_few = few v v.sz _ c.sides-row.result sizes sizes.sz_most inside.z_below row_is in
    let product = row_fits c.from.result c.sides-row.result (rw c.from.ensures c.self.invariant.sx_most) row_few in
    omega (arith, product)

pub overflow_add-result : goal.overflow_add-result
overflow_add-result c =
    let v = c.args.self.now in
    let sizes = c.soundness.ensures in
    let x_fits : SFits w32 c.args.p.x = search rules in
    let z_fits : SFits w32 c.args.p.z = search rules in
    let inside = inside_at v c.args.p c.requires in
    let column_is = sides_are v c.args.p.x c.unsigned_abs.result c.sides-column.result x_fits c.unsigned_abs.ensures.value c.sides-column.ensures in
    let row_is = sides_are v c.args.p.z c.unsigned_abs-2.result c.sides-row.result z_fits c.unsigned_abs-2.ensures.value c.sides-row.ensures in
    let column_few = few v v.sx _ c.sides-column.result sizes sizes.sx_most inside.x_below column_is in
    let row_few = few v v.sz _ c.sides-row.result sizes sizes.sz_most inside.z_below row_is in
    let product = row_fits c.from.result c.sides-row.result (rw c.from.ensures c.self.invariant.sx_most) row_few in
    omega (arith, product, column_few)

pub returns : goal.returns
unfolding sector_number
returns c =
    let v = c.args.self.now in
    let x_fits : SFits w32 c.args.p.x = search rules in
    let z_fits : SFits w32 c.args.p.z = search rules in
    let column_is = sides_are v c.args.p.x c.unsigned_abs.result c.sides-column.result x_fits c.unsigned_abs.ensures.value c.sides-column.ensures in
    let row_is = sides_are v c.args.p.z c.unsigned_abs-2.result c.sides-row.result z_fits c.unsigned_abs-2.ensures.value c.sides-row.ensures in
    same_number c.sides-column.result _ c.sides-row.result _ c.from.result v.sx column_is row_is
    (c.from.ensures ∙ ap (λ (s : Sizes). s.sx) c.self.view_is)
