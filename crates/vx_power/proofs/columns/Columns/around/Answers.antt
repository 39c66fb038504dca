use Rattle.std.proofs.Common.{◌≡◌, ℕ, pos, ◌+◌, ◌<◌, ◌≤◌, ◌+ℤ◌, ◌-ℤ◌, rules, arith, w32}
use Rattle.std.proofs.lemmas.Int.{ints}
use mir.Val.{to_z, of_z}
use Rattle.vx_geom.specs.declared.bounds.TheConstants.{MAX_COLUMNS_EACH_WAY}
use Rattle.vx_geom.specs.Sizes.{Sizes, AreSizes, span}
use Rattle.vx_power.proofs.columns.Columns.around.Goals as goal

before : (n d m : ℕ) → n < MAX_COLUMNS_EACH_WAY → d ≤ 64 → n ≡ m → to_z w32 (of_z w32 (to_z w32 n -ℤ to_z w32 d)) ≡ pos m -ℤ pos d
before n d m near few is = omega (arith, ints)

behind : (n s d m k : ℕ) → n < MAX_COLUMNS_EACH_WAY → s ≤ 32 → d ≤ 64 → n ≡ m → s ≡ k
    → to_z w32 (of_z w32 (to_z w32 n +ℤ to_z w32 (s + d))) ≡ pos (m + k + d)
behind n s d m k near narrow few is wide = omega (arith, ints)

narrow : (v : Sizes) (s : ℕ) → AreSizes v → s ≡ span v → s ≤ 32
narrow v s sizes is = omega arith

pub returns : goal.returns
returns c =
    let off = c.args.off in
    let few = c.requires.few in
    let sizes : AreSizes c.args.bounds = search rules in
    let span_most = narrow c.args.bounds c.span.result sizes c.span.ensures in
    let west = c.west-west.ensures in
    let north = c.north-north.ensures in
    let west_is = before c.west-west.result off _ west.within few west.value in
    let east_is = behind c.west-west.result c.span.result off _ _ west.within span_most few west.value c.span.ensures in
    let north_is = before c.north-north.result off _ north.within few north.value in
    let south_is = behind c.north-north.result c.span.result off _ _ north.within span_most few north.value c.span.ensures in
    λ i. record { west = west_is i; east = east_is i; north = north_is i; south = south_is i }
