-- How wide a world is, by its last sector.
use Rattle.std.proofs.Common.{◌≡◌, ℕ, ◌+◌, ◌-◌, ◌*◌, ◌/◌, ◌%◌, ap, sym, ◌∙◌, arith}
use Rattle.vx_geom.specs.Places.{west, north}
use Rattle.vx_geom.specs.Sizes.{Sizes, AreSizes, span, sector_count}
use Rattle.vx_geom.proofs.Divisions.{number_column, number_row}

before_last : (a b : ℕ) → (a + 1) * (b + 1) - 1 ≡ a + (a + 1) * b
before_last a b = omega arith

last_of : (w a b : ℕ) → w * (((a + 1) * (b + 1) - 1) % (a + 1)) + w ≡ (a + 1) * w
last_of w a b =
    ap (λ n. w * (n % (a + 1)) + w) (before_last a b)
    ∙ ap (λ n. w * n + w) (number_column (a + 1) a b (omega arith))
    ∙ omega arith

last_row_of : (w a b : ℕ) → w * (((a + 1) * (b + 1) - 1) / (a + 1)) + w ≡ (b + 1) * w
last_row_of w a b =
    ap (λ n. w * (n / (a + 1)) + w) (before_last a b)
    ∙ ap (λ n. w * n + w) (number_row (a + 1) a b (omega arith))
    ∙ omega arith

module _ (v : Sizes) (sizes : AreSizes v) (k : ℕ) (all : k ≡ sector_count v) where
  from_west : v.sx ≡ v.sx - 1 + 1
  from_west = omega (arith, sizes.sx_least)

  from_north : v.sz ≡ v.sz - 1 + 1
  from_north = omega (arith, sizes.sz_least)

  pub last_column : west v (k - 1) + span v ≡ v.sx * span v
  last_column =
      (λ i. span v * (((all ∙ (λ j. from_west j * from_north j)) i - 1) % from_west i) + span v)
      ∙ last_of (span v) (v.sx - 1) (v.sz - 1)
      ∙ ap (λ n. n * span v) (sym from_west)

  pub last_row : north v (k - 1) + span v ≡ v.sz * span v
  last_row =
      (λ i. span v * (((all ∙ (λ j. from_west j * from_north j)) i - 1) / from_west i) + span v)
      ∙ last_row_of (span v) (v.sx - 1) (v.sz - 1)
      ∙ ap (λ n. n * span v) (sym from_north)
