-- What dust may link to is close to it.
use Rattle.std.proofs.Common.{◌≡◌, true, false, not, ◌&&◌, refl, ap, arith}
use Rattle.std.proofs.lemmas.Bool.{and_right, or_parts}
use Rattle.std.proofs.lemmas.Int.{ints}
use Rattle.vx_block.specs.Components.{is_dust, is_component}
use Rattle.vx_block.specs.Conductors.{conducts}
use Rattle.vx_block.specs.declared.cell.Cell.{Cell}
use Rattle.vx_block.specs.declared.side.Side.{Side}
use Rattle.vx_block.specs.declared.side.Side.TheVariants.{East, West, South, North}
use Rattle.vx_cells.specs.Nearby.{IsClose}
use Rattle.vx_geom.specs.declared.pos.Pos.{Pos}
use Rattle.vx_power.specs.Dust.{beside, over, under, links_up, links_down}

-- over the position beside it
pub close_over : (p : Pos) (side : Side) → IsClose p (over (beside p side))
close_over p East = record {
  west = omega (arith, ints);
  east = omega (arith, ints);
  under = omega (arith, ints);
  over = omega (arith, ints);
  north = omega (arith, ints);
  south = omega (arith, ints);
}
close_over p West = record {
  west = omega (arith, ints);
  east = omega (arith, ints);
  under = omega (arith, ints);
  over = omega (arith, ints);
  north = omega (arith, ints);
  south = omega (arith, ints);
}
close_over p South = record {
  west = omega (arith, ints);
  east = omega (arith, ints);
  under = omega (arith, ints);
  over = omega (arith, ints);
  north = omega (arith, ints);
  south = omega (arith, ints);
}
close_over p North = record {
  west = omega (arith, ints);
  east = omega (arith, ints);
  under = omega (arith, ints);
  over = omega (arith, ints);
  north = omega (arith, ints);
  south = omega (arith, ints);
}

-- and under that
pub close_under : (p : Pos) (side : Side) → IsClose p (under (beside p side))
close_under p East = record {
  west = omega (arith, ints);
  east = omega (arith, ints);
  under = omega (arith, ints);
  over = omega (arith, ints);
  north = omega (arith, ints);
  south = omega (arith, ints);
}
close_under p West = record {
  west = omega (arith, ints);
  east = omega (arith, ints);
  under = omega (arith, ints);
  over = omega (arith, ints);
  north = omega (arith, ints);
  south = omega (arith, ints);
}
close_under p South = record {
  west = omega (arith, ints);
  east = omega (arith, ints);
  under = omega (arith, ints);
  over = omega (arith, ints);
  north = omega (arith, ints);
  south = omega (arith, ints);
}
close_under p North = record {
  west = omega (arith, ints);
  east = omega (arith, ints);
  under = omega (arith, ints);
  over = omega (arith, ints);
  north = omega (arith, ints);
  south = omega (arith, ints);
}

-- the first lies as high as what is over p, and the other as what is under p
pub layer_over : (p : Pos) (side : Side) → (over (beside p side)).y ≡ (over p).y
layer_over p East = refl
layer_over p West = refl
layer_over p South = refl
layer_over p North = refl

pub layer_under : (p : Pos) (side : Side) → (under (beside p side)).y ≡ (under p).y
layer_under p East = refl
layer_under p West = refl
layer_under p South = refl
layer_under p North = refl

module _ (w : Pos → Cell) (p : Pos) (side : Side) where
  -- no component, and so no dust that is linked
  pub none_over : is_component (w (over (beside p side))) ≡ false → links_up w p side ≡ false
  unfolding links_up
  none_over none = ap (λ b. b && not (conducts (w (over p)))) (or_parts (is_dust (w (over (beside p side)))) _ none).0

  pub none_under : is_component (w (under (beside p side))) ≡ false → links_down w p side ≡ false
  unfolding links_down
  none_under none = ap (λ b. b && not (conducts (w (beside p side)))) (or_parts (is_dust (w (under (beside p side)))) _ none).0

  -- dust under a conductor does not climb
  pub closed_over : conducts (w (over p)) ≡ true → links_up w p side ≡ false
  unfolding links_up
  closed_over closed = and_right (is_dust (w (over (beside p side)))) _ (ap not closed)
