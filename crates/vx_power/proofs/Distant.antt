-- What is far from dust doesn't change its level.
use Rattle.std.proofs.Common.{◌≡◌, ℕ, zero, suc, ◌+◌, ◌-◌, ◌≤◌, true, arith}
use Rattle.std.proofs.lemmas.Int.{ints}
use Rattle.vx_geom.specs.declared.pos.Pos.{Pos}
use Rattle.vx_geom.specs.Neighbor.{neighbor}
use Rattle.vx_block.specs.declared.cell.Cell.{Cell}
use Rattle.vx_power.specs.Dust.{links}
use Rattle.vx_power.specs.Levels.{is_in}
use Rattle.vx_power.specs.Local.{columns_by, LevelsAreLocal}
use Rattle.vx_power.specs.Signals.{is_fed}
use Rattle.vx_power.specs.Walks.{IsAmong}
use Rattle.vx_power.proofs.Around.{IsOff, itself, step_off, off_joined, link_off, in_columns}
use Rattle.vx_power.proofs.Carried.{level_carried}
use Rattle.vx_power.proofs.Local.{Near, builds, shows, is_fed_same, links_same}

-- what lies so many columns off is held by the columns up to that far
held_by : (m d : ℕ) (p q : Pos) → m ≤ d → IsOff m p q → is_in (columns_by p d) q ≡ true
held_by m d p q few off = in_columns (columns_by p d) q (record {
  west = omega (arith, ints, off.west, few);
  east = omega (arith, ints, off.east, few);
  north = omega (arith, ints, off.north, few);
  south = omega (arith, ints, off.south, few);
})

module _ (w v : Pos → Cell) (p : Pos) (alike : (q : Pos) → is_in (columns_by p 16) q ≡ true → w q ≡ v q) where
  -- m columns off, the maps are alike for n steps more
  near : (n m : ℕ) (q : Pos) → m + n ≤ 16 → IsOff m p q → Near n q w v
  near zero m q few off = alike q (held_by m 16 p q (omega (arith, few)) off)
  near (suc n) m q few off = (
    near n m q (omega (arith, few)) off,
    λ d. near n (m + 1) (neighbor q d) (omega (arith, few)) (step_off m p q d off),
  )

  -- places from which n links stay within 14 columns
  abbrev IsDeep : ℕ → Pos → Type 0
  IsDeep n q = (n ≤ 14) × IsOff (14 - n) p q

  wider : (a b : ℕ) (q : Pos) → a ≤ b → IsOff a p q → IsOff b p q
  wider a b q more off = record {
    west = omega (arith, ints, off.west, more);
    east = omega (arith, ints, off.east, more);
    north = omega (arith, ints, off.north, more);
    south = omega (arith, ints, off.south, more);
  }

  less : (n : ℕ) (q : Pos) → IsDeep (suc n) q → IsDeep n q
  less n q deep =
      let few = deep.0 in (omega (arith, few), wider (14 - suc n) (14 - n) q (omega (arith, few)) deep.1)

  fed : (q : Pos) → IsDeep 0 q → is_fed w q ≡ is_fed v q
  fed q deep = is_fed_same w v q (shows w v 2 q (near 2 14 q (omega arith) deep.1))

  linked : (n : ℕ) (q : Pos) → IsDeep (suc n) q → links w q ≡ links v q
  linked n q deep =
      let few = deep.0 in links_same w v q (builds w v 2 q (shows w v 2 q (near 2 (14 - suc n) q (omega (arith, few)) deep.1)))

  next : (n : ℕ) (q r : Pos) → IsDeep (suc n) q → IsAmong (links v q) r → IsDeep n r
  next n q r deep among =
      let few = deep.0 in (
        omega (arith, few),
        wider (14 - suc n + 1) (14 - n) r (omega (arith, few)) (off_joined (14 - suc n) 1 p q r deep.1 (link_off v q r among)),
      )

pub levels_are_local : LevelsAreLocal
levels_are_local w v p alike =
    level_carried (is_fed w) (links w) (is_fed v) (links v) (IsDeep w v p alike)
    (less w v p alike) (fed w v p alike) (linked w v p alike) (next w v p alike)
    p (omega arith, itself p)
