-- Each code below 165 is of another cell.
use Rattle.std.proofs.Common.{◌≡◌, ℕ, ◌+◌, ◌-◌, ◌*◌, ◌/◌, ◌<◌, Bool, true, false, cond, nat_eq, get_or, refl, sym, ap, ◌∙◌, arith, true≢false, nat_lt, nat_le, ◌&&◌, ◌||◌, ◌≤◌, if◌then◌else◌}
use Rattle.std.proofs.lemmas.Bool.{eqb-true}
use Rattle.std.proofs.lemmas.List.FromFn.{get_or-range_with_len, length-range_with_len}
use Rattle.std.proofs.lemmas.List.Folds.{list_all_at}
use Rattle.std.specs.List.{list_all, range_with_len}
use Rattle.vx_geom.specs.declared.dir.Dir.{Dir}
use Rattle.vx_geom.specs.declared.dir.Dir.TheVariants as dir
use Rattle.vx_block.specs.declared.side.Side.{Side}
use Rattle.vx_block.specs.declared.side.Side.TheVariants as side
use Rattle.vx_block.specs.declared.mount.Mount.{Mount}
use Rattle.vx_block.specs.declared.mount.Mount.TheVariants as mount
use Rattle.vx_block.specs.declared.delay.Delay.{Delay}
use Rattle.vx_block.specs.declared.delay.Delay.TheVariants as delay
use Rattle.vx_block.specs.declared.lamp.Lamp.{Lamp}
use Rattle.vx_block.specs.declared.lamp.Lamp.TheVariants as lamp
use Rattle.vx_block.specs.declared.cell.Cell.{Cell}
use Rattle.vx_block.specs.declared.cell.Cell.TheVariants as cell
use Rattle.std.specs.Cmp.{booleans_Decides}
use Rattle.std.specs.Bool.{beq}
use Rattle.vx_block.specs.Components.{is_dust, is_device, is_component}
use Rattle.vx_block.specs.Conductors.{conducts}
use Rattle.vx_store.specs.Codes.{is_chest, code_count, is_odd, mount_at, dir_at, lamp_at, repeater_at, cell_with_state, cell_of}

pistons : ℕ → Cell
pistons n = if nat_lt n 141 then cell.Piston (dir_at ((n - 129) / 2)) false (is_odd (n - 129))
    else if nat_lt n 153 then cell.Piston (dir_at ((n - 141) / 2)) true (is_odd (n - 141))
    else cell.Head (dir_at ((n - 153) / 2)) (is_odd (n - 153))

later : ℕ → Cell
later n = if nat_lt n 129 then cell.Lamp (lamp_at (n - 126)) else pistons n

past : {X : Type 0} (n k : ℕ) (a b : X) → k ≤ n → (if nat_lt n k then a else b) ≡ b
past n k a b far = grind arith

here : {X : Type 0} (n k : ℕ) (a b : X) → n < k → (if nat_lt n k then a else b) ≡ a
here n k a b near = grind arith

less : (k n : ℕ) → k + n - k ≡ n
less k n = omega arith

pub at_dust : (n : ℕ) → n < 16 → cell_of (8 + n) ≡ cell.Dust n
unfolding cell_of cell_with_state
at_dust n small = past (8 + n) 8 _ _ (omega arith) ∙ here (8 + n) 24 _ _ (omega (arith, small)) ∙ ap cell.Dust (less 8 n)

pub at_torch : (n : ℕ) → n < 10 → cell_of (24 + n) ≡ cell.Torch (mount_at (n / 2)) (is_odd n)
unfolding cell_of cell_with_state
at_torch n small = past (24 + n) 8 _ _ (omega arith) ∙ past (24 + n) 24 _ _ (omega arith) ∙ here (24 + n) 34 _ _ (omega (arith, small))
    ∙ ap (λ k. cell.Torch (mount_at (k / 2)) (is_odd k)) (less 24 n)

pub at_lever : (n : ℕ) → n < 12 → cell_of (34 + n) ≡ cell.Lever (dir_at (n / 2)) (is_odd n)
unfolding cell_of cell_with_state
at_lever n small = past (34 + n) 8 _ _ (omega arith) ∙ past (34 + n) 24 _ _ (omega arith) ∙ past (34 + n) 34 _ _ (omega arith)
    ∙ here (34 + n) 46 _ _ (omega (arith, small)) ∙ ap (λ k. cell.Lever (dir_at (k / 2)) (is_odd k)) (less 34 n)

before_repeaters : (n : ℕ) → 46 ≤ n → cell_of n ≡ (if nat_lt n 126 then cell.Repeater (repeater_at (n - 46)) else later n)
unfolding cell_of cell_with_state later pistons
before_repeaters n far = past n 8 _ _ (omega (arith, far)) ∙ past n 24 _ _ (omega (arith, far)) ∙ past n 34 _ _ (omega (arith, far)) ∙ past n 46 _ _ far

before_pistons : (n : ℕ) → 129 ≤ n → cell_of n ≡ pistons n
unfolding later
before_pistons n far = before_repeaters n (omega (arith, far)) ∙ past n 126 _ _ (omega (arith, far)) ∙ past n 129 _ _ far

at_repeater_offset : (n : ℕ) → 46 ≤ n → n < 126 → cell_of n ≡ cell.Repeater (repeater_at (n - 46))
at_repeater_offset n far near = before_repeaters n far ∙ here n 126 _ _ near

pub at_lamp : (n : ℕ) → n < 3 → cell_of (126 + n) ≡ cell.Lamp (lamp_at n)
unfolding later
at_lamp n small = before_repeaters (126 + n) (omega arith) ∙ past (126 + n) 126 _ _ (omega arith) ∙ here (126 + n) 129 _ _ (omega (arith, small))
    ∙ ap (λ k. cell.Lamp (lamp_at k)) (less 126 n)

pub at_repeater : (n : ℕ) → n < 80 → cell_of (46 + n) ≡ cell.Repeater (repeater_at n)
at_repeater n small = at_repeater_offset (46 + n) (omega arith) (omega (arith, small)) ∙ ap (λ k. cell.Repeater (repeater_at k)) (less 46 n)

pub at_piston : (n : ℕ) → n < 12 → cell_of (129 + n) ≡ cell.Piston (dir_at (n / 2)) false (is_odd n)
unfolding pistons
at_piston n small = before_pistons (129 + n) (omega arith) ∙ here (129 + n) 141 _ _ (omega (arith, small)) ∙ ap (λ k. cell.Piston (dir_at (k / 2)) false (is_odd k)) (less 129 n)

pub at_sticky : (n : ℕ) → n < 12 → cell_of (141 + n) ≡ cell.Piston (dir_at (n / 2)) true (is_odd n)
unfolding pistons
at_sticky n small = before_pistons (141 + n) (omega arith) ∙ past (141 + n) 141 _ _ (omega arith) ∙ here (141 + n) 153 _ _ (omega (arith, small))
    ∙ ap (λ k. cell.Piston (dir_at (k / 2)) true (is_odd k)) (less 141 n)

pub at_head : (n : ℕ) → cell_of (153 + n) ≡ cell.Head (dir_at (n / 2)) (is_odd n)
unfolding pistons
at_head n = before_pistons (153 + n) (omega arith) ∙ past (153 + n) 141 _ _ (omega arith) ∙ past (153 + n) 153 _ _ (omega arith)
    ∙ ap (λ k. cell.Head (dir_at (k / 2)) (is_odd k)) (less 153 n)

bit : Bool → ℕ
bit b = cond b 1 0

side_code : Side → ℕ
side_code side.East = 0
side_code side.West = 1
side_code side.South = 2
side_code side.North = 3

mount_code : Mount → ℕ
mount_code mount.Floor = 0
mount_code (mount.Wall s) = 1 + side_code s

dir_code : Dir → ℕ
dir_code dir.East = 0
dir_code dir.West = 1
dir_code dir.Up = 2
dir_code dir.Down = 3
dir_code dir.South = 4
dir_code dir.North = 5

first_count : Delay → ℕ
first_count delay.One = 0
first_count delay.Two = 1
first_count delay.Three = 3
first_count delay.Four = 6

lamp_code : Lamp → ℕ
lamp_code lamp.Off = 0
lamp_code lamp.Lit = 1
lamp_code lamp.Cooling = 2

-- the code of a cell
code_of : Cell → ℕ
code_of cell.Air = 0
code_of cell.Stone = 1
code_of cell.Dirt = 2
code_of cell.Planks = 3
code_of cell.Glass = 4
code_of cell.Obsidian = 5
code_of cell.Bedrock = 6
code_of cell.Chest = 7
code_of (cell.Dust level) = 8 + level
code_of (cell.Torch facing lit) = 24 + (2 * mount_code facing + bit lit)
code_of (cell.Lever facing on) = 34 + (2 * dir_code facing + bit on)
code_of (cell.Repeater r) = 46 + (2 * (10 * side_code r.facing + (first_count r.delay + r.wait)) + bit r.on)
code_of (cell.Lamp l) = 126 + lamp_code l
code_of (cell.Piston facing false extended) = 129 + (2 * dir_code facing + bit extended)
code_of (cell.Piston facing true extended) = 141 + (2 * dir_code facing + bit extended)
code_of (cell.Head facing sticky) = 153 + (2 * dir_code facing + bit sticky)

returned : ℕ → Bool
returned n = nat_eq (code_of (cell_of n)) n

each_returned : list_all returned (range_with_len 0 code_count) ≡ true
unfolding cell_of cell_with_state returned code_of mount_code bit side_code dir_code first_count lamp_code
each_returned = refl

passes : (p : ℕ → Bool) → list_all p (range_with_len 0 code_count) ≡ true → (n : ℕ) → n < code_count → p n ≡ true
passes p all n small = by (p n) refl
  where
    by : (b : Bool) → p n ≡ b → p n ≡ true
    by true e = e
    by false e =
        let at : get_or (range_with_len 0 code_count) n 0 ≡ n = get_or-range_with_len 0 code_count n 0 small ∙ omega arith in
        let wrong = list_all_at p (range_with_len 0 code_count) n 0 (rw (length-range_with_len 0 code_count) small) (ap p at ∙ e) in
        absurd (true≢false (sym all ∙ wrong))

-- the code of a code's cell is that code
code_of-cell_of : (n : ℕ) → n < code_count → code_of (cell_of n) ≡ n
unfolding returned
code_of-cell_of n small = eqb-true _ _ (passes returned each_returned n small)

-- so two codes of one cell are the same
pub same_code : (m n : ℕ) → m < code_count → n < code_count → cell_of m ≡ cell_of n → m ≡ n
same_code m n m_small n_small same = sym (code_of-cell_of m m_small) ∙ ap code_of same ∙ code_of-cell_of n n_small

told : ℕ → Bool
told n = beq (is_chest (cell_of n)) (nat_eq n 7)

each_told : list_all told (range_with_len 0 code_count) ≡ true
unfolding cell_of cell_with_state told
each_told = refl

-- only 7 is the code of a chest
pub chest_code : (n : ℕ) → n < code_count → is_chest (cell_of n) ≡ nat_eq n 7
unfolding told
chest_code n small = (booleans_Decides _ _).0 (passes told each_told n small)

told_dust : ℕ → Bool
told_dust n = beq (is_dust (cell_of n)) (nat_le 8 n && nat_lt n 24)

each_dust : list_all told_dust (range_with_len 0 code_count) ≡ true
unfolding cell_of cell_with_state told_dust
each_dust = refl

-- 8 to 23 are the codes of dust
pub dust_code : (n : ℕ) → n < code_count → is_dust (cell_of n) ≡ (nat_le 8 n && nat_lt n 24)
unfolding told_dust
dust_code n small = (booleans_Decides _ _).0 (passes told_dust each_dust n small)

told_device : ℕ → Bool
told_device n = beq (is_device (cell_of n)) (nat_le 24 n && nat_lt n 153)

each_device : list_all told_device (range_with_len 0 code_count) ≡ true
unfolding cell_of cell_with_state told_device
each_device = refl

-- 24 to 152 are the codes of devices
pub device_code : (n : ℕ) → n < code_count → is_device (cell_of n) ≡ (nat_le 24 n && nat_lt n 153)
unfolding told_device
device_code n small = (booleans_Decides _ _).0 (passes told_device each_device n small)

told_component : ℕ → Bool
told_component n = beq (is_component (cell_of n)) (nat_le 8 n && nat_lt n 153)

each_component : list_all told_component (range_with_len 0 code_count) ≡ true
unfolding cell_of cell_with_state told_component
each_component = refl

-- 8 to 152 are the codes of components
pub component_code : (n : ℕ) → n < code_count → is_component (cell_of n) ≡ (nat_le 8 n && nat_lt n 153)
unfolding told_component
component_code n small = (booleans_Decides _ _).0 (passes told_component each_component n small)

abbrev between : ℕ → ℕ → ℕ → Bool
between n low high = nat_lt low n && nat_lt n high

told_conductor : ℕ → Bool
told_conductor n = beq (conducts (cell_of n)) (between n 0 4 || (between n 4 7 || (nat_le 126 n && nat_lt n 129)))

each_conductor : list_all told_conductor (range_with_len 0 code_count) ≡ true
unfolding cell_of cell_with_state told_conductor
each_conductor = refl

-- 1 to 3, 5, 6 and 126 to 128 are the codes of conductors
pub conductor_code : (n : ℕ) → n < code_count
    → conducts (cell_of n) ≡ (between n 0 4 || (between n 4 7 || (nat_le 126 n && nat_lt n 129)))
unfolding told_conductor
conductor_code n small = (booleans_Decides _ _).0 (passes told_conductor each_conductor n small)
