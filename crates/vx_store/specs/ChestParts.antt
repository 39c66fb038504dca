-- Chests in parts, of whatever has chests.
use Rattle.std.specs.Prelude.{ℕ, ◌/◌, ◌%◌, ◌<◌, nat_eq, List, map}
use Rattle.vx_base.specs.Parts as parts
use Rattle.vx_base.specs.Parts.{all_of}
use Rattle.vx_store.specs.Chests.{ChestData}
use Rattle.vx_store.specs.declared.parted.TheConstants.{PARTS}

-- the number of the part in which the chest at an index stands, where as many indices in a row as
-- the stride is are of one part, and as many behind them of the next
unfoldable pub part_of : ℕ → ℕ → ℕ
part_of stride index = index / stride % PARTS

-- the chests of all parts
abbrev pub chests_of : {P : Type 0} → (P → ChestData) → List P → ChestData
chests_of chests held = all_of (map chests held)

-- there is a stride, and each chest stands in its own part alone
abbrev pub AreParted : {P : Type 0} → (P → ChestData) → ℕ → List P → Type 0
AreParted chests stride held =
    (0 < stride) × parts.AreParted nat_eq (part_of stride) PARTS (map chests held)
