-- How levels spread from the dust that is fed, link by link, within a region: the positions that
-- pass a test, `inside`.
use Rattle.std.specs.Prelude.{◌≡◌, ℕ, zero, suc, Bool, false, not, ◌&&◌, ◌||◌, ◌-◌, nat_lt, if◌then◌else◌, List, [], ◌∷◌, ◌++◌}
use Rattle.vx_geom.specs.declared.pos.Pos.{Pos}
use Rattle.vx_geom.specs.declared.dir.Dir.{Dir}
use Rattle.vx_geom.specs.declared.dir.Dir.TheVariants.{East, West, Up, Down, South, North}
use Rattle.vx_geom.specs.Neighbor.{neighbor}
use Rattle.vx_block.specs.declared.cell.Cell.{Cell}
use Rattle.vx_block.specs.Components.{is_dust}
use Rattle.vx_block.specs.Conductors.{conducts}
use Rattle.vx_cells.specs.Listed.{devices_on}
use Rattle.vx_cells.specs.Maps.{MapData, cell_on}
use Rattle.vx_power.specs.Dust.{links}
use Rattle.vx_power.specs.Levels.{LevelTable, has, level_in}
use Rattle.vx_power.specs.Signals.{gives, drives, is_fed}
use Rattle.vx_power.specs.Walks.{within, level_by}

-- the dust beside a position in one direction, if there is any
unfoldable pub dust_at : (Pos → Cell) → Pos → Dir → List Pos
dust_at w p d = if is_dust (w (neighbor p d)) then neighbor p d ∷ [] else []

-- what f gives for each direction, joined
abbrev pub each_dir : (Dir → List Pos) → List Pos
each_dir f = f East ++ (f West ++ (f Up ++ (f Down ++ (f South ++ f North))))

-- the dust that a device at s feeds in one direction: what it gives to, and what lies around a
-- conductor that it drives
unfoldable pub fed_towards : (Pos → Cell) → Pos → Dir → List Pos
fed_towards w s d =
    (if gives (w s) d then dust_at w s d else [])
    ++ (if drives (w s) d && conducts (w (neighbor s d))
    then each_dir (dust_at w (neighbor s d))
    else [])

-- all the dust that it feeds
unfoldable pub fed_from : (Pos → Cell) → Pos → List Pos
fed_from w s = each_dir (fed_towards w s)

-- all the dust that these devices feed
abbrev pub fed_by : (Pos → Cell) → List Pos → List Pos
fed_by w [] = []
fed_by w (s ∷ ss) = fed_from w s ++ fed_by w ss

-- and the devices of so many sectors of a map, from one on
abbrev pub fed_by_sectors : MapData → (Pos → Cell) → ℕ → ℕ → List Pos
fed_by_sectors m w k zero = []
fed_by_sectors m w k (suc n) = fed_by w (devices_on m k) ++ fed_by_sectors m w (suc k) n

-- all that these positions link to
abbrev pub linked_to : (Pos → Cell) → List Pos → List Pos
linked_to w [] = []
linked_to w (p ∷ ps) = links w p ++ linked_to w ps

-- the dust inside that is fed, and the links of the dust there
unfoldable pub fed_in : (Pos → Cell) → (Pos → Bool) → Pos → Bool
fed_in w inside p = inside p && is_fed w p

unfoldable pub links_in : (Pos → Cell) → (Pos → Bool) → Pos → List Pos
links_in w inside p = if inside p then links w p else []

-- of the dust inside, the devices of the sectors from `first` up to below `end` feed all that is
-- fed
abbrev pub FeedAll : MapData → (Pos → Bool) → ℕ → ℕ → Type 0
FeedAll m inside first end = (p : Pos)
    → (inside p && has (fed_by_sectors m (cell_on m) first (end - first)) p)
    ≡ fed_in (cell_on m) inside p

-- the level of dust by walks of fourteen links that stay inside
abbrev pub level_within : (Pos → Cell) → (Pos → Bool) → Pos → ℕ
level_within w inside p = level_by (fed_in w inside) (links_in w inside) 14 p

-- a table of levels, and the positions that it got last
pub record SpreadData : Type 0 where
  pub table : LevelTable
  pub reached : List Pos

-- each of these positions that lies inside and had no level got this one, and is noted
pub record Reaches (inside : Pos → Bool) (level : ℕ) (old new : SpreadData) (ps : List Pos)
    : Type 0 where
  pub levels : (p : Pos) → level_in new.table p ≡ (if nat_lt 0 (level_in old.table p)
      then level_in old.table p
      else if inside p && has ps p then level else 0)
  pub reached : (p : Pos) → has new.reached p
      ≡ (has old.reached p
      || (not (nat_lt 0 (level_in old.table p)) && (inside p && has ps p)))

-- walks of less than so many links lead from the place to a fed one
abbrev pub before : {X : Type 0} → (X → Bool) → (X → List X) → ℕ → X → Bool
before fed links zero p = false
before fed links (suc n) p = within fed links n p

-- inside, the table tells what walks of so many links tell of these fed places and links, and the
-- last of them reached these positions
pub record IsSpread (inside fed : Pos → Bool) (links : Pos → List Pos) (n : ℕ) (s : SpreadData)
    : Type 0 where
  pub levels : (p : Pos) → level_in s.table p ≡ (if inside p then level_by fed links n p else 0)
  pub reached : (p : Pos) → has s.reached p
      ≡ (inside p && (within fed links n p && not (before fed links n p)))
