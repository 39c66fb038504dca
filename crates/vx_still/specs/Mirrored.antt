-- What is kept of the dust of a map: what it tells between ticks.
use Rattle.std.specs.Prelude.{◌≡◌, false, ◌++◌, List}
use Rattle.vx_geom.specs.declared.pos.Pos.{Pos}
use Rattle.vx_block.specs.Components.{is_dust}
use Rattle.vx_cells.specs.Maps.{MapData, cell_on}
use Rattle.vx_levels.specs.Linked.{level_at, KnowsLinks}
use Rattle.vx_power.specs.Levels.{has}
use Rattle.vx_power.specs.Local.{is_touched}
use Rattle.vx_still.specs.Stillness.{LeavesStill, Mirrors}
use Rattle.vx_still.specs.declared.kept_dust.KeptDust.{KeptDust}
use Rattle.vx_still.specs.Unheeded.{AreUnheeded, IsKept}
use Rattle.vx_still.specs.Waking.{WakingData}

-- it has the level that dust stores and none where no dust lies, but where something was rebuilt; the
-- links of dust that sees nothing that was; and dust that no device heeds
pub record IsMirror (m : MapData) (rebuilt : List Pos) (kept : KeptDust) : Type 0 where
  pub levels : Mirrors m rebuilt (level_at kept.levels)
  pub empty : (p : Pos) → is_dust (cell_on m p) ≡ false → has rebuilt p ≡ false
      → level_at kept.levels p ≡ 0
  pub linked : (p : Pos) → is_touched (has rebuilt) p ≡ false
      → KnowsLinks (cell_on m) kept.levels p
  pub unheeded : AreUnheeded m rebuilt kept.unheeded

-- cells are written, with their places among those that were rebuilt
abbrev pub WritesKeepMirror : Type 0
WritesKeepMirror = (m next : MapData) (rebuilt written : List Pos) (kept : KeptDust)
    → IsMirror m rebuilt kept
    → ((p : Pos) → has written p ≡ false → cell_on next p ≡ cell_on m p)
    → IsMirror next (rebuilt ++ written) kept

-- after a tick, where this was kept of the map before it
abbrev pub TicksLeaveMirror : Type 0
TicksLeaveMirror = (m next : MapData) (waking : WakingData) (kept : KeptDust)
    → LeavesStill m next waking → IsKept m kept → IsMirror next waking.rebuilt kept
