use Rattle.std.proofs.Common.{◌≡◌, false, drop, map}
use Rattle.vx_geom.specs.declared.pos.Pos.{Pos}
use Rattle.vx_power.specs.Levels.{has}
use Rattle.vx_sector.specs.SectorData.{entry_of}
use Rattle.vx_sector.specs.Windows.{HoldsPlaces}
use Rattle.vx_windows.specs.Writing.{AreSpared}
use Rattle.vx_windows.proofs.writes.add_changed.Given as goal

-- where what is left is spared, all is, but at positions that were added
abbrev pub invariant-loop-entry : goal.invariant-loop-entry
invariant-loop-entry l = record {
  in_base : HoldsPlaces l.base (map entry_of (drop l.entry-index l.entries));
  in_cells : HoldsPlaces l.cells (map entry_of (drop l.entry-index l.entries));
  all : (p : Pos) → has l.places.items p ≡ false
      → (has l.fn.places.items p ≡ false)
      × (AreSpared p l.base l.cells (map entry_of (drop l.entry-index l.entries))
      → AreSpared p l.base l.cells (map entry_of l.entries));
}
