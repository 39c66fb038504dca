-- What the windows show that come first.
use Rattle.std.specs.Prelude.{List, map}
use Rattle.vx_sector.specs.SectorData.{EntryData}
use Rattle.vx_windows.specs.Sectors.{entries_in}
use Rattle.vx_audit.specs.declared.windows.Windows.{Windows}
use Rattle.vx_audit.specs.declared.windows.Windows.TheVariants.{Closed, Open}

-- the entries of each
abbrev pub shown : Windows → List (List EntryData)
shown (Closed windows) = windows.now
shown (Open windows) = map entries_in windows.now
