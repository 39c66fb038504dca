-- What the structs of the record say.
use Rattle.std.specs.Prelude.{map}
use Rattle.vx_record.specs.Chronicles.{TickData, ChronicleData}
use Rattle.vx_record.specs.declared.chronicle.Chronicle.{Chronicle}
use Rattle.vx_record.specs.declared.tick.Tick.{Tick}

-- what a tick on record says
abbrev pub tick_in : Tick → TickData
tick_in t = record {
  number = t.number;
  version = t.version;
  windows = t.windows;
  fates = t.fates.items;
}

-- what a chronicle says
abbrev pub chronicle_in : Chronicle → ChronicleData
chronicle_in c = record { opening = c.opening; ticks = map tick_in c.ticks.items }
