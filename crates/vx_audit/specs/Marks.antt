-- What is kept of deeds, where the record and the players' own lists say the rest.
use Rattle.std.specs.Prelude.{◌≡◌, ℕ, ◌<◌, List, [], ◌∷◌, ◌++◌, filter, length, map, slice_index_or, Some, None, Err}
use Rattle.std.specs.List.{All}
use Rattle.vx_geom.specs.declared.pos.Pos.{Pos}
use Rattle.vx_geom.specs.Sizes.{Sizes, sector_of}
use Rattle.vx_sector.specs.Commands.{place_of}
use Rattle.vx_sector.specs.SectorData.{EntryData}
use Rattle.vx_sector.specs.declared.refusal.Refusal.TheVariants.{OutOfWorld}
use Rattle.vx_tick.specs.declared.fate.Fate.{Fate}
use Rattle.vx_record.specs.Calls.{call_in}
use Rattle.vx_record.specs.Chronicles.{TickData, IsSeatOf}
use Rattle.vx_record.specs.Said.{said_of}
use Rattle.vx_record.specs.declared.call.Call.{Call}
use Rattle.vx_audit.specs.Deeds.{DeedData, Called, Together, Edited, Ticked, is_from}
use Rattle.vx_audit.specs.Records.{RecordData}
use Rattle.vx_audit.specs.declared.mark.Mark.{Mark}
use Rattle.vx_audit.specs.declared.mark.Mark.TheVariants as mark

-- of a call: its seat, and the sector that its command speaks of
abbrev pub mark_of : Sizes → EntryData → Mark
mark_of sizes call = mark.Call call.seat.number (sector_of sizes (place_of call.cmd))

-- of deeds, one after another: of a block the marks of its calls, between two ends
abbrev pub marks_of : Sizes → List DeedData → List Mark
marks_of sizes [] = []
marks_of sizes (Called call ∷ deeds) = mark_of sizes call ∷ marks_of sizes deeds
marks_of sizes (Together calls ∷ deeds) =
    mark.Begin ∷ (map (mark_of sizes) calls ++ mark.End ∷ marks_of sizes deeds)
marks_of sizes (Edited edit ∷ deeds) = mark.Edit ∷ marks_of sizes deeds
marks_of sizes (Ticked fates ∷ deeds) = mark.Tick ∷ marks_of sizes deeds

-- the calls among deeds
abbrev pub calls_among : List DeedData → List EntryData
calls_among [] = []
calls_among (Called call ∷ deeds) = call ∷ calls_among deeds
calls_among (Together calls ∷ deeds) = calls ++ calls_among deeds
calls_among (Edited edit ∷ deeds) = calls_among deeds
calls_among (Ticked fates ∷ deeds) = calls_among deeds

-- the fates that were told of the ticks
abbrev pub fates_among : List DeedData → List (List (Pos × Fate))
fates_among [] = []
fates_among (Called call ∷ deeds) = fates_among deeds
fates_among (Together calls ∷ deeds) = fates_among deeds
fates_among (Edited edit ∷ deeds) = fates_among deeds
fates_among (Ticked fates ∷ deeds) = fates ∷ fates_among deeds

-- what deeds say of a seat in sector k
abbrev pub said_by : Sizes → ℕ → ℕ → List DeedData → List Call
said_by sizes seat k deeds = map call_in (filter (is_from sizes seat (Some k)) (calls_among deeds))

-- what is known of the deeds beside their marks: of each seat and sector they say what the record
-- says; each call is from a seat of the world; those out of the world were refused so; and the
-- fates are those of the ticks on record
pub record IsKnownOf (r : RecordData) (deeds : List DeedData) : Type 0 where
  pub said : (seat k : ℕ) → seat < length r.chronicle.opening.names
      → k < length r.chronicle.opening.terrain.sectors
      → said_by r.chronicle.opening.terrain.sizes seat k deeds
      ≡ said_of seat k r.chronicle.ticks (slice_index_or r.windows k [])
  pub seated : All (λ (call : EntryData). IsSeatOf r.chronicle.opening.names call.seat)
      (calls_among deeds)
  pub outside : All (λ (call : EntryData).
      sector_of r.chronicle.opening.terrain.sizes (place_of call.cmd) ≡ None
      → call.answer ≡ Err OutOfWorld) (calls_among deeds)
  pub fates : fates_among deeds ≡ map (λ (tick : TickData). tick.fates) r.chronicle.ticks
