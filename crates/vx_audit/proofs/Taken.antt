-- A deed that is what the record says next.
use Rattle.std.proofs.Common.{◌≡◌, ℕ, List, [], ◌∷◌, filter, get_or, set, slice_get, Option, Some, None, Err}
use Rattle.std.specs.List.{All}
use Rattle.vx_geom.specs.declared.pos.Pos.{Pos}
use Rattle.vx_geom.specs.Sizes.{Sizes, sector_of}
use Rattle.vx_sector.specs.Commands.{place_of}
use Rattle.vx_sector.specs.SectorData.{EntryData}
use Rattle.vx_sector.specs.declared.refusal.Refusal.TheVariants.{OutOfWorld}
use Rattle.vx_tick.specs.declared.fate.Fate.{Fate}
use Rattle.vx_record.specs.Chronicles.{TickData}
use Rattle.vx_record.specs.Said.{is_by}
use Rattle.vx_audit.specs.Deeds.{is_from}
use Rattle.vx_audit.specs.Walks.{WalkData, AreDone, AreParts, windows_in, version_in}

-- the call is what comes next in the window of that sector
pub record TakesNext (w : WalkData) (call : EntryData) (k : ℕ) (next : WalkData) : Type 0 where
  pub rest : List EntryData
  pub found : slice_get w.lefts k ≡ Some (call ∷ rest)
  pub after : next ≡ record w { lefts = set w.lefts k rest }

-- or it is out of the world, and leaves no trace
abbrev pub TakesCallIn : WalkData → EntryData → WalkData → Option ℕ → Type 0
TakesCallIn w call next None = (call.answer ≡ Err OutOfWorld) × (next ≡ w)
TakesCallIn w call next (Some k) = TakesNext w call k next

-- so it is in the sector that its command speaks of
abbrev pub TakesCall : Sizes → WalkData → EntryData → WalkData → Type 0
TakesCall sizes w call next = TakesCallIn w call next (sector_of sizes (place_of call.cmd))

-- out of the world a call was refused so
abbrev pub IsToldOut : Sizes → EntryData → Type 0
IsToldOut sizes call = sector_of sizes (place_of call.cmd) ≡ None → call.answer ≡ Err OutOfWorld

-- of each sector's window a front comes next that has the calls of the block in that sector, those of
-- each seat in their order; those out of the world leave no trace
pub record TakesBlock (sizes : Sizes) (w : WalkData) (calls : List EntryData) (next : WalkData) : Type 0 where
  pub fronts : List (List EntryData)
  pub rests : List (List EntryData)
  pub parts : AreParts w.lefts fronts rests
  pub order : (seat k : ℕ)
      → filter (is_by seat) (get_or fronts k []) ≡ filter (is_from sizes seat (Some k)) calls
  pub outside : All (IsToldOut sizes) calls
  pub after : next ≡ record w { lefts = rests }

-- nothing is left of the windows, the tick that closes them has these fates, and for the next windows
-- all edits so far count
pub record TakesTick (w : WalkData) (fates : List (Pos × Fate)) (next : WalkData) : Type 0 where
  pub tick : TickData
  pub ticks : List TickData
  pub there : w.ticks ≡ tick ∷ ticks
  pub closed : AreDone w.lefts
  pub told : tick.fates ≡ fates
  pub counted : (version_in ticks w.last).edits ≡ w.edits
  pub after : next ≡ record w { lefts = windows_in ticks w.pending; ticks = ticks }
