-- What the passes of a world, its sectors and its keeper have to agree on in the end.
use Rattle.std.specs.Prelude.{◌≡◌, ℕ, ◌<◌, nat_eq, List, [], length, slice_index_or, count_by, Option, Some, None}
use Rattle.std.specs.List.{All, Contains}
use Rattle.vx_cells.specs.SectorCells.{SectorCells}
use Rattle.vx_policy.specs.declared.version.Version.{Version}
use Rattle.vx_sector.specs.SectorData.{SectorData, EntryData}
use Rattle.vx_record.specs.Chronicles.{TickData, AreSeated}
use Rattle.vx_record.specs.Said.{said_of}
use Rattle.vx_record.specs.declared.call.Call.{Call}
use Rattle.vx_record.specs.declared.fault.Fault.{Fault}
use Rattle.vx_record.specs.declared.fault.Fault.TheVariants.{PassMissing, Torn, ListsDiffer}

-- whoever made calls: the number of its seat, and its calls, in a list for each sector
pub record CallerData : Type 0 where
  pub seat : ℕ
  pub lists : List (List Call)

-- what the keeper has of a sector: the cells with which its window began, the version that judges
-- it, how many of its entries are closed, and the names of those who have seats
pub record KnownData : Type 0 where
  pub base : SectorCells
  pub version : Version
  pub closed : ℕ
  pub names : List (List ℕ)

-- how many callers have this seat
abbrev pub callers_at : ℕ → List CallerData → ℕ
callers_at seat callers = count_by (λ c. nat_eq c.seat seat) callers

-- of so many seats each has one caller, and no caller has another seat
pub record IsEachOnce (seats : ℕ) (callers : List CallerData) : Type 0 where
  pub only : All (λ c. c.seat < seats) callers
  pub once : (seat : ℕ) → seat < seats → callers_at seat callers ≡ 1

-- the window of the sector began with these cells, and this version judges it
abbrev pub BeganWith : SectorData → SectorCells → Version → Type 0
BeganWith s base version = (s.base ≡ base) × (s.version ≡ version)

-- the window follows so many entries, and each of its own was made from a seat of these names
abbrev pub Follows : SectorData → ℕ → List (List ℕ) → Type 0
Follows s closed names = (s.closed ≡ closed) × AreSeated names s.entries

-- the sector is there, and is what the keeper has of it
abbrev pub IsKnown : Option SectorData → KnownData → Type 0
IsKnown None known = ⊥
IsKnown (Some s) known =
    BeganWith s known.base known.version × Follows s known.closed known.names

-- the sector in place k, if one is there
abbrev pub sector_in : List (Option SectorData) → ℕ → Option SectorData
sector_in places k = slice_index_or places k None

-- so are all up to number n
abbrev pub AreKnownTo : ℕ → (ℕ → KnownData) → List (Option SectorData) → Type 0
AreKnownTo n known places = (k : ℕ) → k < n → IsKnown (sector_in places k) (known k)

-- all sectors are there, and are what the keeper has of them
abbrev pub AreKnown : (ℕ → KnownData) → List (Option SectorData) → Type 0
AreKnown known places = AreKnownTo (length places) known places

-- sector k is the first that is away or differs from what the keeper has of it
pub record IsTorn (known : ℕ → KnownData) (places : List (Option SectorData)) (k : ℕ) : Type 0 where
  pub there : k < length places
  pub differs : ¬ IsKnown (sector_in places k) (known k)
  pub first : AreKnownTo k known places

-- the entries of a sector's open window; none where no sector is there
abbrev pub open_entries : Option SectorData → List EntryData
open_entries None = []
open_entries (Some s) = s.entries

-- the caller's list for sector k is what the record says of its seat there
abbrev pub Agrees : List TickData → List (Option SectorData) → CallerData → ℕ → Type 0
Agrees ticks places caller k =
    slice_index_or caller.lists k []
    ≡ said_of caller.seat k ticks (open_entries (sector_in places k))

-- each of the caller's lists is
abbrev pub AllAgree : List TickData → List (Option SectorData) → CallerData → Type 0
AllAgree ticks places caller = (k : ℕ) → k < length places → Agrees ticks places caller k

-- the list for sector k of some caller with that seat is not
pub record SomeDiffers (ticks : List TickData) (places : List (Option SectorData))
    (callers : List CallerData) (seat k : ℕ) : Type 0 where
  pub caller : CallerData
  pub among : Contains callers caller
  pub seated : caller.seat ≡ seat
  pub there : k < length places
  pub differs : ¬ Agrees ticks places caller k

-- what a settlement finds: each seat's caller, or that not each is there once; else that all
-- sectors are what the keeper has of them, or the first that is not; else that all lists agree with
-- the record, or a seat and a sector of which they do not
abbrev pub IsFound : ℕ → List CallerData → List (Option SectorData) → (ℕ → KnownData)
    → List TickData → Option Fault → Type 0
IsFound seats callers places known ticks None =
    IsEachOnce seats callers × AreKnown known places × All (AllAgree ticks places) callers
IsFound seats callers places known ticks (Some PassMissing) = ¬ IsEachOnce seats callers
IsFound seats callers places known ticks (Some (Torn k)) =
    IsEachOnce seats callers × IsTorn known places k
IsFound seats callers places known ticks (Some (ListsDiffer seat k)) =
    IsEachOnce seats callers × AreKnown known places × SomeDiffers ticks places callers seat k
