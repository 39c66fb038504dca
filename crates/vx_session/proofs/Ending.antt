-- What a session knows of its deeds, and what the record says, are one.
use Rattle.std.proofs.Common.{◌≡◌, ℕ, ◌+◌, ◌<◌, ◌≤◌, List, [], ◌∷◌, length, map, get_or, take, Option, None, Err, sym, ap, ◌∙◌, subst, arith}
use Rattle.std.specs.List.{All}
use Rattle.std.proofs.lemmas.List.{get_or-map, length-map, take-append-le}
use Rattle.std.proofs.lemmas.Option.{slice_get-get_or}
use mathlib.Core.List.{IsPrefix}
use Rattle.vx_geom.specs.Sizes.{Sizes, sector_of}
use Rattle.vx_region.specs.Regions.{Regions}
use Rattle.vx_policy.specs.Asked.{Asked}
use Rattle.vx_policy.specs.Edits.{after}
use Rattle.vx_sector.specs.Commands.{place_of}
use Rattle.vx_sector.specs.SectorData.{SeatData, EntryData, SectorData}
use Rattle.vx_sector.specs.declared.refusal.Refusal.TheVariants.{OutOfWorld}
use Rattle.vx_record.specs.Chronicles.{TickData, ChronicleData, AreGrown, version_by}
use Rattle.vx_record.specs.Said.{said_of}
use Rattle.vx_record.specs.Settling.{CallerData, AllAgree, open_entries}
use Rattle.vx_record.proofs.Growing.{no_fewer}
use Rattle.vx_keeper.specs.Keepers.{AreByEdits}
use Rattle.vx_world.specs.Openings.{seats_from}
use Rattle.vx_audit.specs.Deeds.{DeedData}
use Rattle.vx_audit.specs.Marks.{IsKnownOf, calls_among, said_by}
use Rattle.vx_audit.specs.Records.{RecordData, IsByEdits}
use Rattle.vx_audit.proofs.Premises.{by_edits}
use Rattle.vx_session.specs.Sessions.{PassData, SessionData, AreSaid, IsSession, IsOf}
use Rattle.vx_session.proofs.Passing.{length_seats, number_at}

-- a version that counts no more edits than begin a list is by those
version_front : (first : Regions) (front all : List Asked) (count n : ℕ) → IsPrefix front all
    → count ≤ length front → version_by first all count n ≡ version_by first front count n
version_front first front all count n begins within =
    ap (λ es. record { tick = n; edits = count; policy = after first es })
    (ap (take count) (sym begins.1) ∙ take-append-le count front begins.0 within)

-- so are the versions of ticks up to it
grown_front : (first : Regions) (front all : List Asked) (low : ℕ) (ticks : List TickData) (high : ℕ)
    → IsPrefix front all → high ≤ length front
    → AreGrown first all low ticks high → AreGrown first front low ticks high
grown_front first front all low [] high begins within grown = grown
grown_front first front all low (t ∷ ticks) high begins within grown =
    let count : t.version.edits ≤ length front =
    omega (arith, no_fewer first all t.version.edits ticks high grown.2, within) in (
      grown.0,
      grown.1 ∙ version_front first front all t.version.edits t.number begins count,
      grown_front first front all t.version.edits ticks high begins within grown.2,
    )

-- versions by a list of edits are by those that begin it, where none counts more than these
pub by_front : (first : Regions) (front all : List Asked) (r : RecordData) → IsPrefix front all
    → r.version.edits ≤ length front → r.chronicle.opening.policy ≡ first
    → AreByEdits first all r.chronicle.ticks r.version → IsByEdits front r
by_front first front all r begins within opens by =
    by_edits first front r opens by.begins
    (grown_front first front all 0 r.chronicle.ticks r.version.edits begins within by.grown)
    (by.last ∙ version_front first front all r.version.edits (length r.chronicle.ticks + 1) begins within)

-- whoever made the calls of a pass
abbrev pub caller_in : PassData → CallerData
caller_in pass = record { seat = pass.seat.number; lists = pass.lists }

-- where the passes have what deeds say, and agree with the record, the deeds say what it says
said_known : (names : List (List ℕ)) (sizes : Sizes) (deeds : List DeedData) (passes : List PassData)
    (ticks : List TickData) (places : List (Option SectorData))
    → map (λ (p : PassData). p.seat) passes ≡ seats_from 0 names
    → All (AllAgree ticks places) (map caller_in passes)
    → AreSaid sizes (length places) deeds passes
    → (seat k : ℕ) → seat < length names → k < length places
    → said_by sizes seat k deeds ≡ said_of seat k ticks (get_or (map open_entries places) k [])
said_known names sizes deeds passes ticks places seats agree said seat k of_name below =
    let none : PassData = record { seat = record { number = 0; name = [] }; lists = [] } in
    let seat_in : PassData → SeatData = λ p. p.seat in
    let within : seat < length passes =
    omega (arith, of_name, length-map passes seat_in, ap length seats, length_seats 0 names) in
    let pass = get_or passes seat none in
    let whole : 0 + seat ≡ seat = omega arith in
    let number : pass.seat.number ≡ seat =
    ap (λ (s : SeatData). s.number) (sym (get_or-map seat_in passes seat none none.seat within) ∙ ap (λ ss. get_or ss seat none.seat) seats)
    ∙ number_at 0 seat names none.seat of_name ∙ whole in
    let here = agree seat (caller_in none) (omega (arith, within, length-map passes caller_in)) in
    let own : AllAgree ticks places (caller_in pass) =
    subst (AllAgree ticks places) (get_or-map caller_in passes seat none (caller_in none) within) here in
    sym (said seat k pass (slice_get-get_or passes seat none within) below)
    ∙ own k below
    ∙ (λ i. said_of (number i) k ticks (sym (get_or-map open_entries places k None [] below) i))

-- what a session keeps of its deeds is known of them, where its passes agree with the record
pub known_of : (s : SessionData) (deeds : List DeedData) (r : RecordData) (places : List (Option SectorData))
    → IsSession s → IsOf deeds s → r.chronicle ≡ s.keeper.chronicle → r.windows ≡ map open_entries places
    → length s.keeper.chronicle.opening.terrain.sectors ≡ length places
    → All (AllAgree s.keeper.chronicle.ticks places) (map caller_in s.passes)
    → IsKnownOf r deeds
known_of s deeds r places session is chronicle windows many agree =
    let own = s.keeper.chronicle in
    let sizes = own.opening.terrain.sizes in
    let said : AreSaid s.sizes (length places) deeds s.passes = subst (λ n. AreSaid s.sizes n deeds s.passes) many is.said in
    subst (λ (c : ChronicleData). IsKnownOf (record r { chronicle = c }) deeds) (sym chronicle)
    (subst (λ ws. IsKnownOf (record r { chronicle = own; windows = ws }) deeds) (sym windows)
    (record {
      said = λ seat k of_name below.
          ap (λ (z : Sizes). said_by z seat k deeds) (sym session.sizes)
          ∙ said_known own.opening.names s.sizes deeds s.passes own.ticks places session.seats agree said seat k of_name
          (omega (arith, many, below));
      seated = is.seated;
      outside = subst (λ (z : Sizes). All (λ (call : EntryData). sector_of z (place_of call.cmd) ≡ None → call.answer ≡ Err OutOfWorld) (calls_among deeds))
          session.sizes is.outside;
      fates = is.fates;
    }))
