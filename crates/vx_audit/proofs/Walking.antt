-- A walk from the beginning of the record to its end: the deeds are those of a game, and it records what
-- the record does.
use Rattle.std.proofs.Common.{◌≡◌, ℕ, ◌+◌, ◌≤◌, List, [], ◌∷◌, length, map, refl, sym, ap, ◌∙◌, subst, arith}
use Rattle.std.proofs.lemmas.List.Elements.{All-map, recursion_from_All}
use Rattle.vx_cells.specs.Wholes.{IsMap}
use Rattle.vx_policy.specs.declared.version.Version.{Version}
use Rattle.vx_region.specs.Regions.{Regions}
use Rattle.vx_sector.specs.SectorData.{SectorData, EntryData}
use Rattle.vx_sector.specs.Windows.{most_entries}
use Rattle.vx_windows.specs.Sectors.{entries_of, first_version, opened_with}
use Rattle.vx_record.specs.Archives.{calls_on}
use Rattle.vx_record.specs.Chronicles.{TickData, AreTicks, AreWindows, BeginsBy, IsSeatOf, map_after, version_by}
use Rattle.vx_play.specs.Plays.{PlayData, opened, calls, map_of}
use Rattle.vx_play.proofs.Whole.{cells_opened, worlds_begin_whole}
use Rattle.vx_audit.specs.Audits.{IsGameOf}
use Rattle.vx_audit.specs.Deeds.{DeedData, edits_in}
use Rattle.vx_audit.specs.Marks.{calls_among, marks_of, IsKnownOf}
use Rattle.vx_audit.specs.Records.{RecordData, IsRecord, IsByEdits}
use Rattle.vx_audit.specs.Walks.{WalkData, TraceData, FollowsAll, AreDone, IsEnd, all_marks, start_of, version_in, windows_in}
use Rattle.vx_audit.proofs.Marking.{Walks, followed}
use Rattle.vx_audit.proofs.Matching.{Rest, said_whole}
use Rattle.vx_audit.proofs.Recording.{parts_begun, parts_done, played_of}
use Rattle.vx_audit.proofs.Standing.{Whole, Stands, ticks_left, open_left, first_windows}
use Rattle.vx_audit.proofs.Stepping.{ticks_whole, open_whole}
use Rattle.vx_audit.proofs.Taken.{IsToldOut}
use Rattle.vx_audit.proofs.Taking.{calls_done, none_begun}
use Rattle.vx_audit.proofs.Tracing.{traced}

-- the version of the first windows is that of the opening
opening_version : (policy : Regions) (ts : List TickData) (last : Version) → BeginsBy policy ts → (ts ≡ [] → last ≡ first_version policy)
    → first_version policy ≡ version_in ts last
opening_version policy [] last first none = sym (none refl)
opening_version policy (t ∷ ts) last first none = sym first

-- the world as it opens
module _ (r : RecordData) (deeds : List DeedData) (is : IsRecord r) (by : IsByEdits (edits_in deeds) r) (whole : IsMap r.chronicle.opening.terrain) where
  abbrev pub play : PlayData
  play = opened r.chronicle.opening.policy r.chronicle.opening.terrain r.chronicle.opening.names

  abbrev pub of_record : Whole
  of_record = record {
    sizes = r.chronicle.opening.terrain.sizes;
    names = r.chronicle.opening.names;
    first = r.chronicle.opening.policy;
    edits = edits_in deeds;
    ticks = length r.chronicle.ticks;
    calls = calls_on r.chronicle.ticks r.windows;
    windows = r.windows;
    version = r.version;
  }

  map_opened : map_of play ≡ r.chronicle.opening.terrain
  map_opened = λ i. record {
    sizes = r.chronicle.opening.terrain.sizes;
    sectors = cells_opened (first_version r.chronicle.opening.policy) r.chronicle.opening.terrain.sectors i;
  }

  abbrev ts : List TickData
  ts = r.chronicle.ticks

  ticks_are : AreTicks r.chronicle.opening.names (map_of play) (0 + 1) (ticks_left ts (windows_in ts r.windows))
  ticks_are = subst (AreTicks r.chronicle.opening.names (map_of play) (0 + 1)) (sym (ticks_whole ts r.windows))
      (subst (λ m. AreTicks r.chronicle.opening.names m (0 + 1) ts) (sym map_opened) is.run.ticks)

  pending_are : AreWindows r.chronicle.opening.names r.version.policy (map_after (map_of play) (ticks_left ts (windows_in ts r.windows))).sectors
      (open_left ts (windows_in ts r.windows) r.windows)
  pending_are = subst (λ (x : List TickData). AreWindows r.chronicle.opening.names r.version.policy (map_after (map_of play) x).sectors (open_left ts (windows_in ts r.windows) r.windows))
      (sym (ticks_whole ts r.windows))
      (subst (AreWindows r.chronicle.opening.names r.version.policy (map_after (map_of play) ts).sectors) (sym (open_whole ts r.windows))
      (subst (λ m. AreWindows r.chronicle.opening.names r.version.policy (map_after m ts).sectors r.windows) (sym map_opened) is.pending))

  stands : Stands of_record play (start_of r)
  stands = record {
    sizes = refl;
    world = worlds_begin_whole r.chronicle.opening.policy r.chronicle.opening.terrain r.chronicle.opening.names whole;
    first = refl;
    version = opening_version r.chronicle.opening.policy ts r.version is.run.first by.begins;
    judged = All-map (λ (s : SectorData). s.version ≡ first_version r.chronicle.opening.policy) (opened_with r.chronicle.opening.policy)
        r.chronicle.opening.terrain.sectors (λ k d within. refl);
    ticks = ticks_are;
    pending = pending_are;
    low = 0;
    grown = by.grown;
    last = subst (λ n. r.version ≡ version_by r.chronicle.opening.policy (edits_in deeds) r.version.edits n) (omega arith) by.last;
    counted = refl;
    all = omega arith;
    calls = ap (λ n. n + calls_on (ticks_left ts (windows_in ts r.windows)) (open_left ts (windows_in ts r.windows) r.windows))
        (none_begun r.chronicle.opening.policy r.chronicle.opening.terrain.sectors)
        ∙ (λ i. 0 + calls_on (ticks_whole ts r.windows i) (open_whole ts r.windows i)) ∙ omega arith;
    parts = parts_begun r.chronicle.opening.names (version_in ts r.version).policy play.sectors (windows_in ts r.windows)
        (All-map (λ (s : SectorData). s.entries ≡ []) (opened_with r.chronicle.opening.policy) r.chronicle.opening.terrain.sectors (λ k d within. refl))
        (first_windows r.chronicle.opening.names (map_of play) ts (0 + 1) (windows_in ts r.windows) r.windows r.version ticks_are pending_are);
    ends = (refl, refl);
  }

  -- all of the record is left
  rest : IsKnownOf r deeds → Rest of_record (start_of r) deeds
  rest known = record {
    said = λ seat k few within. known.said seat k few (omega (arith, within, whole.all)) ∙ said_whole seat k ts r.windows;
    seated = recursion_from_All (λ (call : EntryData). IsSeatOf r.chronicle.opening.names call.seat) (calls_among deeds) known.seated;
    outside = recursion_from_All (IsToldOut r.chronicle.opening.terrain.sizes) (calls_among deeds) known.outside;
    fates = known.fates;
  }

  pub begun : IsKnownOf r deeds → Walks of_record play (start_of r) deeds
  begun known = record { stands = stands; edits = refl; rest = rest known }

-- where nothing is left, all ticks were made, and all calls recorded
at_end : (g : Whole) (play : PlayData) (lefts pending : List (List EntryData)) (last : Version) (edits : ℕ)
    → Stands g play (record { lefts = lefts; ticks = []; pending = pending; last = last; edits = edits }) → AreDone lefts
    → (play.ticks ≡ g.ticks) × (calls play ≡ g.calls) × (map entries_of play.sectors ≡ g.windows) × (play.version ≡ g.version)
at_end g play lefts pending last edits st closed = (
  omega (arith, st.all),
  omega (arith, st.calls, calls_done lefts closed),
  sym (parts_done pending (map entries_of play.sectors) lefts st.parts closed) ∙ st.ends.0,
  st.version ∙ st.ends.1,
)

-- what the marks of deeds tell where they lead to the end
pub game_by_marks : (r : RecordData) (deeds : List DeedData) (traces : List TraceData) (last : WalkData) → IsRecord r
    → IsByEdits (edits_in deeds) r → IsMap r.chronicle.opening.terrain → calls_on r.chronicle.ticks r.windows ≤ most_entries
    → IsKnownOf r deeds → marks_of r.chronicle.opening.terrain.sizes deeds ≡ all_marks traces [] → FollowsAll (start_of r) traces last
    → IsEnd last → IsGameOf r deeds
game_by_marks r deeds traces last is by whole fits known marked follows ends =
    let g = of_record r deeds is by whole in
    let game = play r deeds is by whole in
    let told = subst (λ ts. FollowsAll (start_of r) ts last) (sym (traced r.chronicle.opening.terrain.sizes deeds traces marked)) follows in
    let all = followed g game (start_of r) deeds last fits ends.ticks (begun r deeds is by whole known) told in
    let here = subst (λ ts. Stands g all.0 (record last { ticks = ts })) ends.ticks all.2 in
    let done = at_end g all.0 last.lefts last.pending last.last last.edits here ends.closed in
    record {
      last = all.0;
      played = played_of game deeds r.chronicle.ticks all.0 all.1;
      recorded = all.1;
      windows = done.2;
      version = done.3;
      ticks = done.0;
      calls = done.1;
    }
