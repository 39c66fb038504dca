-- Each deed that the record says next is what the game gives, and the walk goes on beside it.
use Rattle.std.proofs.Common.{◌≡◌, ℕ, ◌+◌, ◌<◌, ◌≤◌, false, List, [], ◌∷◌, ◌++◌, length, map, set, slice_get, take, Option, Some, None, option_map, Err, refl, sym, ap, ◌∙◌, subst, inl, inr, arith, length-append}
use Rattle.std.specs.List.{sum_by}
use Rattle.std.proofs.lemmas.Bool.{cases_Bool, leb-true}
use Rattle.std.proofs.lemmas.List.{map-set, take-append-le, take_all}
use Rattle.std.proofs.lemmas.Option.{slice_get-map, same_Some, none-some}
use Rattle.vx_geom.specs.declared.pos.Pos.{Pos}
use Rattle.vx_geom.specs.Sizes.{sector_of}
use Rattle.vx_cells.specs.Maps.{MapData}
use Rattle.vx_cells.specs.SectorCells.{SectorCells}
use Rattle.vx_region.specs.Regions.{Regions}
use Rattle.vx_policy.specs.Asked.{Asked}
use Rattle.vx_policy.specs.Edits.{after}
use Rattle.vx_policy.specs.declared.version.Version.{Version}
use Rattle.vx_sector.specs.Acting.{cells_by}
use Rattle.vx_sector.specs.Commands.{place_of}
use Rattle.vx_sector.specs.SectorData.{SectorData, SeatData, EntryData}
use Rattle.vx_sector.specs.Windows.{IsWindow, answer_of, count_of, is_full, most_entries, recorded, sector_after}
use Rattle.vx_sector.specs.declared.cmd.Cmd.{Cmd}
use Rattle.vx_sector.specs.declared.refusal.Refusal.TheVariants.{OutOfWorld}
use Rattle.vx_sector.proofs.Outside.{answered_by_the_rules, after_answer}
use Rattle.vx_tick.specs.Ticks.{fates_on, stepped}
use Rattle.vx_tick.specs.declared.fate.Fate.{Fate}
use Rattle.vx_windows.specs.Sectors.{cells_of, entries_of}
use Rattle.vx_windows.proofs.Renewals.{all_bring, renewed_version}
use Rattle.vx_windows.proofs.Sparing.{of_found}
use Rattle.vx_record.specs.Chronicles.{TickData, AreWindows, AreTicks, AreGrown, all_after, map_acted, map_after, version_by}
use Rattle.vx_play.specs.Plays.{PlayData, answered, answered_at, sector_asked, calls, map_of, next_map, next_fates, next_version, ticked}
use Rattle.vx_play.specs.Games.{Command, Accepted, after_step}
use Rattle.vx_play.proofs.Playing.{command_keeps_all, judged_as_before}
use Rattle.vx_play.proofs.Whole.{commands_keep_worlds, ticks_keep_worlds, answered_there, map_ticked}
use Rattle.vx_record.specs.Archives.{calls_on}
use Rattle.vx_audit.specs.Deeds.{Called, Ticked, Does}
use Rattle.vx_audit.specs.Recorded.{tick_of}
use Rattle.vx_audit.specs.Walks.{WalkData, AreParts, version_in, windows_in}
use Rattle.vx_audit.proofs.Recording.{part_more, parts_begun, parts_done, renewed_empty}
use Rattle.vx_audit.proofs.Taken.{TakesCallIn, TakesCall, TakesTick}
use Rattle.vx_audit.proofs.Standing.{Whole, Stands, ticks_left, open_left, first_windows, ticks_moved, open_moved, calls_less}
use Rattle.vx_audit.proofs.Taking.{sector_there, windows_on, cells_on, cells_done, calls_done, one_less, one_more, part, counts_stay}

-- a sector with few entries is not full
free_below : (s : SectorData) → count_of s < most_entries → is_full s ≡ false
unfolding is_full
free_below s few = elim (cases_Bool (is_full s)) [
  | inl full ↦ absurd (omega (arith, few, leb-true most_entries (count_of s) full))
  | inr free ↦ free
]

-- a call that is the next entry of its sector's window
module _ (g : Whole) (play : PlayData) (w : WalkData) (st : Stands g play w) (fits : g.calls ≤ most_entries)
    (call : EntryData) (k : ℕ) (rest : List EntryData) (at : sector_of g.sizes (place_of call.cmd) ≡ Some k)
    (found : slice_get w.lefts k ≡ Some (call ∷ rest)) where
  abbrev next : PlayData
  next = after_step play (Command call.seat call.cmd)

  abbrev walked : WalkData
  walked = record w { lefts = set w.lefts k rest }

  abbrev cells : List SectorCells
  cells = map cells_of play.sectors

  -- the windows that come first
  are : AreWindows g.names (version_in w.ticks w.last).policy cells w.lefts
  are = first_windows g.names (map_of play) w.ticks (play.ticks + 1) w.lefts w.pending w.last st.ticks st.pending

  less : sum_by length w.lefts ≡ sum_by length (set w.lefts k rest) + 1
  less = one_less w.lefts k call rest found

  module _ (s : SectorData) (there : slice_get play.sectors k ≡ Some s) where
    in_cells : slice_get cells k ≡ Some s.cells
    in_cells = slice_get-map cells_of play.sectors k ∙ ap (option_map cells_of) there

    judged : s.version ≡ play.version
    judged = of_found (λ (r : SectorData). r.version ≡ play.version) play.sectors k s st.judged there

    window : IsWindow s.version.policy s.cells (call ∷ rest)
    window =
        let here = sector_there g.names (version_in w.ticks w.last).policy cells w.lefts k call rest are found in
        let same : here.0 ≡ s.cells = same_Some _ _ (sym here.1 ∙ in_cells) in
        subst (λ (v : Version). IsWindow v.policy s.cells (call ∷ rest)) (sym (judged ∙ st.version))
        (subst (λ c. IsWindow (version_in w.ticks w.last).policy c (call ∷ rest)) same here.2)

    few : count_of s < most_entries
    few =
        omega (arith, fits, st.calls, part play.sectors k s there, calls_less w.ticks w.lefts (set w.lefts k rest) w.pending less)

    told : call.answer ≡ answer_of s call.seat call.cmd
    told = window.1 ∙ answered_by_the_rules s call.seat call.cmd window.0 (free_below s few)

    left : sector_after s call.seat call.cmd (answer_of s call.seat call.cmd) ≡ recorded s call
    left = ap (sector_after s call.seat call.cmd) (sym told) ∙ sym (after_answer s call.seat call.cmd call.answer window.1)

    given : answered play call.seat call.cmd ≡ (call.answer, set play.sectors k (recorded s call))
    given =
        answered_there play call.seat call.cmd k s (ap (λ sizes. sector_of sizes (place_of call.cmd)) st.sizes ∙ at) there
        ∙ (λ i. (sym told i, set play.sectors k (left i)))

    sectors_next : next.sectors ≡ set play.sectors k (recorded s call)
    sectors_next = ap (λ a. a.1) given

    cells_next : map cells_of next.sectors ≡ set cells k (cells_by s.cells call.cmd call.answer)
    cells_next = ap (map cells_of) sectors_next ∙ map-set cells_of play.sectors k (recorded s call)

    map_next : map_of next ≡ record (map_of play) { sectors = set cells k (cells_by s.cells call.cmd call.answer) }
    map_next = λ i. record { sizes = play.sizes; sectors = cells_next i }

    same_cells : all_after cells w.lefts ≡ all_after (set cells k (cells_by s.cells call.cmd call.answer)) (set w.lefts k rest)
    same_cells = cells_on cells w.lefts k call rest s.cells found in_cells

    windows_next : AreWindows g.names (version_in w.ticks w.last).policy (set cells k (cells_by s.cells call.cmd call.answer)) (set w.lefts k rest)
    windows_next = windows_on g.names (version_in w.ticks w.last).policy cells w.lefts k call rest s.cells are found in_cells

    parts_next : AreParts (windows_in w.ticks w.pending) (map entries_of next.sectors) (set w.lefts k rest)
    parts_next = subst (λ es. AreParts (windows_in w.ticks w.pending) es (set w.lefts k rest))
        (sym (ap (map entries_of) sectors_next ∙ map-set entries_of play.sectors k (recorded s call)))
        (part_more (windows_in w.ticks w.pending) (map entries_of play.sectors) w.lefts k s.entries call rest st.parts
        (slice_get-map entries_of play.sectors k ∙ ap (option_map entries_of) there) found)

    counted : calls next ≡ calls play + 1
    counted = ap (sum_by count_of) sectors_next ∙ one_more play.sectors k s call there

    goes_on : Stands g next walked
    goes_on = record {
      sizes = st.sizes;
      world = commands_keep_worlds play call.seat call.cmd st.world;
      first = st.first;
      version = st.version;
      judged = command_keeps_all (λ (r : SectorData). r.version ≡ play.version) call.seat call.cmd
          (λ r. judged_as_before play.version r call.seat call.cmd) play st.judged;
      ticks = subst (λ m. AreTicks g.names m (play.ticks + 1) (ticks_left w.ticks (set w.lefts k rest))) (sym map_next)
          (ticks_moved g.names (map_of play) _ w.lefts (set w.lefts k rest) same_cells w.ticks (play.ticks + 1) w.last windows_next st.ticks);
      pending = subst (λ m. AreWindows g.names w.last.policy (map_after m (ticks_left w.ticks (set w.lefts k rest))).sectors
          (open_left w.ticks (set w.lefts k rest) w.pending)) (sym map_next)
          (open_moved g.names (map_of play) _ w.lefts (set w.lefts k rest) same_cells w.ticks w.last w.pending windows_next st.pending);
      low = st.low;
      grown = st.grown;
      last = st.last;
      counted = st.counted;
      all = st.all;
      calls = omega (arith, counted, st.calls, calls_less w.ticks w.lefts (set w.lefts k rest) w.pending less);
      parts = parts_next;
      ends = st.ends;
    }

  -- the sector is there
  by_sector : (o : Option SectorData) → slice_get play.sectors k ≡ o → Does play (Called call) next × Stands g next walked
  by_sector None none =
      let here = sector_there g.names (version_in w.ticks w.last).policy cells w.lefts k call rest are found in
      absurd (none-some _ (sym (slice_get-map cells_of play.sectors k ∙ ap (option_map cells_of) none) ∙ here.1))
  by_sector (Some s) there = (record { told = sym (ap (λ a. a.0) (given s there)); after = refl }, goes_on s there)

  pub next_called : Does play (Called call) next × Stands g next walked
  next_called = by_sector (slice_get play.sectors k) refl

-- out of the world a call leaves all as it was
pub outside_told : (play : PlayData) (seat : SeatData) (cmd : Cmd) → sector_of play.sizes (place_of cmd) ≡ None
    → answered play seat cmd ≡ (Err OutOfWorld, play.sectors)
unfolding answered sector_asked
outside_told play seat cmd none = ap (answered_at play.sectors seat cmd) none

-- any call
pub called : (g : Whole) (play : PlayData) (w : WalkData) (call : EntryData) (next : WalkData) → Stands g play w
    → g.calls ≤ most_entries → TakesCall g.sizes w call next
    → Does play (Called call) (after_step play (Command call.seat call.cmd)) × Stands g (after_step play (Command call.seat call.cmd)) next
called g play w call next st fits takes = by (sector_of g.sizes (place_of call.cmd)) refl takes
  where
    by : (o : Option ℕ) → sector_of g.sizes (place_of call.cmd) ≡ o → TakesCallIn w call next o
        → Does play (Called call) (after_step play (Command call.seat call.cmd)) × Stands g (after_step play (Command call.seat call.cmd)) next
    by None none taken =
        let told = outside_told play call.seat call.cmd (ap (λ sizes. sector_of sizes (place_of call.cmd)) st.sizes ∙ none) in
        let same : after_step play (Command call.seat call.cmd) ≡ play = λ i. record play { sectors = (told i).1 } in
        (record { told = taken.0 ∙ sym (ap (λ a. a.0) told); after = refl }, subst (λ p. Stands g p next) (sym same) (subst (Stands g play) (sym taken.1) st))
    by (Some k) at taken =
        let both = next_called g play w st fits call k taken.rest at taken.found in
        (both.0, subst (Stands g (after_step play (Command call.seat call.cmd))) (sym taken.after) both.1)

-- an edit
pub edited : (g : Whole) (play : PlayData) (w : WalkData) (edit : Asked) → Stands g play w
    → Stands g (after_step play (Accepted edit)) (record w { edits = w.edits + 1 })
edited g play w edit st = record {
  sizes = st.sizes;
  world = st.world;
  first = st.first;
  version = st.version;
  judged = st.judged;
  ticks = st.ticks;
  pending = st.pending;
  low = st.low;
  grown = st.grown;
  last = st.last;
  counted = omega (arith, st.counted, length-append play.accepted (edit ∷ []));
  all = st.all;
  calls = st.calls;
  parts = st.parts;
  ends = st.ends;
}

-- the ticks and the windows after one tick are whole
pub ticks_whole : (ts : List TickData) (pending : List (List EntryData)) → ticks_left ts (windows_in ts pending) ≡ ts
ticks_whole [] pending = refl
ticks_whole (t ∷ ts) pending = refl

pub open_whole : (ts : List TickData) (pending : List (List EntryData)) → open_left ts (windows_in ts pending) pending ≡ pending
open_whole [] pending = refl
open_whole (t ∷ ts) pending = refl

-- the version of the next windows is the one that the game fixes
version_fixed : (play : PlayData) (first : Regions) (edits later : List Asked) (v : Version) (n : ℕ) → play.first ≡ first
    → play.accepted ++ later ≡ edits → v ≡ version_by first edits v.edits n → n ≡ play.ticks + 2
    → v.edits ≡ length play.accepted → next_version play ≡ v
version_fixed play first edits later v n same split is number count =
    let taken : take v.edits edits ≡ play.accepted =
    ap (λ es. take v.edits es) (sym split) ∙ ap (λ c. take c (play.accepted ++ later)) count
    ∙ take-append-le (length play.accepted) play.accepted later (omega arith) ∙ take_all (length play.accepted) play.accepted (omega arith) in
    (λ i. record { tick = sym number i; edits = sym count i; policy = after (same i) (sym taken i) }) ∙ sym is

-- the version after one tick
version_next : (g : Whole) (names : List (List ℕ)) (play : PlayData) (later : List Asked) (m : MapData) (ts : List TickData) (last : Version) (low : ℕ)
    → play.first ≡ g.first → play.accepted ++ later ≡ g.edits → AreTicks names m (play.ticks + 1 + 1) ts
    → AreGrown g.first g.edits low ts last.edits → last ≡ version_by g.first g.edits last.edits (play.ticks + 1 + length ts + 1)
    → (version_in ts last).edits ≡ length play.accepted → next_version play ≡ version_in ts last
version_next g names play later m [] last low first split are grown is count =
    version_fixed play g.first g.edits later last _ first split is (omega arith) count
version_next g names play later m (t ∷ ts) last low first split are grown is count =
    version_fixed play g.first g.edits later t.version _ first split grown.1 (omega (arith, are.0.number)) count

-- fewer edits were counted before these ticks
grown_rest : (first : Regions) (edits : List Asked) (low : ℕ) (t : TickData) (ts : List TickData) (high : ℕ)
    → AreGrown first edits low (t ∷ ts) high → AreGrown first edits t.version.edits ts high
grown_rest first edits low t ts high grown = grown.2

-- a tick
module _ (g : Whole) (play : PlayData) (later : List Asked) (split : play.accepted ++ later ≡ g.edits)
    (lefts : List (List EntryData)) (t : TickData) (ts : List TickData) (pending : List (List EntryData)) (last : Version) (edits : ℕ)
    (st : Stands g play (record { lefts = lefts; ticks = t ∷ ts; pending = pending; last = last; edits = edits }))
    (closed : all_after (map cells_of play.sectors) lefts ≡ map cells_of play.sectors) (none : sum_by length lefts ≡ 0)
    (counted : (version_in ts last).edits ≡ edits) where
  acted_none : map_acted (map_of play) (record t { windows = lefts }) ≡ map_of play
  acted_none = λ i. record { sizes = play.sizes; sectors = closed i }

  pub fates_given : t.fates ≡ next_fates play
  fates_given = st.ticks.0.fates ∙ (λ i. fates_on (sym st.version i).policy (acted_none i))

  map_given : stepped t.version.policy (map_acted (map_of play) (record t { windows = lefts })) ≡ map_of (ticked play)
  map_given = (λ i. stepped (sym st.version i).policy (acted_none i)) ∙ sym (map_ticked play st.world)

  ticks_are : AreTicks g.names (map_of (ticked play)) (play.ticks + 1 + 1) ts
  ticks_are = subst (λ m. AreTicks g.names m (play.ticks + 1 + 1) ts) map_given st.ticks.1

  pending_are : AreWindows g.names last.policy (map_after (map_of (ticked play)) ts).sectors pending
  pending_are = subst (λ m. AreWindows g.names last.policy (map_after m ts).sectors pending) map_given st.pending

  last_is : last ≡ version_by g.first g.edits last.edits (play.ticks + 1 + length ts + 1)
  last_is = subst (λ n. last ≡ version_by g.first g.edits last.edits n) (omega arith) st.last

  ticks_next : AreTicks g.names (map_of (ticked play)) (play.ticks + 1 + 1) (ticks_left ts (windows_in ts pending))
  ticks_next = subst (AreTicks g.names (map_of (ticked play)) (play.ticks + 1 + 1)) (sym (ticks_whole ts pending)) ticks_are

  pending_next : AreWindows g.names last.policy (map_after (map_of (ticked play)) (ticks_left ts (windows_in ts pending))).sectors
      (open_left ts (windows_in ts pending) pending)
  pending_next = subst (λ (x : List TickData). AreWindows g.names last.policy (map_after (map_of (ticked play)) x).sectors (open_left ts (windows_in ts pending) pending)) (sym (ticks_whole ts pending))
      (subst (AreWindows g.names last.policy (map_after (map_of (ticked play)) ts).sectors) (sym (open_whole ts pending)) pending_are)

  pub after_tick : Stands g (ticked play) (record { lefts = windows_in ts pending; ticks = ts; pending = pending; last = last; edits = edits })
  after_tick = record {
    sizes = st.sizes;
    world = ticks_keep_worlds play st.world;
    first = st.first;
    version = version_next g g.names play later (map_of (ticked play)) ts last t.version.edits st.first split ticks_are st.grown.2 last_is (counted ∙ st.counted);
    judged = all_bring (next_version play) (λ s. Unit {0}) (λ s. s.version ≡ next_version play)
        (λ s cells known. renewed_version (next_version play) s cells) play.sectors (next_map play).sectors (λ k d within. tt);
    ticks = ticks_next;
    pending = pending_next;
    low = t.version.edits;
    grown = st.grown.2;
    last = last_is;
    counted = st.counted;
    all = omega (arith, st.all);
    calls = ap (λ n. n + calls_on (ticks_left ts (windows_in ts pending)) (open_left ts (windows_in ts pending) pending)) (counts_stay (next_version play) play.sectors (next_map play).sectors)
        ∙ (λ i. calls play + calls_on (ticks_whole ts pending i) (open_whole ts pending i))
        ∙ omega (arith, st.calls, none);
    parts = parts_begun g.names (version_in ts last).policy (ticked play).sectors (windows_in ts pending)
        (all_bring (next_version play) (λ s. Unit {0}) (λ s. s.entries ≡ [])
        (λ s cells known. renewed_empty (next_version play) s cells) play.sectors (next_map play).sectors (λ k d within. tt))
        (first_windows g.names (map_of (ticked play)) ts (play.ticks + 1 + 1) (windows_in ts pending) pending last ticks_next pending_next);
    ends = st.ends;
  }

-- any tick
pub passed : (g : Whole) (play : PlayData) (later : List Asked) (w : WalkData) (fates : List (Pos × Fate)) (new : WalkData) → Stands g play w
    → play.accepted ++ later ≡ g.edits → TakesTick w fates new
    → Does play (Ticked fates) (ticked play) × (w.ticks ≡ tick_of play fates ∷ new.ticks) × Stands g (ticked play) new
passed g play later w fates new st split takes =
    let here : Stands g play (record w { ticks = takes.tick ∷ takes.ticks }) =
    subst (λ ts. Stands g play (record w { ticks = ts })) takes.there st in
    let closed = cells_done (map cells_of play.sectors) w.lefts takes.closed in
    let none = calls_done w.lefts takes.closed in
    let windows = parts_done takes.tick.windows (map entries_of play.sectors) w.lefts here.parts takes.closed in
    let tick : takes.tick ≡ tick_of play fates =
    λ i. record { number = here.ticks.0.number i; version = sym here.version i; windows = windows i; fates = takes.told i } in (
      record { told = sym takes.told ∙ fates_given g play later split w.lefts takes.tick takes.ticks w.pending w.last w.edits here closed none takes.counted; after = refl },
      takes.there ∙ (λ i. tick i ∷ (sym takes.after i).ticks),
      subst (Stands g (ticked play)) (sym takes.after)
          (after_tick g play later split w.lefts takes.tick takes.ticks w.pending w.last w.edits here closed none takes.counted),
    )
