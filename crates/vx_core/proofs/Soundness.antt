-- What holds of the machine after every event.
use Rattle.std.proofs.Common.{◌≡◌, ℕ, ◌+◌, ◌≤◌, true, List, [], ◌∷◌, ◌++◌, length, map, take, slice_get, Option, Some, None, option_map, refl, sym, ap, ◌∙◌, subst, inl, inr, arith}
use Rattle.std.specs.List.{All}
use Rattle.std.proofs.lemmas.Bool.{cases_Bool, and_parts}
use Rattle.std.proofs.lemmas.List.Elements.{All-nil, All-push, All-map}
use Rattle.std.specs.Option.{is_none}
use Rattle.std.proofs.lemmas.List.{length_push}
use Rattle.std.proofs.Math.Seq.{take-length}
use Rattle.vx_cells.specs.Maps.{MapData}
use Rattle.vx_cells.specs.SectorCells.{SectorCells}
use Rattle.vx_cells.specs.Wholes.{IsMap}
use Rattle.vx_region.specs.Regions.{Regions}
use Rattle.vx_policy.specs.Asked.{Asked}
use Rattle.vx_policy.specs.Edits.{after, AreAccepted}
use Rattle.vx_policy.specs.Refusals.{refusal}
use Rattle.vx_policy.specs.declared.edit_refusal.EditRefusal.{EditRefusal}
use Rattle.vx_policy.specs.declared.version.Version.{Version}
use Rattle.vx_policy.proofs.Turns.{accepted_push}
use Rattle.vx_sector.specs.SectorData.{SectorData, SeatData, EntryData}
use Rattle.vx_sector.specs.Windows.{IsSector, answer_of, is_recorded, sector_after, renewed}
use Rattle.vx_sector.specs.declared.cmd.Cmd.{Cmd}
use Rattle.vx_sector.proofs.WindowLemmas.{command_keeps_sector}
use Rattle.vx_tick.specs.Ticks.{fates_on, stepped}
use Rattle.vx_tick.proofs.OneTick.{steps_keep_maps}
use Rattle.vx_play.specs.Games.{Command, Accepted, after_step}
use Rattle.vx_windows.specs.Sectors.{base_of, first_version, opened_with, renewed_over, entries_of}
use Rattle.vx_play.specs.Plays.{PlayData, IsWorld, map_of, next_map, next_version, ticked, policy_of, seat_at}
use Rattle.vx_play.proofs.Playing.{command_keeps_all, command_leaves, judged_as_before, renewed_is_sector, first_is_sector}
use Rattle.vx_windows.proofs.Sparing.{bases_begun}
use Rattle.vx_windows.proofs.Renewals.{renewed_version, all_bring, bases_renewed}
use Rattle.vx_play.proofs.Whole.{as_many_cells, worlds_begin_whole, commands_keep_worlds, ticks_keep_worlds}
use Rattle.vx_record.specs.Chronicles.{TickData, IsSeatOf, AreSeated, map_acted, map_after, all_after, IsTickOn, AreWindows, AreTicks, BeginsBy, AreGrown, version_by}
use Rattle.vx_core.specs.Events.{Happening, Acts, Edits, Takes, Works, Fixes, Puts}
use Rattle.vx_core.specs.Laws.{first_of, ChangesNothing, IsAlwaysARun, VersionsGrow, WindowsAreOpen}
use Rattle.vx_core.specs.Machines.{MachineData, is_accepted, is_enabled, acted, next_tick, done, after_event, after_events, begun, run}
use Rattle.vx_record.specs.Openings.{OpeningData}
use Rattle.vx_record.proofs.Growing.{map_after_one_more, ticks_one_more, edits_one_more, same_version, grown_one_more}
use Rattle.vx_record.proofs.Recording.{cells_by_entries, windows_on_record}

-- the map with which the windows of a world at play began
abbrev base_map : PlayData → MapData
base_map play = record { sizes = play.sizes; sectors = map base_of play.sectors }

-- what holds of a world at play with this record
pub record Holds (o : OpeningData) (play : PlayData) (ticks : List TickData) : Type 0 where
  pub world : IsWorld play
  pub first : play.first ≡ o.policy
  pub started : first_of ticks play.version ≡ first_version o.policy
  pub names : play.names ≡ o.names
  pub base : base_map play ≡ map_after o.terrain ticks
  pub sectors : All IsSector play.sectors
  pub seated : All (λ (s : SectorData). AreSeated o.names s.entries) play.sectors
  pub judged : All (λ (s : SectorData). s.version ≡ play.version) play.sectors
  pub counted : play.ticks ≡ length ticks
  pub version : play.version ≡ version_by o.policy play.accepted play.version.edits (length ticks + 1)
  pub within : play.version.edits ≤ length play.accepted
  pub accepted : AreAccepted o.policy play.accepted
  pub grown : AreGrown o.policy play.accepted 0 ticks play.version.edits
  pub run : AreTicks o.names o.terrain 1 ticks

-- a tick more is judged by the version that stood, and so the first of all stays
as_first : (ticks : List TickData) (tick : TickData) (v : Version)
    → first_of (ticks ++ tick ∷ []) v ≡ first_of ticks tick.version
as_first [] tick v = refl
as_first (t ∷ ticks) tick v = refl

begins_by : (policy : Regions) (ticks : List TickData) (v : Version) → first_of ticks v ≡ first_version policy
    → BeginsBy policy ticks
begins_by policy [] v first = tt
begins_by policy (t ∷ ticks) v first = first

-- as a world opens
module _ (o : OpeningData) (whole : IsMap o.terrain) where
  begins : Holds o (begun o).play []
  begins = record {
    world = worlds_begin_whole o.policy o.terrain o.names whole;
    first = refl;
    started = refl;
    names = refl;
    base = ap (λ cs. record { sizes = o.terrain.sizes; sectors = cs }) (bases_begun (first_version o.policy) o.terrain.sectors);
    sectors = All-map IsSector (opened_with o.policy) o.terrain.sectors (λ k d within. first_is_sector o.policy _);
    seated =
        All-map (λ (s : SectorData). AreSeated o.names s.entries) (opened_with o.policy) o.terrain.sectors
        (λ k d within. All-nil _);
    judged = All-map (λ (s : SectorData). s.version ≡ (begun o).play.version) (opened_with o.policy) o.terrain.sectors (λ k d within. refl);
    counted = refl;
    version = refl;
    within = omega arith;
    accepted = tt;
    grown = omega arith;
    run = tt;
  }

-- a sector in its next window has no entries yet
none_seated : (names : List (List ℕ)) (version : Version) (s : SectorData) (cells : SectorCells)
    → AreSeated names (renewed_over version s cells).entries
unfolding renewed
none_seated names version s cells = All-nil _

-- the seat of a number is that of the name with the number
seat_found : (play : PlayData) (number : ℕ) (seat : SeatData) → seat_at play number ≡ Some seat
    → IsSeatOf play.names seat
unfolding seat_at
seat_found play number seat is = by (slice_get play.names number) refl is
  where
    by : (name : Option (List ℕ)) → slice_get play.names number ≡ name
        → option_map (λ n. record { number = number; name = n }) name ≡ Some seat → IsSeatOf play.names seat
    by None found is = cc
    by (Some name) found is =
        let same : record { number = number; name = name } ≡ seat = cc in
        subst (IsSeatOf play.names) same found

-- nothing of the policy stands against an edit that is accepted
none_stands : (play : PlayData) (e : Asked) → is_accepted play e ≡ true → refusal (policy_of play) e ≡ None
none_stands play e is = by (refusal (policy_of play) e) (and_parts _ _ is).0
  where
    by : (cause : Option EditRefusal) → is_none cause ≡ true → cause ≡ None
    by None is = refl
    by (Some cause) is = cc

module _ (o : OpeningData) (play : PlayData) (ticks : List TickData) (h : Holds o play ticks) where
  -- the map is the one that the windows leave
  acted_map : map_acted (map_after o.terrain ticks) (next_tick play) ≡ map_of play
  acted_map =
      ap (λ (m : MapData). map_acted m (next_tick play)) (sym h.base)
      ∙ ap (λ cs. record { sizes = play.sizes; sectors = cs }) (sym (cells_by_entries play.sectors h.sectors))

  -- an entry from a seat of the opening is one more of such
  seated_after : (seat : SeatData) (cmd : Cmd) → IsSeatOf o.names seat → (s : SectorData)
      → AreSeated o.names s.entries → AreSeated o.names (sector_after s seat cmd (answer_of s seat cmd)).entries
  unfolding sector_after
  seated_after seat cmd sits s all = elim (cases_Bool (is_recorded (answer_of s seat cmd))) [
    | inl traced ↦
        rw traced (All-push (λ (e : EntryData). IsSeatOf o.names e.seat) s.entries
        (record { seat = seat; cmd = cmd; answer = answer_of s seat cmd }) all sits)
    | inr none ↦ rw none all
  ]

  after_command : (seat : SeatData) (cmd : Cmd) → IsSeatOf o.names seat → Holds o (after_step play (Command seat cmd)) ticks
  after_command seat cmd sits = record {
    world = commands_keep_worlds play seat cmd h.world;
    first = h.first;
    started = h.started;
    names = h.names;
    base =
        ap (λ cs. record { sizes = play.sizes; sectors = cs }) (command_leaves base_of (λ s entry. refl) play seat cmd)
        ∙ h.base;
    sectors = command_keeps_all IsSector seat cmd (λ s. command_keeps_sector s seat cmd) play h.sectors;
    seated = command_keeps_all (λ s. AreSeated o.names s.entries) seat cmd (seated_after seat cmd sits) play h.seated;
    judged =
        command_keeps_all (λ s. s.version ≡ play.version) seat cmd (λ s. judged_as_before play.version s seat cmd) play
        h.judged;
    counted = h.counted;
    version = h.version;
    within = h.within;
    accepted = h.accepted;
    grown = h.grown;
    run = h.run;
  }

  after_edit : (e : Asked) → refusal (policy_of play) e ≡ None → Holds o (after_step play (Accepted e)) ticks
  after_edit e free = record {
    world = h.world;
    first = h.first;
    started = h.started;
    names = h.names;
    base = h.base;
    sectors = h.sectors;
    seated = h.seated;
    judged = h.judged;
    counted = h.counted;
    version = h.version ∙ sym (same_version o.policy play.accepted e play.version.edits (length ticks + 1) h.within);
    within = omega (arith, h.within, length_push play.accepted e);
    accepted =
        accepted_push o.policy play.accepted e h.accepted
        (subst (λ first. refusal (after first play.accepted) e ≡ None) h.first free);
    grown = edits_one_more o.policy play.accepted e 0 ticks play.version.edits h.within h.grown;
    run = h.run;
  }

  -- the tick that goes on record is one on the last map
  on_record : IsTickOn o.names (map_after o.terrain ticks) (1 + length ticks) (next_tick play)
  on_record = record {
    number = omega (arith, h.counted);
    version = ap (λ (v : Version). v.tick) h.version ∙ omega arith;
    windows =
        subst (λ (m : MapData). AreWindows o.names play.version.policy m.sectors (map entries_of play.sectors)) h.base
        (windows_on_record o.names play.version play.sectors h.sectors h.seated h.judged);
    fates = ap (fates_on play.version.policy) (sym acted_map);
  }

  as_fixed : next_version play ≡ version_by o.policy play.accepted (length play.accepted) (length ticks + 1 + 1)
  as_fixed =
      let tick : play.ticks + 2 ≡ length ticks + 1 + 1 = omega (arith, h.counted) in
      let all : play.accepted ≡ take (length play.accepted) play.accepted = sym (take-length play.accepted) in
      λ i. record { tick = tick i; edits = length play.accepted; policy = after (h.first i) (all i) }

  after_tick : Holds o (ticked play) (ticks ++ next_tick play ∷ [])
  after_tick =
      let v = next_version play in
      let next = (next_map play).sectors in
      let many : length (ticks ++ next_tick play ∷ []) ≡ length ticks + 1 = length_push ticks (next_tick play) in
      let number : play.ticks + 1 ≡ length ticks + 1 = omega (arith, h.counted) in
      let sizes = sym (steps_keep_maps play.version.policy (map_of play) h.world).1 in
      record {
        world = ticks_keep_worlds play h.world;
        first = h.first;
        started = as_first ticks (next_tick play) v ∙ h.started;
        names = h.names;
        base =
            (λ i. record { sizes = sizes i; sectors = bases_renewed v play.sectors next (as_many_cells play h.world) i })
            ∙ ap (stepped play.version.policy) (sym acted_map)
            ∙ sym (map_after_one_more o.terrain ticks (next_tick play));
        sectors = all_bring v IsSector IsSector (renewed_is_sector v) play.sectors next h.sectors;
        seated =
            all_bring v IsSector (λ s. AreSeated o.names s.entries) (λ s cells is. none_seated o.names v s cells) play.sectors next
            h.sectors;
        judged = all_bring v IsSector (λ s. s.version ≡ v) (λ s cells is. renewed_version v s cells) play.sectors next h.sectors;
        counted = omega (arith, h.counted, many);
        version = as_fixed ∙ ap (version_by o.policy play.accepted (length play.accepted)) (omega (arith, many));
        within = omega arith;
        accepted = h.accepted;
        grown =
            grown_one_more o.policy play.accepted 0 ticks (next_tick play) (length play.accepted) h.grown
            (h.version ∙ ap (version_by o.policy play.accepted play.version.edits) (sym number)) h.within;
        run = ticks_one_more o.names o.terrain 1 ticks (next_tick play) h.run on_record;
      }

-- an event keeps it
still_holds : (o : OpeningData) (m : MachineData) (event : Happening) → Holds o m.play m.ticks
    → Holds o (after_event m event).play (after_event m event).ticks
unfolding after_event
still_holds o m event h = elim (cases_Bool (is_enabled m event)) [
  | inl enabled ↦ rw enabled (does event enabled)
  | inr none ↦ rw none h
]
  where
    by_seat : (cmd : Cmd) (seat : Option SeatData) → ((s : SeatData) → seat ≡ Some s → IsSeatOf o.names s)
        → Holds o (acted m cmd seat).play (acted m cmd seat).ticks
    by_seat cmd None sits = h
    by_seat cmd (Some seat) sits = after_command o m.play m.ticks h seat cmd (sits seat refl)

    does : (event : Happening) → is_enabled m event ≡ true → Holds o (done m event).play (done m event).ticks
    does (Acts number cmd) enabled =
        by_seat cmd (seat_at m.play number)
        (λ s is. subst (λ names. IsSeatOf names s) h.names (seat_found m.play number s is))
    does (Edits e) enabled =
        after_edit o m.play m.ticks h e (none_stands m.play e enabled)
    does (Takes k) enabled = h
    does (Works phase k) enabled = h
    does Fixes enabled = after_tick o m.play m.ticks h
    does (Puts k) enabled = h

always : (o : OpeningData) (m : MachineData) (events : List Happening) → Holds o m.play m.ticks
    → Holds o (after_events m events).play (after_events m events).ticks
always o m [] h = h
always o m (event ∷ events) h = always o (after_event m event) events (still_holds o m event h)

pub holds : (o : OpeningData) (events : List Happening) → IsMap o.terrain → Holds o (run o events).play (run o events).ticks
holds o events whole = always o (begun o) events (begins o whole)

pub changes_nothing : ChangesNothing
unfolding after_event
changes_nothing m event none = rw none refl

pub is_always_a_run : IsAlwaysARun
is_always_a_run o events whole =
    let h = holds o events whole in
    record { ticks = h.run; first = begins_by o.policy _ _ h.started }

pub versions_grow : VersionsGrow
versions_grow o events whole =
    let h = holds o events whole in
    record { first = h.started; accepted = h.accepted; ticks = h.grown; next = h.version; within = h.within }

pub windows_are_open : WindowsAreOpen
windows_are_open o events whole =
    let m = run o events in
    let h = holds o events whole in
    record {
      windows =
          subst (λ (base : MapData). AreWindows o.names m.play.version.policy base.sectors (map entries_of m.play.sectors)) h.base
          (windows_on_record o.names m.play.version m.play.sectors h.sectors h.seated h.judged);
      cells =
          cells_by_entries m.play.sectors h.sectors
          ∙ ap (λ (base : MapData). all_after base.sectors (map entries_of m.play.sectors)) h.base;
      versions = h.judged;
    }
