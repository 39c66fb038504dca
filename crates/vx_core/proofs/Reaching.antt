-- Whatever the rules give, events lead to: tick by tick, with the edits that each version counts.
use Rattle.std.proofs.Common.{◌≡◌, ℕ, zero, suc, ◌+◌, ◌*◌, ◌<◌, ◌≤◌, List, [], ◌∷◌, ◌++◌, length, map, take, drop, get_or, slice_get, refl, sym, ap, ◌∙◌, subst, arith, append_assoc, append-nil, length-append}
use Rattle.std.specs.List.{All, AllByRecursion}
use Rattle.std.specs.Option.{unwrap_or}
use Rattle.std.proofs.lemmas.List.{length-map, length-take-le, take_all}
use Rattle.std.proofs.lemmas.List.Elements.{All-map, All-nil, All-replicate, recursion_from_All}
use Rattle.std.proofs.lemmas.Nat.{mul-le}
use Rattle.std.proofs.lemmas.Option.{unwrap_or-slice_get}
use Rattle.vx_cells.specs.Maps.{MapData}
use Rattle.vx_cells.specs.SectorCells.{SectorCells}
use Rattle.vx_cells.specs.Wholes.{IsMap}
use Rattle.vx_board.specs.Accepted.{most_edits}
use Rattle.vx_region.specs.Regions.{Regions}
use Rattle.vx_policy.specs.Asked.{Asked}
use Rattle.vx_policy.specs.Edits.{after, edited, AreAccepted}
use Rattle.vx_policy.specs.declared.version.Version.{Version}
use Rattle.vx_sector.specs.SectorData.{SectorData, EntryData}
use Rattle.vx_sector.specs.Windows.{most_entries, renewed}
use Rattle.vx_tick.specs.Ticks.{fates_on, stepped}
use Rattle.vx_windows.specs.Limits.{most_ticks}
use Rattle.vx_windows.specs.Sectors.{all_renewed, cells_of, entries_of, first_version, opened_with, renewed_over}
use Rattle.vx_windows.proofs.Renewals.{all_bring, renewed_version}
use Rattle.vx_play.specs.Plays.{PlayData, IsWorld, map_of, next_map, next_version, opened, ticked}
use Rattle.vx_play.proofs.Whole.{cells_opened, map_ticked, ticks_keep_worlds, worlds_begin_whole}
use Rattle.vx_record.specs.Archives.{closed_of, next_counts}
use Rattle.vx_record.specs.Chronicles.{TickData, ChronicleData, AreGrown, AreTicks, AreWindows, BeginsBy, IsRun, map_acted, map_after, version_by}
use Rattle.vx_record.specs.Openings.{OpeningData}
use Rattle.vx_record.specs.Said.{closed_at, window_at}
use Rattle.vx_record.proofs.Counting.{counts_agree_again, length_next, next_at}
use Rattle.vx_record.proofs.Growing.{no_fewer}
use Rattle.vx_core.specs.Events.{Happening}
use Rattle.vx_core.specs.Laws.{AreHome, ByTheRulesIsReached, OutcomesAreByTheRules, RunsAreReached, first_of}
use Rattle.vx_core.specs.Machines.{MachineData, next_tick, run}
use Rattle.vx_core.specs.Outcomes.{OutcomeData, HasRoom, IsByTheRules, entries_at, outcome}
use Rattle.vx_core.specs.declared.stage.Stage.TheVariants.{Home}
use Rattle.vx_core.proofs.Filling.{AreReady, are_ready, by_windows, cells_filled, counts_filled, entries_filled, filled_all}
use Rattle.vx_core.proofs.Fitting.{has_room, none_closed}
use Rattle.vx_core.proofs.Leading.{Leads, and_on, by_edits, by_tick, home, with_edits}
use Rattle.vx_core.proofs.Soundness.{is_always_a_run, versions_grow, windows_are_open}

-- no sector has more entries than it records, with those of further ticks and of open windows
abbrev pub HaveRoom : List ℕ → List TickData → List (List EntryData) → Type 0
HaveRoom counts ticks windows =
    (k : ℕ) → k < length counts → get_or counts k 0 + length (entries_at k ticks windows) ≤ most_entries

-- where further ticks of an outcome stand before a world at play
pub record Stands (o : OpeningData) (r : OutcomeData) (n : ℕ) (play : PlayData) (ticks : List TickData) : Type 0 where
  pub world : IsWorld play
  pub count : length play.sectors ≡ n
  pub names : play.names ≡ o.names
  pub first : play.first ≡ o.policy
  pub version : play.version ≡ first_of ticks r.version
  pub judged : All (λ (s : SectorData). s.version ≡ play.version) play.sectors
  pub empty : All (λ (s : SectorData). s.entries ≡ []) play.sectors
  pub accepted : play.accepted ≡ take play.version.edits r.accepted
  pub run : AreTicks o.names (map_of play) (play.ticks + 1) ticks
  pub pending : AreWindows o.names r.version.policy (map_after (map_of play) ticks).sectors r.windows
  pub low : ℕ
  pub grown : AreGrown o.policy r.accepted low ticks r.version.edits
  pub last : r.version ≡ version_by o.policy r.accepted r.version.edits (play.ticks + length ticks + 1)
  pub room : HaveRoom (map closed_of play.sectors) ticks r.windows
  pub few : play.ticks + length ticks ≤ most_ticks

-- the edits from one count to a later one
abbrev between : ℕ → ℕ → List Asked → List Asked
between low high edits = drop low (take high edits)

taken_between : (low high : ℕ) (edits : List Asked) → low ≤ high → take low edits ++ between low high edits ≡ take high edits
taken_between zero high edits most = refl
taken_between (suc low) zero edits most = absurd (omega (arith, most))
taken_between (suc low) (suc high) [] most = refl
taken_between (suc low) (suc high) (e ∷ edits) most = ap (λ es. e ∷ es) (taken_between low high edits (omega (arith, most)))

accepted_taken : (rs : Regions) (n : ℕ) (edits : List Asked) → AreAccepted rs edits → AreAccepted rs (take n edits)
accepted_taken rs zero edits all = tt
accepted_taken rs (suc n) [] all = tt
accepted_taken rs (suc n) (e ∷ edits) all = (all.0, accepted_taken (edited rs e) n edits all.1)

accepted_rest : (rs : Regions) (before since : List Asked) → AreAccepted rs (before ++ since) → AreAccepted (after rs before) since
accepted_rest rs [] since all = all
accepted_rest rs (e ∷ before) since all = accepted_rest (edited rs e) before since all.1

-- the edits that a later version counts are accepted
module _ (o : OpeningData) (edits : List Asked) (accepted : AreAccepted o.policy edits) (few : length edits ≤ most_edits)
    (n : ℕ) (play : PlayData) (ticks : List TickData) (first : play.first ≡ o.policy) (low high : ℕ) (more : low ≤ high) (within : high ≤ length edits)
    (so_far : play.accepted ≡ take low edits) where
  next_edits : Leads (home n play ticks) (home n (with_edits play (take high edits)) ticks)
  next_edits =
      let split : play.accepted ++ between low high edits ≡ take high edits = ap (λ es. es ++ between low high edits) so_far ∙ taken_between low high edits more in
      let all : AreAccepted play.first (play.accepted ++ between low high edits) =
      subst (λ es. AreAccepted play.first es) (sym split) (subst (λ rs. AreAccepted rs (take high edits)) (sym first) (accepted_taken o.policy high edits accepted)) in
      let many : length play.accepted + length (between low high edits) ≤ most_edits =
      omega (arith, few, within, length-append play.accepted (between low high edits), ap length split, length-take-le high edits within) in
      let led = by_edits (between low high edits) n play ticks (accepted_rest play.first play.accepted (between low high edits) all) many in
      (led.0, led.1 ∙ ap (λ es. home n (with_edits play es) ticks) split)

-- the version that counts all edits so far is the next one
fixed_by : (play : PlayData) (first : Regions) (edits : List Asked) (v : Version) (number : ℕ) → play.first ≡ first
    → play.accepted ≡ take v.edits edits → v.edits ≤ length edits → v ≡ version_by first edits v.edits number → number ≡ play.ticks + 2
    → next_version play ≡ v
fixed_by play first edits v number same accepted within is at_number =
    let count : length play.accepted ≡ v.edits = ap length accepted ∙ length-take-le v.edits edits within in
    (λ i. record { tick = sym at_number i; edits = count i; policy = after (same i) (accepted i) }) ∙ sym is

-- the first of further versions
module _ (first : Regions) (edits : List Asked) (names : List (List ℕ)) (v : Version) where
  first_by : (m : MapData) (ticks : List TickData) (low number : ℕ) → AreTicks names m number ticks → AreGrown first edits low ticks v.edits
      → v ≡ version_by first edits v.edits (number + length ticks)
      → first_of ticks v ≡ version_by first edits (first_of ticks v).edits number
  first_by m [] low number are grown last = last ∙ ap (version_by first edits v.edits) (omega arith)
  first_by m (t ∷ ticks) low number are grown last = grown.1 ∙ ap (version_by first edits t.version.edits) are.0.number

  no_fewer_first : (ticks : List TickData) (low : ℕ) → AreGrown first edits low ticks v.edits → low ≤ (first_of ticks v).edits
  no_fewer_first [] low grown = grown
  no_fewer_first (t ∷ ticks) low grown = grown.0

  no_more_first : (ticks : List TickData) (low : ℕ) → AreGrown first edits low ticks v.edits → (first_of ticks v).edits ≤ v.edits
  no_more_first [] low grown = omega arith
  no_more_first (t ∷ ticks) low grown = no_fewer first edits t.version.edits ticks v.edits grown.2

length_renewed : (v : Version) (sectors : List SectorData) (cells : List SectorCells) → length (all_renewed v sectors cells) ≡ length sectors
length_renewed v [] cells = refl
length_renewed v (s ∷ sectors) [] = ap suc (length_renewed v sectors [])
length_renewed v (s ∷ sectors) (c ∷ cells) = ap suc (length_renewed v sectors cells)

length_filled : (sectors : List SectorData) (windows : List (List EntryData)) → length (filled_all sectors windows) ≡ length sectors
length_filled [] windows = refl
length_filled (s ∷ sectors) [] = refl
length_filled (s ∷ sectors) (window ∷ windows) = ap suc (length_filled sectors windows)

renewed_empty : (v : Version) (s : SectorData) (cells : SectorCells) → (renewed_over v s cells).entries ≡ []
unfolding renewed
renewed_empty v s cells = refl

-- the entries of a sector, with those of the tick before
one_tick_more : (k : ℕ) (t : TickData) (ticks : List TickData) (windows : List (List EntryData))
    → length (entries_at k (t ∷ ticks) windows) ≡ length (get_or t.windows k []) + length (entries_at k ticks windows)
one_tick_more k t ticks windows =
    ap length (append_assoc (window_at k t) (closed_at k ticks) (unwrap_or (slice_get windows k) []))
    ∙ length-append (window_at k t) (entries_at k ticks windows)
    ∙ ap (λ window. length window + length (entries_at k ticks windows)) (unwrap_or-slice_get t.windows k [])

module _ (o : OpeningData) (r : OutcomeData) (is : IsByTheRules o r) (fits : HasRoom r.ticks r.accepted r.windows) (n : ℕ) (some : 0 < n) where
  -- one tick
  module _ (play : PlayData) (t : TickData) (ticks before : List TickData) (st : Stands o r n play (t ∷ ticks)) where
    -- the world as the tick begins: its windows recorded, and the edits accepted that the next version counts
    abbrev filled_play : PlayData
    filled_play = record play { sectors = filled_all play.sectors t.windows }

    abbrev ready_play : PlayData
    ready_play = with_edits filled_play (take (first_of ticks r.version).edits r.accepted)

    judged : AllByRecursion (λ (s : SectorData). s.version ≡ play.version) play.sectors
    judged = recursion_from_All (λ (s : SectorData). s.version ≡ play.version) play.sectors st.judged

    empty : AllByRecursion (λ (s : SectorData). s.entries ≡ []) play.sectors
    empty = recursion_from_All (λ (s : SectorData). s.entries ≡ []) play.sectors st.empty

    ready : AreReady play.names play.sectors t.windows
    ready =
        are_ready play.names play.version play.sectors t.windows judged empty
        (subst (λ names. AreWindows names play.version.policy (map cells_of play.sectors) t.windows) (sym st.names)
        (subst (λ (u : Version). AreWindows o.names u.policy (map cells_of play.sectors) t.windows) (sym st.version) st.run.0.windows))
        (λ k within. omega (
          arith,
          st.room k (omega (arith, within, length-map play.sectors closed_of)),
          one_tick_more k t ticks r.windows,
          ap length (unwrap_or-slice_get t.windows k []),
        ))

    acts : Leads (home n play before) (home n filled_play before) × IsWorld filled_play
    acts = by_windows n play before t.windows st.world st.count ready

    edits : Leads (home n filled_play before) (home n ready_play before)
    edits =
        next_edits o r.accepted is.accepted fits.edit_room n filled_play before st.first play.version.edits (first_of ticks r.version).edits
        (omega (arith, ap (λ (u : Version). u.edits) st.version, no_fewer_first o.policy r.accepted o.names r.version ticks t.version.edits st.grown.2))
        (omega (arith, is.within, no_more_first o.policy r.accepted o.names r.version ticks t.version.edits st.grown.2))
        st.accepted

    map_ready : map_of ready_play ≡ map_acted (map_of play) t
    map_ready = ap (λ cs. record { sizes = play.sizes; sectors = cs }) (cells_filled play.sectors t.windows)

    recorded_next : next_tick ready_play ≡ t
    recorded_next = λ i. record {
      number = sym st.run.0.number i;
      version = st.version i;
      windows = entries_filled play.names play.sectors t.windows empty ready i;
      fates = ((λ j. fates_on (st.version j).policy (map_ready j)) ∙ sym st.run.0.fates) i;
    }

    ticks_more : play.ticks < most_ticks
    ticks_more = omega (arith, st.few)

    led : Leads (home n play before) (home n (ticked ready_play) (before ++ t ∷ []))
    led =
        let tick = by_tick ready_play before n some ticks_more in
        and_on _ _ _ acts.0
        (and_on _ _ _ edits (tick.0, tick.1 ∙ ap (λ u. home n (ticked ready_play) (before ++ u ∷ [])) recorded_next))

    map_next : map_of (ticked ready_play) ≡ stepped t.version.policy (map_acted (map_of play) t)
    map_next = map_ticked ready_play acts.1 ∙ (λ i. stepped (st.version i).policy (map_ready i))

    fixed : next_version ready_play ≡ first_of ticks r.version
    fixed =
        fixed_by ready_play o.policy r.accepted (first_of ticks r.version) (play.ticks + 1 + 1) st.first refl
        (omega (arith, is.within, no_more_first o.policy r.accepted o.names r.version ticks t.version.edits st.grown.2))
        (first_by o.policy r.accepted o.names r.version _ ticks t.version.edits (play.ticks + 1 + 1) st.run.1 st.grown.2
        (subst (λ k. r.version ≡ version_by o.policy r.accepted r.version.edits k) (omega arith) st.last))
        (omega arith)

    counts_next : map closed_of (ticked ready_play).sectors ≡ next_counts (map closed_of play.sectors) t.windows
    counts_next =
        counts_agree_again (next_version ready_play) (filled_all play.sectors t.windows) (next_map ready_play).sectors
        ∙ counts_filled play.sectors t.windows empty

    room_next : HaveRoom (next_counts (map closed_of play.sectors) t.windows) ticks r.windows
    room_next k within =
        let here : k < length (map closed_of play.sectors) = omega (arith, within, length_next (map closed_of play.sectors) t.windows) in
        omega (arith, st.room k here, one_tick_more k t ticks r.windows, next_at (map closed_of play.sectors) t.windows k here)

    stands_next : Stands o r n (ticked ready_play) ticks
    stands_next = record {
      world = ticks_keep_worlds ready_play acts.1;
      count = length_renewed (next_version ready_play) (filled_all play.sectors t.windows) (next_map ready_play).sectors
          ∙ length_filled play.sectors t.windows ∙ st.count;
      names = st.names;
      first = st.first;
      version = fixed;
      judged = all_bring (next_version ready_play) (λ s. Unit {0}) (λ s. s.version ≡ next_version ready_play)
          (λ s cells known. renewed_version (next_version ready_play) s cells) ready_play.sectors (next_map ready_play).sectors (λ k d within. tt);
      empty = all_bring (next_version ready_play) (λ s. Unit {0}) (λ s. s.entries ≡ [])
          (λ s cells known. renewed_empty (next_version ready_play) s cells) ready_play.sectors (next_map ready_play).sectors (λ k d within. tt);
      accepted = ap (λ (u : Version). take u.edits r.accepted) (sym fixed);
      run = subst (λ m. AreTicks o.names m (play.ticks + 1 + 1) ticks) (sym map_next) st.run.1;
      pending = subst (λ m. AreWindows o.names r.version.policy (map_after m ticks).sectors r.windows) (sym map_next) st.pending;
      low = t.version.edits;
      grown = st.grown.2;
      last = subst (λ k. r.version ≡ version_by o.policy r.accepted r.version.edits k) (omega arith) st.last;
      room = subst (λ counts. HaveRoom counts ticks r.windows) (sym counts_next) room_next;
      few = omega (arith, st.few);
    }

  -- what stands in the end
  record Ends (play : PlayData) : Type 0 where
    accepted : play.accepted ≡ r.accepted
    version : play.version ≡ r.version
    windows : map entries_of play.sectors ≡ r.windows

  -- the open windows, and the edits that no version counts yet
  module _ (play : PlayData) (before : List TickData) (st : Stands o r n play []) where
    last_empty : AllByRecursion (λ (s : SectorData). s.entries ≡ []) play.sectors
    last_empty = recursion_from_All (λ (s : SectorData). s.entries ≡ []) play.sectors st.empty

    last_ready : AreReady play.names play.sectors r.windows
    last_ready =
        are_ready play.names play.version play.sectors r.windows
        (recursion_from_All (λ (s : SectorData). s.version ≡ play.version) play.sectors st.judged) last_empty
        (subst (λ names. AreWindows names play.version.policy (map cells_of play.sectors) r.windows) (sym st.names)
        (subst (λ (u : Version). AreWindows o.names u.policy (map cells_of play.sectors) r.windows) (sym st.version) st.pending))
        (λ k within. st.room k (omega (arith, within, length-map play.sectors closed_of)))

    abbrev last_play : PlayData
    last_play = with_edits (record play { sectors = filled_all play.sectors r.windows }) (take (length r.accepted) r.accepted)

    led_last : Leads (home n play before) (home n last_play before)
    led_last =
        let acts = by_windows n play before r.windows st.world st.count last_ready in
        let edits = next_edits o r.accepted is.accepted fits.edit_room n (record play { sectors = filled_all play.sectors r.windows }) before st.first
        play.version.edits (length r.accepted) (omega (arith, is.within, ap (λ (u : Version). u.edits) st.version)) (omega arith) st.accepted in
        and_on _ _ _ acts.0 edits

    ends_last : Ends last_play
    ends_last = record {
      accepted = take_all (length r.accepted) r.accepted (omega arith);
      version = st.version;
      windows = entries_filled play.names play.sectors r.windows last_empty last_ready;
    }

  -- all further ticks
  all_led : (ticks before : List TickData) (play : PlayData) → Stands o r n play ticks
      → (last : PlayData) × Leads (home n play before) (home n last (before ++ ticks)) × Ends last
  all_led [] before play st = (
    last_play play before st,
    subst (λ ts. Leads (home n play before) (home n (last_play play before st) ts)) (sym (append-nil before)) (led_last play before st),
    ends_last play before st,
  )
  all_led (t ∷ ticks) before play st =
      let rest = all_led ticks (before ++ t ∷ []) (ticked (ready_play play t ticks before st)) (stands_next play t ticks before st) in (
        rest.0,
        and_on _ _ _ (led play t ticks before st)
            (subst (λ ts. Leads (home n (ticked (ready_play play t ticks before st)) (before ++ t ∷ [])) (home n rest.0 ts)) (append_assoc before (t ∷ []) ticks) rest.1),
        rest.2,
      )

-- a world has a sector
some_sector : (m : MapData) → IsMap m → 0 < length m.sectors
some_sector m whole =
    let least : 1 * 1 ≤ m.sizes.sx * m.sizes.sz = mul-le 1 1 m.sizes.sx m.sizes.sz whole.valid.sx_least whole.valid.sz_least in
    omega (arith, least, whole.all)

first_begins : (policy : Regions) (ticks : List TickData) (v : Version) → BeginsBy policy ticks → (ticks ≡ [] → v ≡ first_version policy)
    → first_of ticks v ≡ first_version policy
first_begins policy [] v begins none = none refl
first_begins policy (t ∷ ticks) v begins none = begins

-- as the world opens, all ticks stand before it
module _ (o : OpeningData) (r : OutcomeData) (whole : IsMap o.terrain) (is : IsByTheRules o r) (fits : HasRoom r.ticks r.accepted r.windows) where
  abbrev opened_play : PlayData
  opened_play = opened o.policy o.terrain o.names

  same_map : map_of opened_play ≡ o.terrain
  same_map = ap (λ cs. record { sizes = o.terrain.sizes; sectors = cs }) (cells_opened (first_version o.policy) o.terrain.sectors)

  stands_first : Stands o r (length o.terrain.sectors) opened_play r.ticks
  stands_first = record {
    world = worlds_begin_whole o.policy o.terrain o.names whole;
    count = length-map o.terrain.sectors (opened_with o.policy);
    names = refl;
    first = refl;
    version = sym (first_begins o.policy r.ticks r.version is.run.first is.begins);
    judged = All-map (λ (s : SectorData). s.version ≡ first_version o.policy) (opened_with o.policy) o.terrain.sectors (λ k d within. refl);
    empty = All-map (λ (s : SectorData). s.entries ≡ []) (opened_with o.policy) o.terrain.sectors (λ k d within. refl);
    accepted = refl;
    run = subst (λ m. AreTicks o.names m 1 r.ticks) (sym same_map) is.run.ticks;
    pending = subst (λ m. AreWindows o.names r.version.policy (map_after m r.ticks).sectors r.windows) (sym same_map) is.pending;
    low = 0;
    grown = is.grown;
    last = subst (λ k. r.version ≡ version_by o.policy r.accepted r.version.edits k) (omega arith) is.last;
    room = λ k within. omega (arith, none_closed o.policy o.terrain.sectors k, fits.entry_room k);
    few = omega (arith, fits.tick_room);
  }

  reached : (events : List Happening) × (outcome (run o events) ≡ r) × AreHome (run o events).stages
  reached =
      let n = length o.terrain.sectors in
      let all = all_led o r is fits n (some_sector o.terrain whole) r.ticks [] opened_play stands_first in
      let led : (run o all.1.0) ≡ home n all.0 r.ticks = all.1.1 in (
        all.1.0,
        ap outcome led ∙ (λ i. record { ticks = r.ticks; accepted = all.2.accepted i; version = all.2.version i; windows = all.2.windows i }),
        subst (λ (m : MachineData). AreHome m.stages) (sym led) (All-replicate (λ stage. stage ≡ Home) n Home refl),
      )

pub by_the_rules_is_reached : ByTheRulesIsReached
by_the_rules_is_reached o r whole reachable = reached o r whole reachable.0 reachable.1

-- windows in which nothing is recorded
abbrev nothing_in : SectorCells → List EntryData
nothing_in c = []

none_recorded : (names : List (List ℕ)) (policy : Regions) (cs : List SectorCells) → AreWindows names policy cs (map nothing_in cs)
none_recorded names policy [] = tt
none_recorded names policy (c ∷ cs) = (tt, All-nil _, none_recorded names policy cs)

none_there : (cs : List SectorCells) (k : ℕ) → length (unwrap_or (slice_get (map nothing_in cs) k) []) ≡ 0
none_there [] k = refl
none_there (c ∷ cs) zero = refl
none_there (c ∷ cs) (suc k) = none_there cs k

-- the version behind all ticks that counts all edits; where there is no tick, the first
module _ (policy : Regions) (edits : List Asked) where
  abbrev last_version : List TickData → Version
  last_version [] = first_version policy
  last_version (t ∷ ticks) = version_by policy edits (length edits) (length (t ∷ ticks) + 1)

  last_begins : (ticks : List TickData) → ticks ≡ [] → last_version ticks ≡ first_version policy
  last_begins [] none = refl
  last_begins (t ∷ ticks) none = cc

  last_grown : (ticks : List TickData) → AreGrown policy edits 0 ticks (length edits) → AreGrown policy edits 0 ticks (last_version ticks).edits
  last_grown [] grown = omega arith
  last_grown (t ∷ ticks) grown = grown

  last_by : (ticks : List TickData) → last_version ticks ≡ version_by policy edits (last_version ticks).edits (length ticks + 1)
  last_by [] = refl
  last_by (t ∷ ticks) = refl

  last_within : (ticks : List TickData) → (last_version ticks).edits ≤ length edits
  last_within [] = omega arith
  last_within (t ∷ ticks) = omega arith

module _ (c : ChronicleData) (edits : List Asked) (is : IsRun c) (accepted : AreAccepted c.opening.policy edits)
    (grown : AreGrown c.opening.policy edits 0 c.ticks (length edits)) (fits : HasRoom c.ticks edits []) where
  -- what stands behind the chronicle, with nothing recorded yet
  abbrev behind : OutcomeData
  behind = record {
    ticks = c.ticks;
    accepted = edits;
    version = last_version c.opening.policy edits c.ticks;
    windows = map nothing_in (map_after c.opening.terrain c.ticks).sectors;
  }

  behind_is : IsByTheRules c.opening behind
  behind_is = record {
    run = is;
    pending = none_recorded c.opening.names (last_version c.opening.policy edits c.ticks).policy (map_after c.opening.terrain c.ticks).sectors;
    accepted = accepted;
    begins = last_begins c.opening.policy edits c.ticks;
    grown = last_grown c.opening.policy edits c.ticks grown;
    last = last_by c.opening.policy edits c.ticks;
    within = last_within c.opening.policy edits c.ticks;
  }

  behind_fits : HasRoom c.ticks edits (map nothing_in (map_after c.opening.terrain c.ticks).sectors)
  behind_fits = record {
    tick_room = fits.tick_room;
    edit_room = fits.edit_room;
    entry_room = λ k.
        let cs = (map_after c.opening.terrain c.ticks).sectors in
        omega (
          arith,
          fits.entry_room k,
          none_there cs k,
          length-append (closed_at k c.ticks) [],
          length-append (closed_at k c.ticks) (unwrap_or (slice_get (map nothing_in cs) k) []),
        );
  }

pub runs_are_reached : RunsAreReached
runs_are_reached c edits whole is accepted grown fits =
    let all = reached c.opening (behind c edits is accepted grown fits) whole (behind_is c edits is accepted grown fits) (behind_fits c edits is accepted grown fits) in (
      all.0,
      ap (λ (r : OutcomeData). record { opening = c.opening; ticks = r.ticks }) all.1,
      ap (λ (r : OutcomeData). r.accepted) all.1,
    )

pub outcomes_are_by_the_rules : OutcomesAreByTheRules
outcomes_are_by_the_rules o events whole =
    let v = versions_grow o events whole in (
      record {
        run = is_always_a_run o events whole;
        pending = (windows_are_open o events whole).windows;
        accepted = v.accepted;
        begins = λ none. subst (λ ts. first_of ts (run o events).play.version ≡ first_version o.policy) none v.first;
        grown = v.ticks;
        last = v.next;
        within = v.within;
      },
      has_room o events whole,
    )
