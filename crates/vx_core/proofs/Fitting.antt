-- What stands after every list of events has room: there are limits to ticks, edits and entries.
use Rattle.std.proofs.Common.{◌≡◌, ℕ, zero, suc, ◌<◌, ◌≤◌, true, List, [], ◌∷◌, ◌++◌, length, map, get_or, slice_get, Option, Some, None, option_map, refl, sym, ap, ◌∙◌, subst, inl, inr, arith, length-append}
use Rattle.std.specs.List.{All}
use Rattle.std.specs.Option.{is_none, unwrap_or}
use Rattle.std.proofs.lemmas.Bool.{cases_Bool, cases_lt, and_parts, ltb-true}
use Rattle.std.proofs.lemmas.List.{length-map, length_push}
use Rattle.std.proofs.lemmas.Option.{get_or_from_slice_get, slice_get-map, slice_get_past}
use Rattle.vx_base.proofs.Lists.{item_there}
use Rattle.vx_board.specs.Accepted.{most_edits}
use Rattle.vx_cells.specs.SectorCells.{SectorCells}
use Rattle.vx_cells.specs.Wholes.{IsMap}
use Rattle.vx_policy.specs.Refusals.{refusal}
use Rattle.vx_region.specs.Regions.{Regions}
use Rattle.vx_sector.specs.SectorData.{SectorData, SeatData}
use Rattle.vx_sector.specs.Windows.{IsSector, count_of, most_entries}
use Rattle.vx_sector.specs.declared.cmd.Cmd.{Cmd}
use Rattle.vx_windows.specs.Limits.{most_ticks}
use Rattle.vx_windows.specs.Sectors.{entries_of, opened_with}
use Rattle.vx_windows.proofs.Sparing.{of_found}
use Rattle.vx_play.specs.Plays.{PlayData, next_map, next_version, policy_of, seat_at, ticked}
use Rattle.vx_play.specs.Games.{Command, after_step}
use Rattle.vx_play.proofs.Playing.{command_leaves}
use Rattle.vx_record.specs.Archives.{IsCounted, closed_of, next_counts}
use Rattle.vx_record.specs.Chronicles.{TickData}
use Rattle.vx_record.specs.Openings.{OpeningData}
use Rattle.vx_record.specs.Said.{closed_at, window_at}
use Rattle.vx_record.proofs.Counting.{counted_more, counts_agree_again, counts_go_on, length_next}
use Rattle.vx_record.proofs.Fronts.{closed_more}
use Rattle.vx_core.specs.Events.{Happening, Acts, Edits, Takes, Works, Fixes, Puts}
use Rattle.vx_core.specs.Machines.{MachineData, acted, after_event, after_events, begun, done, is_enabled, next_tick, run}
use Rattle.vx_core.specs.Outcomes.{HasRoom, entries_at}
use Rattle.vx_core.proofs.Soundness.{holds}

-- what keeps room in a world at play with these ticks
record Fits (play : PlayData) (ticks : List TickData) : Type 0 where
  few : play.ticks ≤ most_ticks
  edits : length play.accepted ≤ most_edits
  counted : IsCounted (map closed_of play.sectors) ticks
  beyond : (k : ℕ) → length (map closed_of play.sectors) ≤ k → closed_at k ticks ≡ []

pub none_closed : (rs : Regions) (cs : List SectorCells) (k : ℕ) → get_or (map closed_of (map (opened_with rs) cs)) k 0 ≡ 0
none_closed rs [] k = refl
none_closed rs (c ∷ cs) zero = refl
none_closed rs (c ∷ cs) (suc k) = none_closed rs cs k

begins : (o : OpeningData) → Fits (begun o).play []
begins o = record {
  few = omega arith;
  edits = omega arith;
  counted = λ k within. none_closed o.policy o.terrain.sectors k;
  beyond = λ k past. refl;
}

-- no count has changed after a command
after_command : (play : PlayData) (ticks : List TickData) (seat : SeatData) (cmd : Cmd) → Fits play ticks
    → Fits (after_step play (Command seat cmd)) ticks
after_command play ticks seat cmd f =
    let same : map closed_of (after_step play (Command seat cmd)).sectors ≡ map closed_of play.sectors =
    command_leaves closed_of (λ s entry. refl) play seat cmd in
    record {
      few = f.few;
      edits = f.edits;
      counted = subst (λ counts. IsCounted counts ticks) (sym same) f.counted;
      beyond = subst (λ (counts : List ℕ). (k : ℕ) → length counts ≤ k → closed_at k ticks ≡ []) (sym same) f.beyond;
    }

none_past : (sectors : List SectorData) (k : ℕ) → length sectors ≤ k → unwrap_or (slice_get (map entries_of sectors) k) [] ≡ []
none_past sectors k past =
    ap (λ o. unwrap_or o []) (slice_get_past (map entries_of sectors) k (omega (arith, past, length-map sectors entries_of)))

-- the windows of a tick are counted
after_tick : (play : PlayData) (ticks : List TickData) → play.ticks < most_ticks → Fits play ticks
    → Fits (ticked play) (ticks ++ next_tick play ∷ [])
after_tick play ticks more f =
    let counts = map closed_of play.sectors in
    let same : map closed_of (ticked play).sectors ≡ next_counts counts (map entries_of play.sectors) =
    counts_agree_again (next_version play) play.sectors (next_map play).sectors ∙ sym (counts_go_on play.sectors) in
    let many : length (map closed_of (ticked play).sectors) ≡ length counts = ap length same ∙ length_next counts (map entries_of play.sectors) in
    record {
      few = omega (arith, more);
      edits = f.edits;
      counted = subst (λ cs. IsCounted cs (ticks ++ next_tick play ∷ [])) (sym same) (counted_more counts ticks (next_tick play) f.counted);
      beyond = λ k past.
          let closed : closed_at k ticks ≡ [] = f.beyond k (omega (arith, past, many)) in
          let window : window_at k (next_tick play) ≡ [] = none_past play.sectors k (omega (arith, past, many, length-map play.sectors closed_of)) in
          closed_more k ticks (next_tick play) ∙ (λ i. closed i ++ window i);
    }

still_fits : (m : MachineData) (event : Happening) → Fits m.play m.ticks
    → Fits (after_event m event).play (after_event m event).ticks
unfolding after_event
still_fits m event f = elim (cases_Bool (is_enabled m event)) [
  | inl enabled ↦ rw enabled (does event enabled)
  | inr none ↦ rw none f
]
  where
    by_seat : (cmd : Cmd) (seat : Option SeatData) → Fits (acted m cmd seat).play (acted m cmd seat).ticks
    by_seat cmd None = f
    by_seat cmd (Some seat) = after_command m.play m.ticks seat cmd f

    does : (event : Happening) → is_enabled m event ≡ true → Fits (done m event).play (done m event).ticks
    does (Acts number cmd) enabled = by_seat cmd (seat_at m.play number)
    does (Edits e) enabled =
        let room = ltb-true (length m.play.accepted) most_edits (and_parts (is_none (refusal (policy_of m.play) e)) _ enabled).1 in
        let many : length (m.play.accepted ++ e ∷ []) ≤ most_edits = omega (arith, room, length_push m.play.accepted e) in
        record { few = f.few; edits = many; counted = f.counted; beyond = f.beyond }
    does (Takes k) enabled = f
    does (Works phase k) enabled = f
    does Fixes enabled = after_tick m.play m.ticks (ltb-true m.play.ticks most_ticks (and_parts _ _ enabled).1) f
    does (Puts k) enabled = f

always : (m : MachineData) (events : List Happening) → Fits m.play m.ticks
    → Fits (after_events m events).play (after_events m events).ticks
always m [] f = f
always m (event ∷ events) f = always (after_event m event) events (still_fits m event f)

-- each sector has recorded its entries
pub has_room : (o : OpeningData) (events : List Happening) → IsMap o.terrain
    → HasRoom (run o events).ticks (run o events).play.accepted (map entries_of (run o events).play.sectors)
has_room o events whole =
    let f = always (begun o) events (begins o) in
    let h = holds o events whole in
    record {
      tick_room = omega (arith, f.few, h.counted);
      edit_room = f.edits;
      entry_room = λ k. each (run o events).play (run o events).ticks f h.sectors k;
    }
  where
    each : (play : PlayData) (ticks : List TickData) → Fits play ticks → All IsSector play.sectors → (k : ℕ)
        → length (entries_at k ticks (map entries_of play.sectors)) ≤ most_entries
    each play ticks f sound k = elim (cases_lt k (length play.sectors)) [
      | inl within ↦
          let found = item_there play.sectors k within in
          let s = found.0 in
          let open_entries : unwrap_or (slice_get (map entries_of play.sectors) k) [] ≡ s.entries =
          ap (λ o. unwrap_or o []) (slice_get-map entries_of play.sectors k ∙ ap (option_map entries_of) found.1) in
          let closed : get_or (map closed_of play.sectors) k 0 ≡ s.closed =
          get_or_from_slice_get (map closed_of play.sectors) k s.closed 0 (slice_get-map closed_of play.sectors k ∙ ap (option_map closed_of) found.1) in
          let most : count_of s ≤ most_entries = (of_found IsSector play.sectors k s sound found.1).most in
          omega (
            arith,
            most,
            closed,
            f.counted k (omega (arith, within, length-map play.sectors closed_of)),
            ap length open_entries,
            length-append (closed_at k ticks) (unwrap_or (slice_get (map entries_of play.sectors) k) []),
          )
      | inr past ↦
          omega (
            arith,
            ap length (f.beyond k (omega (arith, past, length-map play.sectors closed_of))),
            ap length (none_past play.sectors k past),
            length-append (closed_at k ticks) (unwrap_or (slice_get (map entries_of play.sectors) k) []),
          )
    ]
