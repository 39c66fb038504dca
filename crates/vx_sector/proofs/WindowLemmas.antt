-- One more entry at the end of a window.
use Rattle.std.proofs.Common.{◌≡◌, ℕ, ◌<◌, ◌≤◌, ◌⊎◌, true, Result, Err, List, [], ◌∷◌, ◌++◌, length-append, refl, ap, sym, subst, arith, ◌∙◌, inl, inr}
use Rattle.std.proofs.lemmas.Bool.{cases_Bool}
use Rattle.vx_cells.specs.SectorCells.{SectorCells, holds}
use Rattle.vx_region.specs.Regions.{Regions}
use Rattle.vx_sector.specs.SectorData.{SectorData, SeatData, EntryData, FreshData, WindowData, IsFresh, fresh_of, sector_of}
use Rattle.vx_sector.specs.Commands.{place_of}
use Rattle.vx_sector.specs.Acting.{rules_answer, cells_by}
use Rattle.vx_sector.specs.Windows.{cells_after, IsWindow, IsSector, most_entries, count_of, is_full, answer_of, is_recorded, recorded, renewed, sector_after, window_after}
use Rattle.vx_sector.specs.declared.cmd.Cmd.{Cmd}
use Rattle.vx_sector.specs.declared.reply.Reply.{Reply}
use Rattle.vx_sector.specs.declared.refusal.Refusal.{Refusal}
use Rattle.vx_sector.specs.declared.refusal.Refusal.TheVariants.{NoMemory}
use Rattle.vx_sector.proofs.Outside.{elsewhere_is_refused, full_is_refused, answered_by_the_rules, after_answer, lost, room_where_not_full}

-- the entry has the answer that the rules give on the cells
abbrev pub IsNext : Regions → SectorCells → EntryData → Type 0
IsNext regions c entry = (holds c (place_of entry.cmd) ≡ true) × (entry.answer ≡ rules_answer regions c entry.seat entry.cmd)

pub cells_after_push : (c : SectorCells) (entries : List EntryData) (entry : EntryData) → cells_after c (entries ++ entry ∷ []) ≡ cells_by (cells_after c entries) entry.cmd entry.answer
cells_after_push c [] entry = refl
cells_after_push c (first ∷ entries) entry = cells_after_push (cells_by c first.cmd first.answer) entries entry

pub window_push : (regions : Regions) (c : SectorCells) (entries : List EntryData) (entry : EntryData)
    → IsWindow regions c entries → IsNext regions (cells_after c entries) entry → IsWindow regions c (entries ++ entry ∷ [])
window_push regions c [] entry window next = (next.0, next.1, tt)
window_push regions c (first ∷ entries) entry window next =
    (window.0, window.1, window_push regions (cells_by c first.cmd first.answer) entries entry window.2 next)

-- what a command and its answer leave is a sector, if the answer is the one that the rules give and there is room
pub sector_recorded : (s : SectorData) (entry : EntryData) → IsSector s → IsNext s.version.policy s.cells entry → count_of s < most_entries
    → IsSector (recorded s entry)
sector_recorded s entry sector next room = record {
  window = window_push s.version.policy s.base s.entries entry sector.window (subst (λ c. IsNext s.version.policy c entry) sector.cells next);
  cells = ap (λ c. cells_by c entry.cmd entry.answer) sector.cells ∙ sym (cells_after_push s.base s.entries entry);
  most = omega (arith, length-append s.entries (entry ∷ []));
}

-- what a command leaves is a sector too, where there was room for it, and where it was answered by the rules or memory was wanting
pub answered_keeps_sector : (s : SectorData) (seat : SeatData) (cmd : Cmd) (answer : Result Reply Refusal) → IsSector s
    → holds s.cells (place_of cmd) ≡ true → count_of s < most_entries
    → (answer ≡ rules_answer s.version.policy s.cells seat cmd) ⊎ (answer ≡ Err NoMemory) → IsSector (sector_after s seat cmd answer)
answered_keeps_sector s seat cmd answer sector held room said = elim said [
  | inl same ↦ subst IsSector (after_answer s seat cmd answer same)
      (sector_recorded s (record { seat = seat; cmd = cmd; answer = answer }) sector (held, same) room)
  | inr none ↦ subst IsSector (lost s seat cmd answer none) sector
]

-- a sector follows its window
pub window_leads : (w : WindowData) (closed : ℕ) (seat : SeatData) (cmd : Cmd) (answer : Result Reply Refusal)
    → sector_of (window_after w seat cmd answer) closed ≡ sector_after (sector_of w closed) seat cmd answer
unfolding sector_after
window_leads w closed seat cmd answer = elim (cases_Bool (is_recorded answer)) [
  | inl kept ↦ rw kept refl
  | inr untold ↦ rw untold refl
]

-- what a command leaves is a sector
pub command_keeps_sector : (s : SectorData) (seat : SeatData) (cmd : Cmd) → IsSector s → IsSector (sector_after s seat cmd (answer_of s seat cmd))
unfolding sector_after
command_keeps_sector s seat cmd sector = elim (cases_Bool (holds s.cells (place_of cmd))) [
  | inr other ↦ rw (elsewhere_is_refused s seat cmd other) sector
  | inl held ↦ elim (cases_Bool (is_full s)) [
    | inl full ↦ rw (full_is_refused s seat cmd held full) sector
    | inr free ↦ rw (← answered_by_the_rules s seat cmd held free) (subst IsSector (after_answer s seat cmd _ refl)
        (sector_recorded s (record { seat = seat; cmd = cmd; answer = rules_answer s.version.policy s.cells seat cmd }) sector (held, refl) (room_where_not_full s free)))
  ]
]

-- a sector whose window has no entry yet
pub begun : (window : WindowData) (closed : ℕ) → IsFresh window → closed ≤ most_entries → IsSector (sector_of window closed)
begun window closed fresh most = subst (λ entries. IsSector (sector_of (record window { entries = entries }) closed)) (sym fresh.none) (record {
  window = tt;
  cells = sym fresh.same;
  most = omega (arith, most);
})

-- and it is the next window of a sector that had so many entries
pub is_renewed : (window : WindowData) (closed : ℕ) (old : SectorData) (fresh : FreshData) → IsFresh window → fresh_of window ≡ fresh → closed ≡ count_of old
    → sector_of window closed ≡ renewed old fresh
unfolding renewed
is_renewed window closed old fresh begins view count = λ i. record {
  base = (begins.same ∙ ap (λ (f : FreshData). f.cells) view) i;
  cells = (view i).cells;
  version = (view i).version;
  entries = begins.none i;
  closed = count i;
}
