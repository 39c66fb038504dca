-- Which commands are out of the world.
use Rattle.std.proofs.Common.{◌≡◌, ◌≢◌, ◌<◌, ◌⊎◌, ◌↔◌, Bool, true, false, not, if◌then◌else◌, Result, Err, refl, ap, sym, subst, ◌∙◌, inl, inr}
use Rattle.std.proofs.lemmas.Bool.{cases_Bool, leb-false}
use Rattle.vx_cells.specs.SectorCells.{SectorCells, holds}
use Rattle.vx_region.specs.Regions.{Regions}
use Rattle.vx_sector.specs.SectorData.{SectorData, SeatData}
use Rattle.vx_sector.specs.Commands.{place_of}
use Rattle.vx_sector.specs.Acting.{rules_answer}
use Rattle.vx_sector.specs.Windows.{answer_of, is_full, leaves_trace, is_recorded, recorded, sector_after, count_of, most_entries}
use Rattle.vx_sector.specs.Laws.{OutsideIsRefused}
use Rattle.vx_sector.specs.declared.cmd.Cmd.{Cmd}
use Rattle.vx_sector.specs.declared.reply.Reply.{Reply}
use Rattle.vx_sector.specs.declared.refusal.Refusal.{Refusal}
use Rattle.vx_sector.specs.declared.refusal.Refusal.TheVariants.{OutOfWorld, HistoryFull, NoMemory}
use Rattle.vx_sector.proofs.ActingLemmas.{answer_recorded}

recorded_inside : (held full : Bool) (answer : Result Reply Refusal) → held ≡ true → is_recorded answer ≡ true
    → (if not held then Err OutOfWorld else if full then Err HistoryFull else answer) ≢ Err OutOfWorld
recorded_inside true true answer is_held kept same = cc
recorded_inside true false answer is_held kept same =
    let no_trace : false ≡ true = subst (λ a. is_recorded a ≡ true) same kept in cc
recorded_inside false full answer is_held kept same = cc

-- a position of the sector is not out of the world
pub inside_is_not_refused : (s : SectorData) (seat : SeatData) (cmd : Cmd) → holds s.cells (place_of cmd) ≡ true → answer_of s seat cmd ≢ Err OutOfWorld
unfolding answer_of
inside_is_not_refused s seat cmd held same = recorded_inside _ (is_full s) _ held (answer_recorded s.version.policy s.cells seat cmd) same

-- a position elsewhere is
pub elsewhere_is_refused : (s : SectorData) (seat : SeatData) (cmd : Cmd) → holds s.cells (place_of cmd) ≡ false → answer_of s seat cmd ≡ Err OutOfWorld
unfolding answer_of
elsewhere_is_refused s seat cmd other = rw other refl

pub outside_is_refused : OutsideIsRefused
outside_is_refused s seat cmd = (not_held, elsewhere_is_refused s seat cmd)
  where
    not_held : answer_of s seat cmd ≡ Err OutOfWorld → holds s.cells (place_of cmd) ≡ false
    not_held same = elim (cases_Bool (holds s.cells (place_of cmd))) [ inl held ↦ absurd (inside_is_not_refused s seat cmd held same) | inr other ↦ other ]

-- where the record is not full, there is room in it
pub room_where_not_full : (s : SectorData) → is_full s ≡ false → count_of s < most_entries
unfolding is_full
room_where_not_full s free = leb-false most_entries (count_of s) free

-- a command at a position of the sector finds no room where the record is full
pub full_is_refused : (s : SectorData) (seat : SeatData) (cmd : Cmd) → holds s.cells (place_of cmd) ≡ true → is_full s ≡ true → answer_of s seat cmd ≡ Err HistoryFull
unfolding answer_of
full_is_refused s seat cmd held full = rw (held, full) refl

-- and is answered by the rules where there is room
pub answered_by_the_rules : (s : SectorData) (seat : SeatData) (cmd : Cmd) → holds s.cells (place_of cmd) ≡ true → is_full s ≡ false
    → rules_answer s.version.policy s.cells seat cmd ≡ answer_of s seat cmd
unfolding answer_of
answered_by_the_rules s seat cmd held free = rw (held, free) refl

-- the rules answer nothing that leaves no trace
pub not_answered : (regions : Regions) (c : SectorCells) (seat : SeatData) (cmd : Cmd) (answer : Result Reply Refusal) (refusal : Refusal) → answer ≡ rules_answer regions c seat cmd
    → leaves_trace refusal ≡ false → answer ≢ Err refusal
not_answered regions c seat cmd answer refusal acts no_trace same =
    let kept : is_recorded answer ≡ true = rw acts (answer_recorded regions c seat cmd) in
    let lost : leaves_trace refusal ≡ true = subst (λ a. is_recorded a ≡ true) same kept in cc

-- so each of its answers is recorded
pub after_answer : (s : SectorData) (seat : SeatData) (cmd : Cmd) (answer : Result Reply Refusal) → answer ≡ rules_answer s.version.policy s.cells seat cmd
    → recorded s (record { seat = seat; cmd = cmd; answer = answer }) ≡ sector_after s seat cmd answer
unfolding sector_after
after_answer s seat cmd answer acts =
    let kept : is_recorded answer ≡ true = rw acts (answer_recorded s.version.policy s.cells seat cmd) in rw kept refl

-- a refusal that leaves no trace leaves the sector
pub untraced : (s : SectorData) (seat : SeatData) (cmd : Cmd) (refusal : Refusal) → leaves_trace refusal ≡ false → s ≡ sector_after s seat cmd (Err refusal)
unfolding sector_after
untraced s seat cmd refusal no_trace = rw no_trace refl

-- as does one for want of memory
pub lost : (s : SectorData) (seat : SeatData) (cmd : Cmd) (answer : Result Reply Refusal) → answer ≡ Err NoMemory → s ≡ sector_after s seat cmd answer
lost s seat cmd answer same = untraced s seat cmd NoMemory refl ∙ sym (ap (sector_after s seat cmd) same)

-- at a position of the sector, where there is room, this is answered by the rules, or for want of memory
module _ (s : SectorData) (seat : SeatData) (cmd : Cmd) (answer : Result Reply Refusal) (held : holds s.cells (place_of cmd) ≡ true) (free : is_full s ≡ false)
    (said : (answer ≡ rules_answer s.version.policy s.cells seat cmd) ⊎ (answer ≡ Err NoMemory)) where
  pub there_answered : (answer ≡ answer_of s seat cmd) ⊎ (answer ≡ Err NoMemory)
  there_answered = elim said [ inl same ↦ inl (same ∙ answered_by_the_rules s seat cmd held free) | inr lost ↦ inr lost ]

  never : (refusal : Refusal) → leaves_trace refusal ≡ false → NoMemory ≢ refusal → answer ≢ Err refusal
  never refusal no_trace other is = elim said [
    | inl same ↦ not_answered s.version.policy s.cells seat cmd answer refusal same no_trace is
    | inr lost ↦ other (cc)
  ]

  pub there_not_outside : (answer ≡ Err OutOfWorld) ↔ (holds s.cells (place_of cmd) ≡ false)
  there_not_outside = (λ is. absurd (never OutOfWorld refl (λ same. cc) is), λ elsewhere. absurd (cc))

  pub there_not_full : (answer ≡ Err HistoryFull) ↔ ((holds s.cells (place_of cmd) ≡ true) × (is_full s ≡ true))
  there_not_full = (λ is. absurd (never HistoryFull refl (λ same. cc) is), λ full. let is : is_full s ≡ true = full.1 in absurd (cc))
