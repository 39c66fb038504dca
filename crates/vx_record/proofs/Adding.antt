-- A call added to the list of a sector.
use Rattle.std.proofs.Common.{◌≡◌, ℕ, ◌+◌, ◌<◌, Bool, true, false, List, [], ◌∷◌, ◌++◌, length, get_or, map, Vec, if◌then◌else◌, Result, Err, refl, ap, sym, subst, ◌∙◌, arith, length-append}
use Rattle.std.proofs.Math.ListN.{set}
use Rattle.std.specs.declared.alloc.Global.{Global}
use Rattle.std.proofs.lemmas.List.{set-get_or, map-set, get_or-map}
use Rattle.std.proofs.lemmas.List.Sums.{sum_by-set}
use Rattle.vx_cells.specs.SectorCells.{holds}
use Rattle.vx_sector.specs.SectorData.{SectorData, SeatData}
use Rattle.vx_sector.specs.Commands.{place_of}
use Rattle.vx_sector.specs.Windows.{answer_of, is_full, is_recorded, sector_after}
use Rattle.vx_sector.specs.declared.cmd.Cmd.{Cmd}
use Rattle.vx_sector.specs.declared.reply.Reply.{Reply}
use Rattle.vx_sector.specs.declared.refusal.Refusal.{Refusal}
use Rattle.vx_sector.specs.declared.refusal.Refusal.TheVariants.{NoMemory}
use Rattle.vx_sector.proofs.ActingLemmas.{answer_recorded}
use Rattle.vx_sector.proofs.Outside.{answered_by_the_rules}
use Rattle.vx_record.specs.declared.call.Call.{Call}
use Rattle.vx_record.specs.Calls.{calls_in, row_after, with_call, lists_after}

-- where there is room, memory is wanted for a record
pub wanted : (s : SectorData) (seat : SeatData) (cmd : Cmd) → holds s.cells (place_of cmd) ≡ true
    → is_full s ≡ false → is_recorded (answer_of s seat cmd) ≡ true
wanted s seat cmd held room =
    subst (λ a. is_recorded a ≡ true) (answered_by_the_rules s seat cmd held room)
    (answer_recorded _ _ _ _)

-- a refusal for want of memory leaves a sector
pub nothing_recorded : (s : SectorData) (seat : SeatData) (cmd : Cmd)
    → s ≡ sector_after s seat cmd (Err NoMemory)
unfolding sector_after
nothing_recorded s seat cmd = refl

back_in_place : (recorded : Bool) (lists : List (List Call)) (k : ℕ) (call : Call)
    → set lists k (if recorded then get_or lists k [] ++ call ∷ [] else get_or lists k [])
    ≡ (if recorded then with_call lists k call else lists)
back_in_place true lists k call = refl
back_in_place false lists k call = set-get_or lists k []

one_more_if : (recorded : Bool) (lists : List (List Call)) (k : ℕ) (call : Call) → k < length lists
    → calls_in (if recorded then with_call lists k call else lists)
    ≡ calls_in lists + (if recorded then 1 else 0)
one_more_if true lists k call within =
    let row = get_or lists k [] in
    omega (arith, sum_by-set length lists k (row ++ call ∷ []) [] within, length-append row (call ∷ []))
one_more_if false lists k call within = omega arith

abbrev pub items_of : Vec Call Global → List Call
items_of row = row.items

-- the list of sector k after a command and its answer, in its place
pub row_changed : (rows : List (Vec Call Global)) (k : ℕ) (old new : Vec Call Global) (cmd : Cmd)
    (answer : Result Reply Refusal) → k < length rows → old ≡ get_or rows k old
    → new.items ≡ row_after old.items cmd answer
    → map items_of (set rows k new) ≡ lists_after (map items_of rows) k cmd answer
row_changed rows k old new cmd answer within here changed =
    let lists = map items_of rows in
    let was : old.items ≡ get_or lists k [] = ap items_of here ∙ sym (get_or-map items_of rows k old [] within) in
    map-set items_of rows k new ∙ ap (set lists k) changed
    ∙ ap (λ row. set lists k (row_after row cmd answer)) was
    ∙ back_in_place (is_recorded answer) lists k (record { cmd = cmd; answer = answer })

-- one call more, where it is recorded
pub one_more : (lists : List (List Call)) (k : ℕ) (cmd : Cmd) (answer : Result Reply Refusal)
    → k < length lists
    → calls_in (lists_after lists k cmd answer)
    ≡ calls_in lists + (if is_recorded answer then 1 else 0)
one_more lists k cmd answer within =
    one_more_if (is_recorded answer) lists k (record { cmd = cmd; answer = answer }) within
