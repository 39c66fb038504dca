-- The calls of a player, in a list for each sector.
use Rattle.std.specs.Prelude.{ℕ, List, [], ◌∷◌, ◌++◌, length, slice_index_or, slice_set, if◌then◌else◌, Result}
use Rattle.std.specs.List.{sum_by}
use Rattle.vx_sector.specs.SectorData.{EntryData}
use Rattle.vx_sector.specs.Windows.{is_recorded}
use Rattle.vx_sector.specs.declared.cmd.Cmd.{Cmd}
use Rattle.vx_sector.specs.declared.reply.Reply.{Reply}
use Rattle.vx_sector.specs.declared.refusal.Refusal.{Refusal}
use Rattle.vx_record.specs.declared.call.Call.{Call}

-- the call that an entry records
abbrev pub call_in : EntryData → Call
call_in entry = record { cmd = entry.cmd; answer = entry.answer }

-- how many calls are in the lists
abbrev pub calls_in : List (List Call) → ℕ
calls_in lists = sum_by length lists

-- a list after a command and its answer: with that call at its end, if it is recorded
abbrev pub row_after : List Call → Cmd → Result Reply Refusal → List Call
row_after row cmd answer =
    if is_recorded answer then row ++ record { cmd = cmd; answer = answer } ∷ [] else row

-- the lists with a call at the end of that of sector k
abbrev pub with_call : List (List Call) → ℕ → Call → List (List Call)
with_call lists k call = slice_set lists k (slice_index_or lists k [] ++ call ∷ [])

-- the lists after a command in sector k and its answer
abbrev pub lists_after : List (List Call) → ℕ → Cmd → Result Reply Refusal → List (List Call)
lists_after lists k cmd answer =
    if is_recorded answer
    then with_call lists k (record { cmd = cmd; answer = answer })
    else lists
