-- How many entries a sector has after a command.
use Rattle.std.proofs.Common.{◌≡◌, ◌+◌, true, false, refl, arith, Result}
use Rattle.std.proofs.lemmas.List.{length_push}
use Rattle.vx_sector.specs.SectorData.{SectorData, SeatData}
use Rattle.vx_sector.specs.Windows.{count_of, is_recorded, sector_after}
use Rattle.vx_sector.specs.declared.cmd.Cmd.{Cmd}
use Rattle.vx_sector.specs.declared.reply.Reply.{Reply}
use Rattle.vx_sector.specs.declared.refusal.Refusal.{Refusal}

pub count_kept : (s : SectorData) (seat : SeatData) (cmd : Cmd) (answer : Result Reply Refusal)
    → is_recorded answer ≡ false → count_of (sector_after s seat cmd answer) ≡ count_of s
unfolding sector_after
count_kept s seat cmd answer none = rw none refl

pub count_more : (s : SectorData) (seat : SeatData) (cmd : Cmd) (answer : Result Reply Refusal)
    → is_recorded answer ≡ true → count_of (sector_after s seat cmd answer) ≡ count_of s + 1
unfolding sector_after
count_more s seat cmd answer traced =
    rw traced (omega (arith, length_push s.entries (record { seat = seat; cmd = cmd; answer = answer })))
