-- Marks stay right.
use Rattle.std.proofs.Common.{◌≡◌, ℕ, Some, None, Option, Result, inl, inr, slice_get, ap, ◌∙◌, arith}
use Rattle.std.proofs.lemmas.Bool.{cases_Bool}
use Rattle.vx_sector.specs.SectorData.{FreshData, SectorData, SeatData}
use Rattle.vx_policy.specs.declared.version.Version.{Version}
use Rattle.vx_sector.specs.Windows.{count_of, is_recorded, renewed, sector_after}
use Rattle.vx_sector.specs.declared.cmd.Cmd.{Cmd}
use Rattle.vx_sector.specs.declared.refusal.Refusal.{Refusal}
use Rattle.vx_sector.specs.declared.reply.Reply.{Reply}
use Rattle.vx_keeper.specs.Marks.{IsBegun, IsMarkOf, IsPartOf, WorldData}

-- a command leaves with what the window began
pub part_after : (world : WorldData) (s : SectorData) (seat : SeatData) (cmd : Cmd) (answer : Result Reply Refusal)
    → IsPartOf world s → IsPartOf world (sector_after s seat cmd answer)
unfolding sector_after
part_after world s seat cmd answer part = elim (cases_Bool (is_recorded answer)) [ inl traced ↦ rw traced part | inr none ↦ rw none part ]

pub mark_after : (mark : Option (Option WorldData)) (s : SectorData) (seat : SeatData) (cmd : Cmd)
    (answer : Result Reply Refusal) → IsMarkOf mark s → IsMarkOf mark (sector_after s seat cmd answer)
mark_after None s seat cmd answer is = tt
mark_after (Some mark) s seat cmd answer is =
    (is.0, is.1, part_after is.0 s seat cmd answer is.2)

-- a sector that is given a window of the next world begins with its part of that
pub part_begun : (after : WorldData) (s : SectorData) (fresh : FreshData) (n : ℕ) → fresh.cells.sector ≡ n
    → IsBegun after n fresh → IsPartOf after (renewed s fresh)
unfolding renewed
part_begun after s fresh n number begun = (
  ap (slice_get after.map.sectors) number ∙ begun.0,
  ap (λ (v : Version). record v { tick = after.version.tick }) begun.1,
)

-- it has the number of that window's cells
pub number_renewed : (s : SectorData) (fresh : FreshData) (n : ℕ) → fresh.cells.sector ≡ n
    → (renewed s fresh).base.sector ≡ n
unfolding renewed
number_renewed s fresh n number = number

-- and has as many entries as before
pub count_renewed : (s : SectorData) (fresh : FreshData) → count_of (renewed s fresh) ≡ count_of s
unfolding renewed
count_renewed s fresh = omega arith
