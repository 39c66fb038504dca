use Rattle.std.proofs.Common.{ℕ, ◌*◌, length, replicate, refl, ap, ◌∙◌, arith}
use Rattle.std.proofs.lemmas.List.{length-replicate}
use Rattle.vx_marks.specs.Marks.{is_marked}
use Rattle.vx_marks.proofs.Marking.{none_marked}
use Rattle.vx_marks.proofs.Paging.{same_pages, blank_joined}
use Rattle.vx_marks.proofs.marks.Marks.new.Goals as goal

pub invariant_of-result : goal.invariant_of-result
invariant_of-result c =
    rw c.loop.invariant (same_pages (λ page. page) (replicate 64 0) c.loop.counter (length-replicate {A = ℕ} 64 0) (omega arith))

pub returns-clause-room : goal.returns-clause-room
returns-clause-room c =
    rw c.loop.invariant
    (omega (
      arith,
      ap length (blank_joined (λ page. page) (replicate 64 0) c.loop.counter refl),
      length-replicate {A = ℕ} (64 * c.loop.counter) 0,
      c.requires,
    ))

pub returns-clause-none : goal.returns-clause-none
returns-clause-none c i =
    rw c.loop.invariant
    (ap (λ words. is_marked words i) (blank_joined (λ page. page) (replicate 64 0) c.loop.counter refl)
    ∙ none_marked (64 * c.loop.counter) i)
