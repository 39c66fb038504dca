use Rattle.std.proofs.Common.{◌∙◌, sym, ap, true≢false}
use Rattle.vx_cells.proofs.StoredBlocks.{same-codes}
use Rattle.vx_cells.proofs.StoredCells.{same-stored, same-sizes, other-sizes}
use Rattle.vx_cells.proofs.stored.Stored.is_same.Goals as goal
use Rattle.vx_cells.proofs.stored.Stored.is_same.Goals.{then-ne-via-then-ne, then-ne-via-else-ne+then-self-other}

pub returns-then-ne : goal.returns-then-ne
returns-then-ne c =
    let s = c.self.inside in
    let o = c.other.inside in
    rw (← c.self.view_is) (rw (← c.other.view_is) (elim c.then-ne.branch [
      | then-ne-via-then-ne w ↦ (λ e. cc, λ same. absurd (other-sizes s.bounds o.bounds w.if-ne.ensures (ap (λ v. v.bounds) same)))
      | then-ne-via-else-ne+then-self-other w ↦ (λ e. cc, λ same. absurd (w.if-self-other.true (ap (λ v. v.sector) same)))
    ]))

pub returns-then-same : goal.returns-then-same
returns-then-same c =
    let s = c.self.inside in
    let o = c.other.inside in
    let sizes = same-sizes s.bounds o.bounds c.if-ne.ensures in
    let codes = c.same.ensures.0 c.if-same.true in
    rw (← c.self.view_is) (rw (← c.other.view_is)
    (same-stored s.bounds o.bounds s.sector o.sector s.store o.store s.chests o.chests c.same-then-same.result c.self.invariant.stored c.other.invariant.stored sizes c.if-self-other.false codes c.same-then-same.ensures))

pub returns-else-same : goal.returns-else-same
returns-else-same c =
    let s = c.self.inside in
    let o = c.other.inside in
    rw (← c.self.view_is) (rw (← c.other.view_is) (
      λ e. absurd (true≢false (sym e ∙ c.if-same.false)),
      λ same. c.same.ensures.1 (same-codes s.bounds o.bounds s.store o.store s.chests o.chests c.self.invariant.stored c.other.invariant.stored (ap (λ v. v.blocks) same)),
    ))
