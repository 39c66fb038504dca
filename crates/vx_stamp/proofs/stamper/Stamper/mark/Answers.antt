use Rattle.std.proofs.Common.{sym, ◌∙◌, ap}
use Rattle.vx_stamp.proofs.Adding.{adds_moves}
use Rattle.vx_stamp.proofs.stamper.Stamper.mark.Goals as goal

pub compare_exchange-found-requires : goal.compare_exchange-found-requires
compare_exchange-found-requires g c =
    let head = c.self.invariant.0 in
    let book = c.self.invariant.2 ∙ sym (ap (λ w. w.book) head) in
    let offer = c.plain-offer.ensures in
    let pen = c.no_pen-pen.ensures in (
      ap (λ w. w.tracked) head,
      book,
      pen.0 ∙ book,
      offer.0,
      rw (ap (λ w. w.key) head, pen.1, offer.1, offer.3, c.in_ok-next.ensures.1)
          (adds_moves c.self.inside.seen.log c.args.value.now c.self.inside.count (sym c.self.invariant.1)),
    )
