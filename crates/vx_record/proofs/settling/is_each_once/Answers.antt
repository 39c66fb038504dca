use Rattle.std.proofs.lemmas.Bool.Decides.{Decides-like}
use Rattle.vx_record.proofs.settling.is_each_once.Goals as goal

pub returns-then-are_below : goal.returns-then-are_below
returns-then-are_below g c =
    let only = c.are_below.ensures.0 c.if-are_below.true in
    Decides-like _ (λ once. record { only = only; once = once }) (λ each. each.once) c.each_has_one.ensures
