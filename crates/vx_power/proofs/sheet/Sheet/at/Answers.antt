use Rattle.std.proofs.Common.{◌≡◌, true, get_or, if◌then◌else◌, sym, ap, ◌∙◌, arith}
use Rattle.std.proofs.lemmas.List.{get_or_read}
use Rattle.vx_power.specs.Levels.{is_place, column}
use Rattle.vx_power.proofs.sheet.Sheet.at.Goals as goal

pub returns-then-is_place-clause-value : goal.returns-then-is_place-clause-value
returns-then-is_place-clause-value c =
    let sheet = c.self.inside.bytes.items in
    let p = c.args.p in
    let place : is_place p ≡ true = sym c.is_place.ensures ∙ c.if-is_place.true in
    let read = get_or_read sheet _ _ (omega (arith, c.column.ensures.within, c.self.invariant.whole)) c.index.ensures 0 in
    rw (← c.self.view_is) (read ∙ ap (λ k. get_or sheet k 0) c.column.ensures.value
    ∙ sym (ap (λ b. if b then get_or sheet (column p) 0 else 0) place))

pub returns-then-is_place-clause-most : goal.returns-then-is_place-clause-most
returns-then-is_place-clause-most c =
    let sheet = c.self.inside.bytes.items in
    let read = get_or_read sheet _ _ (omega (arith, c.column.ensures.within, c.self.invariant.whole)) c.index.ensures 0 in
    omega (arith, read, c.self.invariant.most c.column.result)
