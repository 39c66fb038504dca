use Rattle.std.proofs.Common.{◌≡◌, ◌∙◌, ◌-◌, take, sym, ap}
use Rattle.std.proofs.lemmas.List.{take-map}
use Rattle.std.proofs.lemmas.List.Elements.{All-take}
use Rattle.vx_sector.specs.Windows.{count_of}
use Rattle.vx_world.proofs.taken.Taken.pop.Goals as goal

pub invariant_of-self-2-clause-counted : goal.invariant_of-self-2-clause-counted
invariant_of-self-2-clause-counted g c =
    let old = c.args.self.now in
    rw (c.pop.ensures.rest, c.pop-3.ensures.rest, old.each)
    (sym (take-map count_of _ old.sectors.items) ∙ ap (take (old.sectors.len - 1)) old.counted
    ∙ take-map (λ share. share.amount) _ old.shares.items)

pub invariant_of-self-2-clause-one_part : goal.invariant_of-self-2-clause-one_part
invariant_of-self-2-clause-one_part g c =
    let old = c.args.self.now in
    rw c.pop-3.ensures.rest (All-take (λ share. share.parts ≡ 1) _ old.shares.items old.one_part)
