use Rattle.std.proofs.Common.{◌≡◌, ◌⊎◌, Err, ap, sym, subst, ◌∙◌}
use Rattle.vx_sector.specs.SectorData.{SectorData, WindowData, seat_of, sector_of}
use Rattle.vx_sector.specs.Acting.{rules_answer}
use Rattle.vx_sector.specs.Windows.{IsSector, sector_after, told}
use Rattle.vx_sector.specs.declared.refusal.Refusal.TheVariants.{NoMemory}
use Rattle.vx_sector.proofs.WindowLemmas.{answered_keeps_sector, window_leads}
use Rattle.vx_sector.proofs.sector.Sector.carry_out.Goals as goal

pub returns-clause-after : goal.returns-clause-after
returns-clause-after c =
    let here = ap (λ (w : WindowData). sector_of w c.self.inside.closed) c.deref_mut.ensures.value ∙ c.self.view_is in
    ap (λ (w : WindowData). sector_of w c.self.inside.closed) c.carry_out.ensures.after
    ∙ window_leads _ c.self.inside.closed _ _ (told c.carry_out.result)
    ∙ ap (λ (s : SectorData). sector_after s (seat_of c.args.seat.now) c.args.cmd.now (told c.carry_out.result)) here

pub invariant_of-self : goal.invariant_of-self
invariant_of-self c =
    let here = ap (λ (w : WindowData). sector_of w c.self.inside.closed) c.deref_mut.ensures.value ∙ c.self.view_is in
    let said = subst (λ (s : SectorData). ((told c.carry_out.result) ≡ rules_answer s.version.policy s.cells (seat_of c.args.seat.now) c.args.cmd.now)
    ⊎ ((told c.carry_out.result) ≡ Err NoMemory)) here c.carry_out.ensures.answer in
    subst IsSector (sym (returns-clause-after c)) (answered_keeps_sector c.args.self.now (seat_of c.args.seat.now) c.args.cmd.now (told c.carry_out.result)
    (subst IsSector c.self.view_is c.self.invariant) c.requires.held c.requires.room said)
