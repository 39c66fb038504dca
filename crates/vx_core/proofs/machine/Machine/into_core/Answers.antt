use Rattle.std.proofs.Common.{ap, ◌∙◌}
use Rattle.vx_core.specs.Machines.{MachineData}
use Rattle.vx_core.proofs.machine.Machine.into_core.Goals as goal

pub returns : goal.returns
returns g c = record {
  chronicle = λ i. record { opening = c.in_ok-opening.ensures i; ticks = (c.self.view_is i).ticks };
  edits = c.in_ok-edits.ensures ∙ c.accepted.ensures ∙ ap (λ (m : MachineData). m.play.accepted) c.self.view_is;
  sectors = c.into_sectors.ensures ∙ ap (λ (m : MachineData). m.play.sectors) c.self.view_is;
  stages = ap (λ (m : MachineData). m.stages) c.self.view_is;
}
