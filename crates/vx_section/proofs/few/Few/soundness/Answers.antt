use Rattle.std.proofs.Common.{◌*◌, ◌∙◌, ap}
use Rattle.vx_section.proofs.Pairing.{length-unpacked}
use Rattle.vx_section.proofs.few.Few.soundness.Goals as goal

pub returns-clause-length : goal.returns-clause-length
returns-clause-length c =
    let few = c.self.inside in
    rw (← c.self.view_is) (length-unpacked few.palette few.pairs ∙ ap (λ n. 2 * n) c.self.invariant.whole)
