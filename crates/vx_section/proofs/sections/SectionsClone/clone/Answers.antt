use Rattle.std.proofs.Common.{subst, ◌∙◌}
use Rattle.vx_section.specs.Indices.{AreSame}
use Rattle.vx_section.proofs.Comparing.{same_bytes}
use Rattle.vx_section.proofs.sections.SectionsClone.clone.Goals as goal

pub returns : goal.returns
returns c =
    let own = c.self.inside in
    let copies = c.in_ok-copied.field-0 in
    record {
      cases = same_bytes own.wide own.high copies own.sections (subst (λ n. AreSame n copies own.sections) c.section_count.ensures.value c.in_ok-copied.ensures.same) ∙ c.self.view_is;
    }
