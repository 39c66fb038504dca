use Rattle.std.proofs.Common.{Contains, IfSome, ap, subst, ◌∙◌}
use Rattle.lru.specs.LruCache.{LruCache}
use Rattle.vx_decide.specs.declared.verdict.Verdict.{Verdict}
use Rattle.vx_index.proofs.Recalled.{entries_are, found_alike}
use Rattle.vx_index.specs.SameAsked.{IsSameAsked}
use Rattle.vx_index.specs.declared.asked.Asked.{Asked}
use Rattle.vx_index.proofs.kept.Kept.get.Goals as goal

pub returns : goal.returns
returns c =
    let asked = c.args.asked.now in
    subst (λ es. IfSome c.copied.result (λ v. (same : Asked) × Contains es (same, v) × IsSameAsked asked same))
    (ap (λ (cache : LruCache Asked Verdict). cache.entries) c.deref.ensures
    ∙ entries_are c.self.inside.verdicts c.in_ok-as_ref.field-0.now c.in_ok-as_ref.ensures.value ∙ c.self.view_is)
    (found_alike c.deref.result.now.entries asked c.copied.result (c.copied.ensures ∙ c.peek.ensures))
