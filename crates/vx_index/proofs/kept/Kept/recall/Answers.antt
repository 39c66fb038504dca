use Rattle.std.proofs.Common.{Contains, sym, ap, subst, ◌∙◌}
use Rattle.lru.proofs.CallerLemmas.{Contains-promoted}
use Rattle.lru.specs.LruCache.{LruCache}
use Rattle.vx_decide.specs.declared.verdict.Verdict.{Verdict}
use Rattle.vx_index.proofs.Keeping.{if_kept, still_few}
use Rattle.vx_index.proofs.Recalled.{entries_are, same_asked}
use Rattle.vx_index.specs.Verdicts.{KeepsFew}
use Rattle.vx_index.specs.declared.asked.Asked.{Asked}
use Rattle.vx_index.proofs.kept.Kept.recall.Goals as goal

pub invariant_of-self-2 : goal.invariant_of-self-2
invariant_of-self-2 c =
    still_few (same_asked c.args.asked.now) c.deref_mut.result.now c.promote.new.self c.promote.ensures.entries
    (subst KeepsFew (sym c.deref_mut.ensures.value)
    (if_kept c.self.inside.verdicts c.in_ok-verdicts.verdicts.now c.in_ok-verdicts.ensures.value c.self.invariant))

pub returns-clause-kept : goal.returns-clause-kept
returns-clause-kept c e there =
    subst (λ es. Contains es e)
    (ap (λ (cache : LruCache Asked Verdict). cache.entries) c.deref_mut.ensures.value
    ∙ entries_are c.self.inside.verdicts c.in_ok-verdicts.verdicts.now c.in_ok-verdicts.ensures.value ∙ c.self.view_is)
    (Contains-promoted (same_asked c.args.asked.now) c.deref_mut.result.now.entries e
    (subst (λ (after : LruCache Asked Verdict). Contains after.entries e) c.promote.ensures.entries there))
