use Rattle.std.proofs.Common.{◌≡◌, Contains, inl, inr, sym, ap, subst, ◌∙◌}
use Rattle.lru.specs.LruCache.{LruCache}
use Rattle.vx_decide.specs.declared.verdict.Verdict.{Verdict}
use Rattle.vx_index.proofs.Keeping.{few_after, if_kept}
use Rattle.vx_index.proofs.Recalled.{after_put, entries_are, same_asked}
use Rattle.vx_index.specs.Verdicts.{KeepsFew, kept_verdicts}
use Rattle.vx_index.specs.declared.asked.Asked.{Asked}
use Rattle.vx_index.proofs.kept.Kept.keep.Goals as goal
use Rattle.vx_index.proofs.kept.Kept.keep.Goals.{in-Some, in_default}

pub invariant_of-self : goal.invariant_of-self
invariant_of-self c = elim c.match-self.branch [
  | in-Some w ↦
      rw w.self-inside-is (few_after same_asked w.deref_mut.result.now w.put.new.self c.args.asked.now c.args.verdict w.put.result
      w.put.ensures.entries w.put.ensures.err
      (subst KeepsFew (sym w.deref_mut.ensures.value) (if_kept c.self.inside.verdicts w.in-Some.verdicts (cc) c.self.invariant)))
  | in_default w ↦ rw w.self-inside-is c.self.invariant
]

pub returns : goal.returns
returns c e there =
    let was : kept_verdicts c.self.inside.verdicts ≡ c.args.self.now = c.self.view_is ∙ c.prepare.ensures in
    elim c.match-self.branch [
      | in-Some w ↦
          let now : Contains w.put.new.self.entries e = rw w.self-inside-is at there in
          elim (after_put w.deref_mut.result.now w.put.new.self c.args.asked.now c.args.verdict w.put.result w.put.ensures.entries w.put.ensures.err e now) [
            | inl before ↦ inl (subst (λ es. Contains es e)
                (ap (λ (cache : LruCache Asked Verdict). cache.entries) w.deref_mut.ensures.value
                ∙ entries_are c.self.inside.verdicts w.in-Some.verdicts (cc) ∙ was) before)
            | inr put ↦ inr put
          ]
      | in_default w ↦ inl (subst (λ es. Contains es e) was (rw w.self-inside-is at there))
    ]
