use Rattle.std.proofs.Common.{◌≡◌, true, not, length, inl, inr, ap, sym, ◌∙◌}
use Rattle.std.proofs.lemmas.Bool.{eqb-true, not-false}
use Rattle.std.proofs.lemmas.List.{nil_from_length}
use Rattle.std.specs.Bool.{◌==◌}
use Rattle.vx_places.proofs.places.Places.has_entries.Goals as goal

pub returns-clause-all : goal.returns-clause-all
returns-clause-all c = λ some. elim c.self.invariant.all [
  | inl none ↦
      let empty : c.is_empty.result ≡ true = c.is_empty.ensures ∙ ap (λ n. n == 0) (ap length (c.as_slice.ensures.value ∙ none)) in
      let both : not true ≡ true = ap not (sym empty) ∙ some in
      absurd cc
  | inr each ↦ rw (← c.self.view_is) each
]

pub returns-clause-none : goal.returns-clause-none
returns-clause-none c = λ none.
    let empty : c.is_empty.result ≡ true = not-false c.is_empty.result none in
    rw (← c.self.view_is)
    (sym c.as_slice.ensures.value ∙ nil_from_length c.as_slice.result.now (eqb-true (length c.as_slice.result.now) 0 (sym c.is_empty.ensures ∙ empty)))
