use Rattle.std.proofs.Common.{◌≡◌, List, slice_get, Some, sym, ◌∙◌, subst}
use Rattle.vx_name.specs.declared.name.Name.{Name}
use Rattle.vx_name.specs.Texts.{texts}
use Rattle.vx_play.specs.Guesses.{IsGuess}
use Rattle.vx_base.proofs.Lists.{read_is}
use Rattle.vx_play.proofs.Guessing.{at_guess}
use Rattle.vx_play.proofs.name_index.NameIndex.number_of.Goals as goal

pub returns-then-eq-clause-value : goal.returns-then-eq-clause-value
returns-then-eq-clause-value c =
    let names = c.self.inside.names.items in
    let guess = c.from-guess.result in
    let is : IsGuess (texts names) guess = subst (IsGuess (texts names)) (sym c.from-guess.ensures) (c.self.invariant c.mark.result) in
    let found = c.in-Some.ensures.lookup in
    let there = subst (λ (ns : List Name). slice_get ns guess ≡ Some c.in-Some.guessed.now) c.deref.ensures.value
    (read_is c.deref.result.now guess c.in-Some.guessed.now found.3.0 found.1) in
    rw (← c.self.view_is) (at_guess names guess c.in-Some.guessed.now c.args.name.now is there (sym c.eq.ensures ∙ c.if-eq.true))
