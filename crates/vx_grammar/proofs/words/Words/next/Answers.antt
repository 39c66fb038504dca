-- The line is cut at its first space; a piece that is empty is no word.
use Rattle.std.proofs.Common.{[], ◌∷◌, sym, ◌∙◌, ap}
use Rattle.vx_grammar.proofs.Cuts.{words_of-nil, words_uncut, words_cut, cut_texts, onto_words-some, onto_words-none}
use Rattle.vx_grammar.proofs.words.Words.next.Goals as goal
use Rattle.vx_grammar.proofs.words.Words.next.Goals.{then-is_empty, else-is_empty}

pub returns-then-not-is_empty : goal.returns-then-not-is_empty
returns-then-not-is_empty c =
    let cut = words_cut _ _ _ c.in-Some.ensures.0 c.in-Some.ensures.1 c.in-Some.ensures.2 in
    let texts = cut_texts _ _ _ c.in-Some.ensures.0 c.in-Some.ensures.1 c.in-Some.ensures.2 c.loop-piece.invariant.1 in
    record {
      word = sym c.self.view_is ∙ sym c.loop-piece.invariant.0 ∙ cut ∙ onto_words-some _ _ (sym c.if-not-is_empty.ensures);
      text = texts.0;
    }

pub invariant_of-self : goal.invariant_of-self
invariant_of-self c = (cut_texts _ _ _ c.in-Some.ensures.0 c.in-Some.ensures.1 c.in-Some.ensures.2 c.loop-piece.invariant.1).1

pub loop-piece-preserved : goal.loop-piece-preserved
loop-piece-preserved c =
    let cut = words_cut _ _ _ c.in-Some.ensures.0 c.in-Some.ensures.1 c.in-Some.ensures.2 in
    let texts = cut_texts _ _ _ c.in-Some.ensures.0 c.in-Some.ensures.1 c.in-Some.ensures.2 c.loop-piece.invariant.1 in
    (sym (onto_words-none _ _ (sym c.if-not-is_empty.ensures)) ∙ sym cut ∙ c.loop-piece.invariant.0, texts.1)

pub returns : goal.returns
returns c =
    let all = sym c.self.view_is ∙ sym c.loop-piece.invariant.0 ∙ words_uncut c.loop-piece.self-inside.rest.now c.in_default.ensures in
    elim c.if-is_empty.branch [
      | then-is_empty w ↦ rw w.result-is (record { word = (all ∙ onto_words-none c.loop-piece.self-inside.rest.now [] (sym w.if-is_empty.ensures), words_of-nil); text = tt })
      | else-is_empty w ↦ rw w.result-is (record {
        word = all ∙ onto_words-some c.loop-piece.self-inside.rest.now [] (sym w.if-is_empty.ensures) ∙ ap (λ words. c.loop-piece.self-inside.rest.now ∷ words) (sym words_of-nil);
        text = c.loop-piece.invariant.1;
      })
    ]
