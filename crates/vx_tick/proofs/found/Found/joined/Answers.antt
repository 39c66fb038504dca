use Rattle.std.proofs.Common.{sym, ap, ◌∙◌, rules}
use Rattle.std.specs.List.{flat_map}
use Rattle.std.proofs.lemmas.Iterator.Consumers.{YieldsList-end}
use Rattle.std.proofs.lemmas.Iterator.Adapters.{YieldsList-from_vec}
use Rattle.std.proofs.lemmas.List.{map-id}
use Rattle.vx_tick.specs.declared.found.Found.{Found}
use Rattle.vx_tick.proofs.Turning.{brought_on}
use Rattle.vx_tick.proofs.found.Found.joined.Goals as goal

pub loop-piece-preserved : goal.loop-piece-preserved
loop-piece-preserved c = record {
  changes = brought_on (λ (piece : Found). piece.changes.items) c.loop-piece.yielded c.in-Some.piece _ _ c.in_ok-append.ensures.items
      c.loop-piece.invariant.changes;
  restless = brought_on (λ (piece : Found). piece.restless.items) c.loop-piece.yielded c.in-Some.piece _ _ c.in_ok-append-2.ensures.items
      c.loop-piece.invariant.restless;
  moves = brought_on (λ (piece : Found). piece.moves.items) c.loop-piece.yielded c.in-Some.piece _ _ c.in_ok-append-3.ensures.items
      c.loop-piece.invariant.moves;
}

pub returns-clause-changes : goal.returns-clause-changes
returns-clause-changes c =
    let ended = YieldsList-end (YieldsList-from_vec {s = c.into_iter-piece-iterator.result} c.args.pieces.items (search rules) (search rules))
    c.loop-piece.yielded c.loop-piece.piece-iterator c.loop-piece.yielded_by c.next.result c.next.new.self c.in-None.is c.next.ensures.steps in
    c.loop-piece.invariant.changes ∙ ap (flat_map (λ (piece : Found). piece.changes.items)) (sym (map-id c.loop-piece.yielded) ∙ ended.0)

pub returns-clause-restless : goal.returns-clause-restless
returns-clause-restless c =
    let ended = YieldsList-end (YieldsList-from_vec {s = c.into_iter-piece-iterator.result} c.args.pieces.items (search rules) (search rules))
    c.loop-piece.yielded c.loop-piece.piece-iterator c.loop-piece.yielded_by c.next.result c.next.new.self c.in-None.is c.next.ensures.steps in
    c.loop-piece.invariant.restless ∙ ap (flat_map (λ (piece : Found). piece.restless.items)) (sym (map-id c.loop-piece.yielded) ∙ ended.0)
