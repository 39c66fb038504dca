use Rattle.std.proofs.Common.{◌≡◌, [], ◌∷◌, ◌++◌, length, refl, sym, ap, ◌∙◌}
use Rattle.std.proofs.lemmas.Bool.{eqb-true}
use Rattle.vx_audit.specs.Audits.{record_in}
use Rattle.vx_audit.specs.Walks.{all_marks, start_of}
use Rattle.vx_audit.proofs.Filtered.{empty_of}
use Rattle.vx_audit.proofs.Marking.{follows_more}
use Rattle.vx_audit.proofs.Tracing.{marks_more}
use Rattle.vx_audit.proofs.Walking.{game_by_marks}
use Rattle.vx_audit.proofs.following.follow.Goals as goal

pub loop-walk-init : goal.loop-walk-init
loop-walk-init c = ([], c.in_ok-walk.ensures, refl)

pub loop-walk-preserved : goal.loop-walk-preserved
loop-walk-preserved c =
    let r = record_in c.args.chronicle.now c.args.windows.now c.args.version.now in
    let was = c.loop-walk.invariant in
    let on = c.in-Some.ensures.goes_on in (
      was.0 ++ on.trace ∷ [],
      follows_more (start_of r) was.0 c.loop-walk.walk on.trace c.go_on.new.self was.1 on.follows,
      was.2 ∙ ap (all_marks was.0) on.parts ∙ sym (marks_more was.0 on.trace c.in-Some.others.now),
    )

pub returns-then-is_end : goal.returns-then-is_end
returns-then-is_end c = λ none deeds kept by known.
    let r = record_in c.args.chronicle.now c.args.windows.now c.args.version.now in
    let was = c.loop-walk.invariant in
    let left = c.loop-walk.left.now in
    let none_left : left ≡ [] = empty_of left (eqb-true (length left) 0 (sym c.is_empty.ensures ∙ c.loop-walk-test.false)) in
    game_by_marks r deeds was.0 c.loop-walk.walk c.requires.record by c.soundness.ensures.map c.requires.few known
    (kept ∙ was.2 ∙ ap (all_marks was.0) none_left) was.1 (c.is_end.ensures c.if-is_end.true)
