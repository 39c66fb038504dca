use Rattle.std.proofs.Common.{◌≡◌, ◌∷◌, true, List, Bor, Option, Some, None, IfSome, sym, ap, ◌∙◌, subst, false}
use Rattle.vx_audit.specs.Walks.{WalkData, CallAt, CallsAt, EditAt, TickAt, GoesOn, GoesOnBlock, FollowsCall, FollowsTick}
use Rattle.vx_audit.specs.declared.mark.Mark.{Mark}
use Rattle.vx_audit.specs.declared.mark.Mark.TheVariants as mark
use Rattle.vx_audit.proofs.walk.Walk.go_on.Goals as goal
use Rattle.vx_audit.proofs.walk.Walk.go_on.Goals.{in-Call, in-Edit, in-Tick, in-End}

in_block : (found : Option (Bor (List Mark))) (w next : WalkData) (all marks : List Mark) → all ≡ mark.Begin ∷ marks
    → IfSome found (λ others. GoesOnBlock w marks next others.now) → IfSome found (λ others. GoesOn w all next others.now)
in_block None w next all marks begins is = is
in_block (Some others) w next all marks begins is =
    record { trace = CallsAt is.spots; follows = is.follows; parts = begins ∙ ap (λ ms. mark.Begin ∷ ms) is.parts }

pub returns-in-Begin-clause-goes_on : goal.returns-in-Begin-clause-goes_on
returns-in-Begin-clause-goes_on c =
    in_block c.follow_block.result c.args.self.now c.follow_block.new.self c.args.marks.now c.in_ok-mark.others.now
    (c.in_ok-mark.ensures ∙ ap (λ m. m ∷ c.in_ok-mark.others.now) c.in-Begin.is) c.follow_block.ensures

pub returns-then-follows-clause-goes_on : goal.returns-then-follows-clause-goes_on
returns-then-follows-clause-goes_on c = elim c.match-mark.branch [
  | in-Call w ↦ record {
    trace = CallAt (w.in-Call.seat, w.in-Call.sector);
    follows = subst (λ next. FollowsCall c.args.self.now w.in-Call.seat next w.in-Call.sector) (sym w.self-is)
        (w.follow_call-follows.ensures (sym w.follows-is ∙ c.if-follows.true));
    parts = c.in_ok-mark.ensures ∙ ap (λ m. m ∷ c.in_ok-mark.others.now) w.in-Call.is;
  }
  | in-Edit w ↦ record {
    trace = EditAt;
    follows = w.self-is ∙ w.follow_edit-follows.ensures (sym w.follows-is ∙ c.if-follows.true);
    parts = c.in_ok-mark.ensures ∙ ap (λ m. m ∷ c.in_ok-mark.others.now) w.in-Edit.is;
  }
  | in-Tick w ↦ record {
    trace = TickAt;
    follows = subst (FollowsTick c.args.self.now) (sym w.self-is) (w.follow_tick-follows.ensures (sym w.follows-is ∙ c.if-follows.true));
    parts = c.in_ok-mark.ensures ∙ ap (λ m. m ∷ c.in_ok-mark.others.now) w.in-Tick.is;
  }
  | in-End w ↦ let no : true ≡ false = sym c.if-follows.true ∙ w.follows-is in cc
]
