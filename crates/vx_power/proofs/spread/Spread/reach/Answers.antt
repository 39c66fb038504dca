use Rattle.std.proofs.Common.{◌≡◌, nat_lt, true, false, sym, arith}
use Rattle.std.proofs.lemmas.Bool.{and_left, and_right, not_from_true, lt-ltb, le-ltb}
use Rattle.vx_power.specs.Levels.{level_in}
use Rattle.vx_power.proofs.Reaching.{reaches_one, reaches_over}
use Rattle.vx_power.proofs.spread.Spread.reach.Goals as goal
use Rattle.vx_power.proofs.spread.Spread.reach.Goals.{then-not-hold-via-then-not-hold, then-not-hold-via-else-not-hold+then-at-gt0}

pub returns-then-not-hold : goal.returns-then-not-hold
returns-then-not-hold g c = elim c.then-not-hold.branch [
  | then-not-hold-via-then-not-hold w ↦
      rw (← c.self.view_is) (reaches_over (and_right _ _ (sym w.if-not-hold.ensures)))
  | then-not-hold-via-else-not-hold+then-at-gt0 w ↦
      let has : nat_lt 0 (level_in c.self.inside.levels c.args.p) ≡ true =
      lt-ltb 0 _ (omega (arith, w.at.ensures.value, w.if-at-gt0.true)) in
      rw (← c.self.view_is) (reaches_over (and_left _ _ (not_from_true _ has)))
]

pub returns : goal.returns
returns g c =
    let none : nat_lt 0 (level_in c.self.inside.levels c.args.p) ≡ false =
    le-ltb 0 _ (omega (arith, c.at.ensures.value, c.if-at-gt0.false)) in
    rw (← c.self.view_is)
    (reaches_one (sym c.if-not-hold.ensures) none c.in_ok-put.ensures c.in_ok-push.ensures.items)
