use Rattle.std.proofs.Common.{◌≡◌, Bool, true, false, if◌then◌else◌, refl, sym, ap, ◌∙◌, arith, rules}
use Rattle.vx_sector.specs.Windows.{count_of, is_recorded}
use Rattle.vx_record.specs.Calls.{with_call}
use Rattle.vx_world.proofs.Counted.{count_kept, count_more}
use Rattle.vx_world.proofs.home.Home.act.Goals as goal

pub invariant_of-self : goal.invariant_of-self
invariant_of-self g c =
    let none : is_recorded c.carry_out-answer.result ≡ false = search rules in
    let same = ap count_of c.carry_out-answer.ensures.sector ∙ count_kept _ _ _ _ none in
    record { one_part = c.args.self.now.one_part; counted = c.args.self.now.counted ∙ sym same }

pub invariant_of-self-2 : goal.invariant_of-self-2
invariant_of-self-2 g c =
    let traced : is_recorded c.carry_out-answer.result ≡ true = search rules in
    let more = ap count_of c.carry_out-answer.ensures.sector ∙ count_more _ _ _ _ traced in
    record {
      one_part = c.spend.ensures.place.1 ∙ c.args.self.now.one_part;
      counted = omega (arith, c.spend.ensures.place.0, c.args.self.now.counted, more);
    }

pub returns-then-not-is_recorded-clause-kept : goal.returns-then-not-is_recorded-clause-kept
returns-then-not-is_recorded-clause-kept g c none =
    let lists = c.args.pass.now.lists in
    let call = with_call lists c.args.at (record { cmd = c.args.cmd.now; answer = c.carry_out-answer.result }) in
    (c.carry_out-answer.ensures.lists ∙ ap (λ (b : Bool). if b then call else lists) none, refl, refl)
