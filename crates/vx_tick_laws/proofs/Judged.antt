-- What the policy says on a piston's move is by the rules that hold for the piston.
use Rattle.vx_flag.specs.declared.action.Action.TheVariants.{Pushing}
use Rattle.vx_flag.specs.declared.state.State.TheVariants as state
use Rattle.vx_region.specs.Subjects.{Machine}
use Rattle.vx_decide.proofs.Rulings.{rule_holds, held_is_the_verdict}
use Rattle.vx_tick_laws.specs.Judged.{PistonsAreJudgedByPlace}

pub judged_by_place : PistonsAreJudgedByPlace
judged_by_place rs q p rule = record {
  denied = (
    rule_holds rs (Machine q) Pushing p state.Deny rule,
    held_is_the_verdict rs (Machine q) Pushing p state.Deny rule,
  );
  permitted = (
    rule_holds rs (Machine q) Pushing p state.Allow rule,
    held_is_the_verdict rs (Machine q) Pushing p state.Allow rule,
  );
}
