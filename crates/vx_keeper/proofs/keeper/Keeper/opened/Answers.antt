use Rattle.vx_keeper.proofs.Giving.{all_marked}
use Rattle.vx_keeper.proofs.keeper.Keeper.opened.Goals as goal

pub invariant_of-result : goal.invariant_of-result
invariant_of-result g c = (
  c.requires.keeper,
  all_marked c.args.marks c.give_all.new.self c.mark-mark.result c.args.known c.requires.marks c.give_all.ensures
      c.mark-mark.ensures,
  tt,
)
