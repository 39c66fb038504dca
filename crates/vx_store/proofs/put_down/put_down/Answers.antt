use Rattle.std.proofs.Common.{◌<◌, subst, sym}
use Rattle.vx_store.specs.Codes.{code_count}
use Rattle.vx_store.proofs.put_down.put_down.Goals as goal

pub is_chest-was-requires : goal.is_chest-was-requires
is_chest-was-requires c =
    subst (λ code. code < code_count) (sym c.get.ensures) (c.requires.codes c.args.index 0 c.requires.within)
