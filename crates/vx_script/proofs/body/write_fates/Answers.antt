use Rattle.std.proofs.Common.{sym, subst}
use Rattle.std.specs.Io.KnownBytes.{Appends}
use Rattle.std.proofs.KnownBytes.{Appends-trans}
use Rattle.vx_script.proofs.FateLines.{fates_more}
use Rattle.vx_script.proofs.body.write_fates.Goals as goal

pub loop-p-preserved : goal.loop-p-preserved
loop-p-preserved g c =
    subst (Appends _ _) (sym (fates_more c.args.fates.now c.loop-p.p-index _ c.loop-p-test.true))
    (Appends-trans _ _ _ _ _ c.loop-p.invariant c.in_ok-write_fate.ensures.ok)
