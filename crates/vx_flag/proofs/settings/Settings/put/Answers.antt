use Rattle.std.proofs.Common.{arith, ◌<◌, length}
use Rattle.vx_flag.proofs.SettingLemmas.{put_over}
use Rattle.vx_flag.proofs.settings.Settings.put.Goals as goal

pub returns : goal.returns
returns c =
    let within : c.index.result < length c.self.inside.by_flag = omega (arith, c.index.ensures.within, c.self.invariant) in
    rw (← c.self.view_is, ← c.index.ensures.value) (put_over _ _ _ within)
