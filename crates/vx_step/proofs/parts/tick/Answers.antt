use Rattle.std.proofs.Common.{length, sym, ap, ◌∙◌}
use Rattle.vx_tick.proofs.Told.{fates_length}
use Rattle.vx_step.proofs.parts.tick.Goals as goal

pub moved-requires : goal.moved-requires
moved-requires g c =
    let moves = c.as_slice.result.now in
    record {
      each =
          ap length c.as_slice-4.ensures.value
          ∙ fates_length c.args.version.now.policy moves moves c.in_ok-fates.fates.items c.in_ok-fates.ensures
          ∙ ap length (c.as_slice.ensures.value ∙ sym c.as_slice-3.ensures.value);
    }
