use Rattle.std.proofs.Common.{◌+◌, ◌*◌, refl, arith}
use Rattle.vx_index.proofs.Adding.{bands_begin, band_skipped, band_added, bands_end}
use Rattle.vx_index.proofs.patches.add_bands.Goals as goal
use Rattle.vx_index.proofs.patches.add_bands.Goals.{in-Some+in_ok-push, in_default}

pub loop-band-init : goal.loop-band-init
loop-band-init c = bands_begin c.args.number c.args.shape.now c.args.west c.args.north _ c.args.patches.now.items (omega arith)

pub loop-band-preserved : goal.loop-band-preserved
loop-band-preserved c =
    let z = c.args.north + 8 * c.loop-band.band in
    elim c.match-band_of.branch [
      | in-Some+in_ok-push w ↦
          rw w.patches-is (band_added c.args.number c.args.shape.now c.args.west c.args.north z _
          c.args.patches.now.items c.loop-band.patches.items w.push.new.self.items
          (record { number = c.args.number; columns = w.in-Some.columns }) (omega arith)
          w.in-Some.ensures refl w.in_ok-push.ensures.items c.loop-band.invariant)
      | in_default w ↦
          rw w.patches-is (band_skipped c.args.number c.args.shape.now c.args.west c.args.north z _
          c.args.patches.now.items c.loop-band.patches.items (omega arith) w.in_default.ensures c.loop-band.invariant)
    ]

pub returns : goal.returns
returns c =
    bands_end c.args.number c.args.shape.now c.args.west c.args.north (c.args.north + 8 * c.loop-band.band) _ _
    (omega (arith, c.loop-band-test.false)) c.loop-band.invariant
