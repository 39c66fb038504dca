use Rattle.std.proofs.Common.{false, length, map, replicate, ap, ◌∙◌}
use Rattle.std.proofs.lemmas.List.{length-map}
use Rattle.vx_play.specs.Plays.{PlayData, opened}
use Rattle.vx_windows.specs.Sectors.{opened_with}
use Rattle.vx_record.specs.Openings.{OpeningData}
use Rattle.vx_record.specs.Records.{tick_in}
use Rattle.vx_core.specs.declared.stage.Stage.TheVariants.{Home}
use Rattle.vx_core.proofs.machine.Machine.open.Goals as goal

pub returns : goal.returns
returns g c =
    let o = c.args.opening.now in
    let play = c.in_ok-play.ensures ∙ ap (λ (o : OpeningData). opened o.policy o.terrain o.names) c.in_ok-try_clone.ensures in
    let many = ap length c.sectors.ensures ∙ ap (λ (p : PlayData). length p.sectors) play ∙ length-map o.terrain.sectors (opened_with o.policy) in
    let stages = c.in_ok-stages.ensures ∙ ap (λ n. replicate n Home) many in
    λ i. record { play = play i; stages = stages i; is_fixed = false; ticks = map tick_in (c.new.ensures.items i) }
