use Rattle.std.proofs.Common.{◌∙◌, refl, string_bytes}
use Rattle.serde_json.proofs.FreeTexts.{text_of_value}
use Rattle.vx_json.specs.Objects.{call_data}
use Rattle.vx_json.proofs.Compact.{call_written}
use Rattle.vx_json.proofs.objects.call_json.Goals as goal

pub returns-in-Ok : goal.returns-in-Ok
returns-in-Ok c =
    let call = c.args.call.now in
    let sent = c.in-Ok.ensures.events in
    text_of_value (call_data call.cmd.now call.player.now call.reply.now call.sector call.tick) sent.0 (string_bytes c.in-Ok.text) sent.1 sent.2 refl
    ∙ call_written call.cmd.now call.player.now call.reply.now call.sector call.tick c.requires.cmd c.requires.player c.requires.reply
