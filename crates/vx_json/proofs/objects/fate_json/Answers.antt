use Rattle.std.proofs.Common.{◌∙◌, refl, string_bytes}
use Rattle.serde_json.proofs.FreeTexts.{text_of_value}
use Rattle.vx_json.specs.Objects.{fate_data}
use Rattle.vx_json.proofs.Compact.{fate_written}
use Rattle.vx_json.proofs.objects.fate_json.Goals as goal

pub returns-in-Ok : goal.returns-in-Ok
returns-in-Ok c =
    let told = c.args.told.now in
    let sent = c.in-Ok.ensures.events in
    text_of_value (fate_data told.fate.now told.tick) sent.0 (string_bytes c.in-Ok.text) sent.1 sent.2 refl
    ∙ fate_written told.fate.now told.tick c.requires
