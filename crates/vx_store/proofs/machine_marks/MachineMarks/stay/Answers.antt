use Rattle.std.proofs.Common.{◌≡◌, Bool, true, false, refl, sym, ap, ◌∙◌}
use Rattle.std.proofs.Math.Bool.{beq}
use Rattle.vx_block.specs.Components.{is_component, is_device}
use Rattle.vx_store.specs.Codes.{cell_of}
use Rattle.vx_store.proofs.Marks.{marks_kept}
use Rattle.vx_store.proofs.machine_marks.MachineMarks.stay.Goals as goal

one : (a b : Bool) → beq a b ≡ true → a ≡ b
one true true e = refl
one false false e = refl
one true false e = absurd (cc)
one false true e = absurd (cc)

pub returns-then-is_component : goal.returns-then-is_component
returns-then-is_component c same store index marks near here are = record {
  components = marks_kept is_component store _ index c.args.code are.components near
      (are.components.each index ∙ ap (λ code. is_component (cell_of code)) here
      ∙ sym c.is_component.ensures ∙ one _ _ c.if-is_component.true ∙ c.is_component-2.ensures);
  devices = marks_kept is_device store _ index c.args.code are.devices near
      (are.devices.each index ∙ ap (λ code. is_device (cell_of code)) here
      ∙ sym c.is_device.ensures ∙ one _ _ same ∙ c.is_device-then-is_component.ensures);
}
