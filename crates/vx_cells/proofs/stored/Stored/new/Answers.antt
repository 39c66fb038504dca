use Rattle.std.proofs.Common.{◌/◌, replicate, refl, ap, sym, subst, ◌∙◌}
use Rattle.vx_block.specs.Components.{is_device, is_component}
use Rattle.vx_geom.specs.Sizes.{sector_cells}
use Rattle.vx_store.specs.MachineMarks.{AreMachineMarks}
use Rattle.vx_cells.proofs.Sectioned.{whole_words, all_alike}
use Rattle.vx_cells.proofs.StoredBlocks.{stored-fresh, fresh-stored}
use Rattle.vx_store.proofs.Marks.{blank_marks}
use Rattle.vx_cells.proofs.stored.Stored.new.Goals as goal

pub invariant_of-result : goal.invariant_of-result
invariant_of-result c =
    let v = c.args.bounds in
    let n = sector_cells v in
    let store = c.in_ok-store.store in
    let count = c.sector_cells-count.ensures in
    let codes =
    all_alike v c.soundness.ensures _ _ _ c.span-wide.ensures c.from.ensures c.height.ensures store 0 c.in_ok-store.ensures in
    let whole = whole_words v c.soundness.ensures in
    record {
      sector_low = c.requires;
      stored = stored-fresh v n store _ codes c.in_ok-new.ensures refl;
      marks = subst (AreMachineMarks store) (sym c.in_ok-new-3.ensures.ok) (record {
        components = blank_marks is_component n store c.in_ok-new-2.field-0.components refl codes whole
            (c.in_ok-new-2.ensures.components ∙ ap (λ k. replicate (k / 64) 0) count);
        devices = blank_marks is_device n store c.in_ok-new-2.field-0.devices refl codes whole
            (c.in_ok-new-2.ensures.devices ∙ ap (λ k. replicate (k / 64) 0) count);
      });
    }

pub returns : goal.returns
returns c =
    let v = c.args.bounds in
    let codes =
    all_alike v c.soundness.ensures _ _ _ c.span-wide.ensures c.from.ensures c.height.ensures c.in_ok-store.store 0 c.in_ok-store.ensures in
    fresh-stored v c.args.sector (sector_cells v) c.in_ok-store.store _ codes c.in_ok-new.ensures refl
