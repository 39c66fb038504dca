use Rattle.std.proofs.Common.{◌≡◌, ℕ, ◌+◌, ◌*◌, ◌/◌, ◌<◌, Bool, arith, ap, sym, ◌∙◌}
use Rattle.vx_geom.specs.declared.dir.Dir.{Dir}
use Rattle.vx_block.specs.declared.mount.Mount.{Mount}
use Rattle.vx_block.specs.declared.cell.Cell.TheVariants as cell
use Rattle.vx_store.specs.Codes.{is_odd, mount_at, dir_at, cell_of}
use Rattle.vx_store.proofs.CodeLemmas.{at_dust, at_torch, at_lever, at_repeater, at_lamp, at_head}
use Rattle.vx_store.proofs.code.encode.Goals as goal

torch_coded : (n code : ℕ) (f : Mount) (l : Bool) → n / 2 ≡ code → is_odd n ≡ l → n < 2 * code + 2 → code < 5 → mount_at code ≡ f
    → cell_of (24 + n) ≡ cell.Torch f l
torch_coded n code f l half odd near most at = at_torch n (omega arith) ∙ (λ i. cell.Torch ((ap mount_at half ∙ at) i) (odd i))

lever_coded : (n code : ℕ) (f : Dir) (l : Bool) → n / 2 ≡ code → is_odd n ≡ l → n < 2 * code + 2 → code < 6 → dir_at code ≡ f
    → cell_of (34 + n) ≡ cell.Lever f l
lever_coded n code f l half odd near most at = at_lever n (omega arith) ∙ (λ i. cell.Lever ((ap dir_at half ∙ at) i) (odd i))

head_coded : (n code : ℕ) (f : Dir) (s : Bool) → n / 2 ≡ code → is_odd n ≡ s → dir_at code ≡ f → cell_of (153 + n) ≡ cell.Head f s
head_coded n code f s half odd at = at_head n ∙ (λ i. cell.Head ((ap dir_at half ∙ at) i) (odd i))

pub returns-in-Dust-clause-cell : goal.returns-in-Dust-clause-cell
returns-in-Dust-clause-cell c = at_dust c.value.result c.value.ensures.most ∙ ap cell.Dust c.value.ensures.value ∙ sym c.in-Dust.is

pub returns-in-Torch-clause-cell : goal.returns-in-Torch-clause-cell
returns-in-Torch-clause-cell c =
    let coded = c.two.ensures in
    let facing = c.mount_code.ensures in
    torch_coded c.two.result _ _ _ coded.code coded.bit coded.most facing.most facing.value ∙ sym c.in-Torch.is

pub returns-in-Lever-clause-cell : goal.returns-in-Lever-clause-cell
returns-in-Lever-clause-cell c =
    let coded = c.two-in-Lever.ensures in
    let facing = c.dir_code.ensures in
    lever_coded c.two-in-Lever.result _ _ _ coded.code coded.bit coded.most facing.most facing.value ∙ sym c.in-Lever.is

pub returns-in-Repeater-clause-cell : goal.returns-in-Repeater-clause-cell
returns-in-Repeater-clause-cell c =
    at_repeater c.repeater_code.result c.repeater_code.ensures.most ∙ ap cell.Repeater c.repeater_code.ensures.value ∙ sym c.in-Repeater.is

pub returns-in-Lamp-clause-cell : goal.returns-in-Lamp-clause-cell
returns-in-Lamp-clause-cell c = at_lamp c.lamp_code.result c.lamp_code.ensures.most ∙ ap cell.Lamp c.lamp_code.ensures.value ∙ sym c.in-Lamp.is

pub returns-in-Head-clause-cell : goal.returns-in-Head-clause-cell
returns-in-Head-clause-cell c =
    let coded = c.two-in-Head.ensures in
    head_coded c.two-in-Head.result _ _ _ coded.code coded.bit c.dir_code-in-Head.ensures.value ∙ sym c.in-Head.is
