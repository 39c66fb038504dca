use Rattle.std.proofs.Common.{◌≡◌, true, [], ◌∷◌, ◌++◌, if◌then◌else◌, refl, sym, ap, ◌∙◌}
use Rattle.std.proofs.lemmas.List.{append-nil}
use Rattle.vx_block.specs.declared.cell.Cell.{Cell}
use Rattle.vx_block.specs.declared.cell.Cell.TheVariants as cell
use Rattle.vx_block.specs.Components.{is_dust}
use Rattle.vx_cells.specs.CellsLaws.{cell_decided}
use Rattle.vx_cells.specs.Maps.{cell_on}
use Rattle.vx_power.specs.Local.{shown}
use Rattle.vx_tick.proofs.leaving.look.Goals as goal

-- all dust shows the same
dust_shown : (c : Cell) → is_dust c ≡ true → shown c ≡ cell.Dust 0
dust_shown (cell.Dust l) is = refl
dust_shown (cell.Torch facing lit) is = cc
dust_shown (cell.Lever facing on) is = cc
dust_shown (cell.Repeater r) is = cc
dust_shown (cell.Lamp lamp) is = cc
dust_shown (cell.Piston d sticky extended) is = cc
dust_shown (cell.Head facing sticky) is = cc
dust_shown cell.Air is = cc
dust_shown cell.Stone is = cc
dust_shown cell.Dirt is = cc
dust_shown cell.Planks is = cc
dust_shown cell.Glass is = cc
dust_shown cell.Obsidian is = cc
dust_shown cell.Bedrock is = cc
dust_shown cell.Chest is = cc

pub returns-then-is_dust-clause-turned : goal.returns-then-is_dust-clause-turned
returns-then-is_dust-clause-turned c =
    let a = c.args.cell.now in
    let b = cell_on c.args.map.now c.args.p in
    let old = c.args.waking.now.turned in
    let dust = sym c.if-is_dust.ensures in
    let same = (cell_decided (shown a) (shown b)).1 (dust_shown a dust ∙ sym (dust_shown b (sym c.requires ∙ dust))) in
    sym (append-nil old)
    ∙ sym (ap (λ s. old ++ (if s then [] else c.args.p ∷ [])) same)
