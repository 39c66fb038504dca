-- What rests by what it heeds of levels.
use Rattle.std.proofs.Common.{◌≡◌, true, refl, sym, ap, ◌∙◌}
use Rattle.std.proofs.lemmas.Bool.{false≢true}
use Rattle.vx_block.specs.declared.cell.Cell.{Cell}
use Rattle.vx_block.specs.declared.cell.Cell.TheVariants as cell
use Rattle.vx_block.specs.Components.{is_dust}
use Rattle.vx_cells.specs.Maps.{cell_on}
use Rattle.vx_power.specs.Laws.{dust_level}
use Rattle.vx_power.specs.Levels.{stored_level}
use Rattle.vx_piston.specs.Moves.{is_restless}
use Rattle.vx_still.specs.Stillness.{stored_on, OthersRest, DustRests}
use Rattle.vx_still.proofs.Heeding.{dust_next, dust_rests}
use Rattle.vx_still.proofs.Stilling.{parts_read_power}

pub others_rest_by_power : OthersRest
others_rest_by_power m waking p still away none other powers =
    let stays = still.parts p away none in
    let same = parts_read_power (cell_on m) (stored_on m) (dust_level (cell_on m)) p other powers in
    record { part = sym same.0 ∙ stays.part; piston = sym same.1 ∙ stays.piston }

pub dust_rests_by_level : DustRests
unfolding is_restless
dust_rests_by_level m p dust is = record {
  part = dust_next (cell_on m) (dust_level (cell_on m)) p (cell_on m p) dust ∙ ap cell.Dust (sym is) ∙ sym (own (cell_on m p) dust);
  piston = dust_rests (cell_on m) (dust_level (cell_on m)) p (stored_level (cell_on m p)) (cell_on m p) (own (cell_on m p) dust);
}
  where
    own : (c : Cell) → is_dust c ≡ true → c ≡ cell.Dust (stored_level c)
    own (cell.Dust level) is = refl
    own _ is = absurd (false≢true is)
