use Rattle.std.proofs.Common.{◌≡◌, ◌≢◌, Bool, true, false, Option, None, ap, refl, subst, if◌then◌else◌, sym, ◌∙◌}
use Rattle.std.specs.Option.{option_copied}
use Rattle.vx_block.specs.declared.cell.Cell.{Cell}
use Rattle.vx_block.specs.declared.cell.Cell.TheVariants as cell
use Rattle.vx_store.specs.Codes.{is_chest}
use Rattle.vx_cells.specs.SectorCells.{cell_at}
use Rattle.vx_sector.proofs.ChestLemmas.{no_slots}
use Rattle.vx_sector.proofs.chests.is_in_use.Goals as goal

not_chest : {X : Type 0} (b : Bool) (x : X) → (if b then Option.Some x else None) ≡ None → b ≡ false
not_chest true x h = cc
not_chest false x h = refl

no_chest : (x : Cell) → x ≢ cell.Chest → is_chest x ≡ false
no_chest cell.Chest h = absurd (h refl)
no_chest x h = refl

pub returns-in-None : goal.returns-in-None
returns-in-None c = rw (no_slots _ _ c.requires.whole (not_chest _ _ (sym c.slots.ensures.slots ∙ ap option_copied c.in-None.is))) refl

pub returns-in_default : goal.returns-in_default
returns-in_default c =
    let none : is_chest (cell_at c.args.cells.now c.args.p) ≡ false =
    subst (λ x. is_chest x ≡ false) c.requires.cell (no_chest c.args.cell c.in_default.not-Chest) in
    rw (no_slots c.args.cells.now c.args.p c.requires.whole none) refl
