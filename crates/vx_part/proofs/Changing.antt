-- What a tick changes among the positions of a sector is what it changes among its components.
use Rattle.std.proofs.Common.{◌≡◌, ℕ, Bool, true, false, List, [], ◌∷◌, None, Some, if◌then◌else◌, refl, sym, ap, ◌∙◌}
use Rattle.std.specs.List.{filter}
use Rattle.vx_geom.specs.declared.pos.Pos.{Pos}
use Rattle.vx_block.specs.declared.cell.Cell.{Cell}
use Rattle.vx_block.specs.declared.cell.Cell.TheVariants as cell
use Rattle.vx_block.specs.Components.{is_component}
use Rattle.vx_cells.specs.CellsLaws.{cell_decided}
use Rattle.vx_part.specs.Changes.{change_at, before, changes}
use Rattle.vx_part.specs.Parts.{next_of, next_part}

module _ (w : Pos → Cell) (level : Pos → ℕ) where
  -- what is no component stays
  pub stays : (p : Pos) (c : Cell) → is_component c ≡ false → next_of w level p c ≡ c
  unfolding next_of
  stays p cell.Air is = refl
  stays p cell.Stone is = refl
  stays p cell.Dirt is = refl
  stays p cell.Planks is = refl
  stays p cell.Glass is = refl
  stays p cell.Obsidian is = refl
  stays p cell.Bedrock is = refl
  stays p cell.Chest is = refl
  stays p (cell.Lever facing on) is = refl
  stays p (cell.Piston facing sticky extended) is = refl
  stays p (cell.Head facing sticky) is = refl
  stays p (cell.Dust old) is = cc
  stays p (cell.Torch facing lit) is = cc
  stays p (cell.Repeater r) is = cc
  stays p (cell.Lamp lamp) is = cc

  -- nothing changes where the next part is the one that is there
  pub no_change : (p : Pos) → next_part w level p ≡ w p → change_at w level p ≡ None
  unfolding change_at
  no_change p still =
      ap (λ b. if b then None else Some (next_part w level p))
      ((cell_decided (next_part w level p) (w p)).1 still)

  module _ (keep : Pos → Bool) (rest : (p : Pos) → keep p ≡ false → next_part w level p ≡ w p) where
    -- one more position before others, kept or not
    more : (p : Pos) (ps : List Pos) (b : Bool) → keep p ≡ b
        → changes w level (filter keep ps) ≡ changes w level ps
        → changes w level (filter keep (p ∷ ps)) ≡ changes w level (p ∷ ps)
    more p ps true is others = rw is (ap (before p (change_at w level p)) others)
    more p ps false is others =
        rw is (others ∙ sym (ap (λ c. before p c (changes w level ps)) (no_change p (rest p is))))

    -- positions where nothing changes may be left out
    pub kept_change : (ps : List Pos) → changes w level (filter keep ps) ≡ changes w level ps
    kept_change [] = refl
    kept_change (p ∷ ps) = more p ps (keep p) refl (kept_change ps)

  -- so others than components may be
  pub components_change : (ps : List Pos)
      → changes w level (filter (λ p. is_component (w p)) ps) ≡ changes w level ps
  components_change = kept_change (λ p. is_component (w p)) (λ p is. stays p (w p) is)
