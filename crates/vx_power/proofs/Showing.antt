-- What is told of a cell by what it shows.
use Rattle.std.proofs.Common.{◌≡◌, ℕ, Bool, true, refl, sym, ap, ◌∙◌}
use Rattle.vx_geom.specs.declared.dir.Dir.{Dir}
use Rattle.vx_block.specs.declared.cell.Cell.{Cell}
use Rattle.vx_block.specs.declared.cell.Cell.TheVariants as cell
use Rattle.vx_block.specs.declared.lamp.Lamp.{Lamp}
use Rattle.vx_block.specs.declared.lamp.Lamp.TheVariants.{Off}
use Rattle.vx_block.specs.declared.mount.Mount.{Mount}
use Rattle.vx_block.specs.declared.side.Side.{Side}
use Rattle.vx_block.specs.Components.{is_dust}
use Rattle.vx_block.specs.Conductors.{conducts}
use Rattle.vx_block.specs.Repeating.{Repeating}
use Rattle.vx_power.specs.Dust.{is_joined}
use Rattle.vx_power.specs.Local.{shown}
use Rattle.vx_power.specs.Signals.{gives, drives}
use Rattle.vx_power.specs.Turning.{built}

-- what heeds no level of dust, no state of a lamp and no count of a repeater
module _ {X : Type 0} (f : Cell → X) (dust : (level : ℕ) → f (cell.Dust 0) ≡ f (cell.Dust level))
    (lamp : (state : Lamp) → f (cell.Lamp Off) ≡ f (cell.Lamp state))
    (repeater : (r : Repeating) → f (cell.Repeater (record r { wait = 0 })) ≡ f (cell.Repeater r)) where
  -- heeds what is shown alone
  of_shown : (c : Cell) → f (shown c) ≡ f c
  of_shown (cell.Dust level) = dust level
  of_shown (cell.Lamp state) = lamp state
  of_shown (cell.Repeater r) = repeater r
  of_shown cell.Air = refl
  of_shown cell.Stone = refl
  of_shown cell.Dirt = refl
  of_shown cell.Planks = refl
  of_shown cell.Glass = refl
  of_shown cell.Obsidian = refl
  of_shown cell.Bedrock = refl
  of_shown cell.Chest = refl
  of_shown (cell.Torch facing lit) = refl
  of_shown (cell.Lever facing on) = refl
  of_shown (cell.Piston facing sticky extended) = refl
  of_shown (cell.Head facing sticky) = refl

  -- and is the same of two cells that show the same
  pub same_told : (c d : Cell) → shown c ≡ shown d → f c ≡ f d
  same_told c d same = sym (of_shown c) ∙ ap f same ∙ of_shown d

pub same_dust : (c d : Cell) → shown c ≡ shown d → is_dust c ≡ is_dust d
same_dust = same_told is_dust (λ level. refl) (λ state. refl) (λ r. refl)

pub same_giver : (c d : Cell) (dir : Dir) → shown c ≡ shown d → gives c dir ≡ gives d dir
same_giver c d dir = same_told (λ c. gives c dir) (λ level. refl) (λ state. refl) (λ r. refl) c d

pub same_driver : (c d : Cell) (dir : Dir) → shown c ≡ shown d → drives c dir ≡ drives d dir
same_driver c d dir = same_told (λ c. drives c dir) (λ level. refl) (λ state. refl) (λ r. refl) c d

-- what heeds, besides, not whether a torch, a lever or a repeater is on
module _ {X : Type 0} (f : Cell → X) (dust : (level : ℕ) → f (cell.Dust 0) ≡ f (cell.Dust level))
    (lamp : (state : Lamp) → f (cell.Lamp Off) ≡ f (cell.Lamp state))
    (torch : (facing : Mount) (lit : Bool) → f (cell.Torch facing true) ≡ f (cell.Torch facing lit))
    (lever : (facing : Dir) (on : Bool) → f (cell.Lever facing true) ≡ f (cell.Lever facing on))
    (repeater : (r : Repeating) → f (cell.Repeater (record r { wait = 0; on = true })) ≡ f (cell.Repeater r)) where
  -- heeds how a cell is built alone
  of_built : (c : Cell) → f (built c) ≡ f c
  of_built (cell.Dust level) = dust level
  of_built (cell.Lamp state) = lamp state
  of_built (cell.Torch facing lit) = torch facing lit
  of_built (cell.Lever facing on) = lever facing on
  of_built (cell.Repeater r) = repeater r
  of_built cell.Air = refl
  of_built cell.Stone = refl
  of_built cell.Dirt = refl
  of_built cell.Planks = refl
  of_built cell.Glass = refl
  of_built cell.Obsidian = refl
  of_built cell.Bedrock = refl
  of_built cell.Chest = refl
  of_built (cell.Piston facing sticky extended) = refl
  of_built (cell.Head facing sticky) = refl

  -- and is the same of two cells that are built alike
  pub same_build : (c d : Cell) → built c ≡ built d → f c ≡ f d
  same_build c d same = sym (of_built c) ∙ ap f same ∙ of_built d

pub built_dust : (c d : Cell) → built c ≡ built d → is_dust c ≡ is_dust d
built_dust = same_build is_dust (λ level. refl) (λ state. refl) (λ facing lit. refl) (λ facing on. refl) (λ r. refl)

pub built_conductor : (c d : Cell) → built c ≡ built d → conducts c ≡ conducts d
built_conductor = same_build conducts (λ level. refl) (λ state. refl) (λ facing lit. refl) (λ facing on. refl) (λ r. refl)

pub built_joined : (c d : Cell) (side : Side) → built c ≡ built d → is_joined side c ≡ is_joined side d
built_joined c d side =
    same_build (is_joined side) (λ level. refl) (λ state. refl) (λ facing lit. refl) (λ facing on. refl) (λ r. refl) c d
