-- What a part heeds of the cells and levels around it, and what stands where no dust lies.
use Rattle.std.proofs.Common.{◌≡◌, ℕ, zero, suc, Bool, true, false, ◌&&◌, ◌||◌, inl, List, [], refl, ap, ◌∙◌}
use Rattle.std.specs.List.{list_any}
use Rattle.std.proofs.lemmas.Bool.{false≢true}
use Rattle.vx_geom.specs.declared.pos.Pos.{Pos}
use Rattle.vx_geom.specs.Dirs.{all_dirs}
use Rattle.vx_block.specs.declared.cell.Cell.{Cell}
use Rattle.vx_block.specs.declared.cell.Cell.TheVariants as cell
use Rattle.vx_block.specs.Components.{is_dust, is_component}
use Rattle.vx_cells.specs.Maps.{MapData, cell_on}
use Rattle.vx_power.specs.Dust.{links}
use Rattle.vx_power.specs.Laws.{dust_level}
use Rattle.vx_power.specs.Levels.{stored_level}
use Rattle.vx_power.specs.Local.{around, within_steps, sees}
use Rattle.vx_power.specs.Signals.{has_feeder, is_fed}
use Rattle.vx_power.specs.Walks.{within, level_of, IsAmong}
use Rattle.vx_power.proofs.Linking.{among_left}
use Rattle.vx_power.proofs.Reaching.{no_links}
use Rattle.vx_power.proofs.Rounds.{no_level}
use Rattle.vx_part.specs.Laws.{reads}
use Rattle.vx_part.specs.Parts.{next_of}
use Rattle.vx_part.proofs.Changing.{stays}
use Rattle.vx_piston.specs.Moves.{is_restless, restless_as}
use Rattle.vx_still.specs.Waking.{Rests}

-- two steps lead nowhere that four don't
pub sees_reads : (p q : Pos) → IsAmong (sees p) q → IsAmong (reads p) q
sees_reads p q among =
    among_left (within_steps 3 p) (around (within_steps 3) p all_dirs) q
    (among_left (within_steps 2 p) (around (within_steps 2) p all_dirs) q among)

pub own_read : (p : Pos) → IsAmong (reads p) p
own_read p = sees_reads p p
    (among_left (within_steps 1 p) (around (within_steps 1) p all_dirs) p
    (among_left (within_steps 0 p) (around (within_steps 0) p all_dirs) p (inl refl)))

-- the next part of dust is dust with its level
pub dust_next : (w : Pos → Cell) (level : Pos → ℕ) (p : Pos) (c : Cell) → is_dust c ≡ true
    → next_of w level p c ≡ cell.Dust (level p)
unfolding next_of
dust_next w level p (cell.Dust old) is = refl
dust_next w level p _ is = absurd (false≢true is)

-- and dust is no piston
pub dust_rests : (w : Pos → Cell) (level : Pos → ℕ) (p : Pos) (v : ℕ) (c : Cell) → c ≡ cell.Dust v
    → restless_as w level p c ≡ false
dust_rests w level p v c is = ap (restless_as w level p) is

-- what is no dust stores none
pub no_store : (c : Cell) → is_dust c ≡ false → stored_level c ≡ 0
no_store (cell.Dust level) none = cc
no_store cell.Air none = refl
no_store cell.Stone none = refl
no_store cell.Dirt none = refl
no_store cell.Planks none = refl
no_store cell.Glass none = refl
no_store cell.Obsidian none = refl
no_store cell.Bedrock none = refl
no_store cell.Chest none = refl
no_store (cell.Torch facing lit) none = refl
no_store (cell.Lever facing on) none = refl
no_store (cell.Repeater r) none = refl
no_store (cell.Lamp state) none = refl
no_store (cell.Piston facing sticky extended) none = refl
no_store (cell.Head facing sticky) none = refl

-- a place that is not fed and links to nothing is within reach of no fed place
never_within : {X : Type 0} (fed : X → Bool) (links : X → List X) (p : X) → fed p ≡ false
    → links p ≡ [] → (n : ℕ) → within fed links n p ≡ false
unfolding within
never_within fed links p unfed none zero = unfed
never_within fed links p unfed none (suc n) =
    ap (λ b. b || list_any (within fed links n) (links p)) (never_within fed links p unfed none n)
    ∙ ap (list_any (within fed links n)) none

-- so what is no dust has no level
pub no_dust_level : (w : Pos → Cell) (p : Pos) → is_dust (w p) ≡ false → dust_level w p ≡ 0
unfolding is_fed level_of
no_dust_level w p none =
    no_level (is_fed w) (links w) 14 p
    (never_within (is_fed w) (links w) p (ap (λ b. b && has_feeder w p) none) (no_links w p none) 14)

-- what is no component is no piston
pub no_piston : (w : Pos → Cell) (level : Pos → ℕ) (p : Pos) (c : Cell) → is_component c ≡ false
    → restless_as w level p c ≡ false
no_piston w level p (cell.Piston facing sticky extended) none = cc
no_piston w level p _ none = refl

-- and it rests
pub others_rest : (m : MapData) (p : Pos) → is_component (cell_on m p) ≡ false → Rests m p
unfolding is_restless
others_rest m p none = record {
  part = stays (cell_on m) (dust_level (cell_on m)) p (cell_on m p) none;
  piston = no_piston (cell_on m) (dust_level (cell_on m)) p (cell_on m p) none;
}
