-- What is kept of the dust of a map tells of it from tick to tick.
use Rattle.std.proofs.Common.{◌≡◌, false, List, [], ◌∷◌, ◌++◌, refl, sym, ap, ◌∙◌}
use Rattle.std.specs.List.{list_any}
use Rattle.std.proofs.lemmas.Bool.{or_parts}
use Rattle.vx_geom.specs.declared.pos.Pos.{Pos}
use Rattle.vx_geom.specs.Neighbor.{neighbor}
use Rattle.vx_block.specs.declared.cell.Cell.{Cell}
use Rattle.vx_block.specs.Components.{is_device, is_dust}
use Rattle.vx_cells.specs.Maps.{MapData, cell_on}
use Rattle.vx_levels.specs.Linked.{level_at}
use Rattle.vx_power.specs.Levels.{has, stored_level}
use Rattle.vx_power.specs.Local.{sees, is_touched}
use Rattle.vx_power.specs.Turning.{built, BuiltAlike}
use Rattle.vx_power.specs.Walks.{IsAmong}
use Rattle.vx_power.proofs.Having.{has_joined, none_at, fewer}
use Rattle.vx_power.proofs.Local.{links_see_built}
use Rattle.vx_power.proofs.Showing.{built_conductor, built_dust, same_build}
use Rattle.vx_power.proofs.Turning.{beside_seen, through_seen}
use Rattle.vx_still.specs.Mirrored.{WritesKeepMirror, TicksLeaveMirror}
use Rattle.vx_still.specs.Unheeded.{IsUnheeded}
use Rattle.vx_still.proofs.Stilling.{own_seen, ticks_mirror}

pub none_of_none : (ps : List Pos) → list_any (has []) ps ≡ false
none_of_none [] = refl
none_of_none (p ∷ ps) = none_of_none ps

-- what is built alike is a device on both
built_device : (c d : Cell) → built c ≡ built d → is_device c ≡ is_device d
built_device = same_build is_device (λ level. refl) (λ state. refl) (λ facing lit. refl) (λ facing on. refl) (λ r. refl)

-- where all in sight of p is built alike, no device heeds it on the other map, either
unheeded_too : (m next : MapData) (p : Pos) → BuiltAlike (sees p) (cell_on m) (cell_on next) → IsUnheeded m p → IsUnheeded next p
unheeded_too m next p alike unheeded = record {
  own = none p (own_seen p) unheeded.own;
  beside = λ d. none (neighbor p d) (beside_seen p d) (unheeded.beside d);
  through = λ d e is.
      let n = neighbor p d in
      none (neighbor n e) (through_seen p d e)
      (unheeded.through d e (built_conductor (cell_on m n) (cell_on next n) (alike n (beside_seen p d)) ∙ is));
}
  where
    none : (q : Pos) → IsAmong (sees p) q → is_device (cell_on m q) ≡ false → is_device (cell_on next q) ≡ false
    none q among is = sym (built_device (cell_on m q) (cell_on next q) (alike q among)) ∙ is

pub writes_keep_mirror : WritesKeepMirror
writes_keep_mirror m next rebuilt written dust mirror kept = record {
  levels = λ p lies none.
      let parts = apart p none in
      let same = kept p parts.1 in
      mirror.levels p (sym (ap is_dust same) ∙ lies) parts.0 ∙ sym (ap stored_level same);
  empty = λ p bare none.
      let parts = apart p none in
      mirror.empty p (sym (ap is_dust (kept p parts.1)) ∙ bare) parts.0;
  linked = λ p none lies.
      let same = unwritten p none in
      let seen = links_see_built (cell_on next) (cell_on m) p (λ q among. ap built (same q among)) in
      mirror.linked p (untouched p none) (sym (ap is_dust (same p (own_seen p))) ∙ lies) ∙ sym seen;
  unheeded = record {
    dust = λ p at none. let parts = apart p none in ap is_dust (kept p parts.1) ∙ mirror.unheeded.dust p at parts.0;
    each = λ p at none.
        unheeded_too m next p (λ q among. sym (ap built (unwritten p none q among)))
        (mirror.unheeded.each p at (untouched p none));
  };
}
  where
    apart : (q : Pos) → has (rebuilt ++ written) q ≡ false → (has rebuilt q ≡ false) × (has written q ≡ false)
    apart q none = or_parts (has rebuilt q) (has written q) (sym (has_joined rebuilt written q) ∙ none)

    untouched : (p : Pos) → is_touched (has (rebuilt ++ written)) p ≡ false → is_touched (has rebuilt) p ≡ false
    untouched p none = fewer (has rebuilt) (has (rebuilt ++ written)) (λ q no. (apart q no).0) (sees p) none

    unwritten : (p : Pos) → is_touched (has (rebuilt ++ written)) p ≡ false → (q : Pos) → IsAmong (sees p) q → cell_on next q ≡ cell_on m q
    unwritten p none q among = kept q (apart q (none_at (has (rebuilt ++ written)) (sees p) q none among)).1

pub ticks_leave_mirror : TicksLeaveMirror
ticks_leave_mirror m next waking dust left kept = record {
  levels = ticks_mirror m next waking (level_at dust.levels) left kept.right.exact;
  empty = λ p bare none. kept.right.empty p (sym (built_dust (cell_on next p) (cell_on m p) (left.builds p none)) ∙ bare);
  linked = λ p none lies.
      let seen = links_see_built (cell_on next) (cell_on m) p
      (λ q among. left.builds q (none_at (has waking.rebuilt) (sees p) q none among)) in
      let here = none_at (has waking.rebuilt) (sees p) p none (own_seen p) in
      kept.right.linked p (sym (built_dust (cell_on next p) (cell_on m p) (left.builds p here)) ∙ lies) ∙ sym seen;
  unheeded = record {
    dust = λ p at none. built_dust (cell_on next p) (cell_on m p) (left.builds p none) ∙ kept.unheeded.dust p at refl;
    each = λ p at none.
        unheeded_too m next p (λ q among. sym (left.builds q (none_at (has waking.rebuilt) (sees p) q none among)))
        (kept.unheeded.each p at (none_of_none (sees p)));
  };
}
