use Rattle.std.proofs.Common.{◌≡◌, ℕ, List, IfOk, ap, ◌∙◌, subst}
use Rattle.vx_geom.specs.declared.pos.Pos.{Pos}
use Rattle.vx_geom.specs.Places.{positions}
use Rattle.vx_cells.specs.Listed.{components_on}
use Rattle.vx_cells.specs.Maps.{MapData, cell_on}
use Rattle.vx_part.specs.Changes.{changes}
use Rattle.vx_part.proofs.Changing.{components_change}
use Rattle.vx_part.proofs.Nearby.{same_changes}
use Rattle.vx_part.proofs.changes.next_parts.Goals as goal

-- changes among the components of a sector are those among its positions
all_changes : (m : MapData) (k : ℕ) (level : Pos → ℕ) (ps qs : List Pos) → ps ≡ qs → qs ≡ components_on m k
    → changes (cell_on m) level ps ≡ changes (cell_on m) level (positions m.sizes k)
unfolding components_on
all_changes m k level ps qs given listed =
    ap (changes (cell_on m) level) (given ∙ listed) ∙ components_change (cell_on m) level (positions m.sizes k)

pub returns-clause-by_levels : goal.returns-clause-by_levels
returns-clause-by_levels g c =
    subst (λ all. IfOk c.changes_among.result (λ found. found.items ≡ all))
    (all_changes c.args.map.now c.args.sector (g.L.Leveled.level c.args.levels.now)
    c.as_slice.result.now c.in_ok-components.components.items c.as_slice.ensures.value c.in_ok-components.ensures)
    c.changes_among.ensures

pub returns-clause-exact : goal.returns-clause-exact
returns-clause-exact g c levels =
    subst (λ all. IfOk c.changes_among.result (λ found. found.items ≡ all))
    (all_changes c.args.map.now c.args.sector (g.L.Leveled.level c.args.levels.now)
    c.as_slice.result.now c.in_ok-components.components.items c.as_slice.ensures.value c.in_ok-components.ensures
    ∙ same_changes c.args.map.now c.args.sector (g.L.Leveled.level c.args.levels.now) levels c.soundness.ensures.valid c.requires)
    c.changes_among.ensures
