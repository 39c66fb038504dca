use Rattle.std.proofs.Common.{rules, ◌≡◌, true, Option, Some, None, IsSome, SomeIff, sym, ap, subst, ◌∙◌}
use Rattle.vx_geom.specs.declared.pos.Pos.{Pos}
use Rattle.vx_geom.specs.Neighbor.{neighbor}
use Rattle.vx_cells.specs.Maps.{cell_on}
use Rattle.vx_cells.specs.SectorCells.{holds, cell_at}
use Rattle.vx_cells.proofs.Nearby.{close_beside, fits_around}
use Rattle.vx_power.proofs.nearby.next_nearby.Goals as goal
use Rattle.vx_power.proofs.nearby.next_nearby.Goals.{After-unwrap}

-- what is found where a fact holds is that value
found_where : (found : Option Pos) (P : Type 0) (v : Pos) → SomeIff found P v → P → found ≡ Some v
found_where (Some p) P v iff fact = ap Some iff.1
found_where None P v iff fact = absurd (iff fact)

pub unwrap-requires : goal.unwrap-requires
unwrap-requires c =
    let fits = fits_around c.args.map.now c.args.cells.now c.args.p c.soundness.ensures c.requires _ (close_beside c.args.p c.args.dir) in
    subst IsSome (sym (found_where c.step.result _ _ c.step.ensures fits)) (search rules)

is_beside : (c : After-unwrap) → c.unwrap.result ≡ neighbor c.args.p c.args.dir
is_beside c =
    let fits = fits_around c.args.map.now c.args.cells.now c.args.p c.soundness.ensures c.requires _ (close_beside c.args.p c.args.dir) in
    let same = sym c.unwrap.ensures ∙ found_where c.step.result _ _ c.step.ensures fits in
    cc

pub returns-clause-held : goal.returns-clause-held
returns-clause-held c =
    subst (λ q. holds c.args.cells.now q ≡ true) (sym (is_beside c))
    (c.requires.held _ (close_beside c.args.p c.args.dir))

pub returns-clause-cell : goal.returns-clause-cell
returns-clause-cell c =
    subst (λ q. cell_at c.args.cells.now q ≡ cell_on c.args.map.now q) (sym (is_beside c))
    (c.requires.stands _ (close_beside c.args.p c.args.dir))
