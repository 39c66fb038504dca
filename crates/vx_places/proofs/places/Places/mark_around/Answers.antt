use Rattle.std.proofs.Common.{Bool, ◌≡◌, ◌+◌, ◌*◌, FitsSigned, ap, subst, ◌∙◌, arith, rules}
use Rattle.std.specs.Int.{w32}
use Rattle.std.proofs.lemmas.Int.{to_z-of_z}
use Rattle.vx_geom.specs.declared.pos.Pos.{Pos}
use Rattle.vx_geom.specs.Sizes.{Sizes, span}
use Rattle.vx_cells.specs.Maps.{cell_on}
use Rattle.vx_store.specs.MachineMarks.{is_of}
use Rattle.vx_places.specs.Around.{is_kind_around, between_numbers, row_of, least_within, end_within, Adds}
use Rattle.vx_places.proofs.Adding.{none_below, more_numbers, all_numbers}
use Rattle.vx_places.proofs.Near.{near_row, end_most}
use Rattle.vx_places.proofs.places.Places.mark_around.Goals as goal
use Rattle.vx_places.proofs.places.Places.mark_around.Goals.{After-least_within-next}

-- what is known as the loop begins
many : (c : After-least_within-next) → c.rows-count.result ≡ c.args.self.now.sizes.sz * span c.args.self.now.sizes
many c = c.rows-count.ensures.value ∙ ap (λ (v : Sizes). v.sz * span v) c.bounds-bounds.ensures

first : (c : After-least_within-next)
    → c.least_within-next.result ≡ least_within c.args.p.z c.args.steps c.rows-count.result
first c =
    let in_z : FitsSigned w32 c.args.p.z = search rules in
    c.least_within-next.ensures
    ∙ (λ i. least_within (to_z-of_z w32 c.args.p.z in_z i) (c.from-steps.ensures i) c.rows-count.result)

end : (c : After-least_within-next)
    → c.end_within-end.result ≡ end_within c.args.p.z c.args.steps c.rows-count.result
end c =
    let in_z : FitsSigned w32 c.args.p.z = search rules in
    c.end_within-end.ensures
    ∙ (λ i. end_within (to_z-of_z w32 c.args.p.z in_z i) (c.from-steps.ensures i) c.rows-count.result)

-- the test by which positions are added
abbrev stands : After-least_within-next → Pos → Bool
stands c q = is_of c.args.kind (cell_on c.args.map.now q)

abbrev around : After-least_within-next → Pos → Bool
around c = is_kind_around c.args.kind (cell_on c.args.map.now) c.args.p c.args.steps

pub loop-next-init : goal.loop-next-init
loop-next-init c =
    let b = (goal.at.loop-next-init c).After-least_within-next in
    record {
      least = omega arith;
      added = none_below row_of (around b) c.args.self.now c.least_within-next.result
          (λ q inside near. omega (
            arith,
            first b,
            (near_row (stands b) c.args.self.now.sizes c.args.p c.args.steps q inside c.rows-count.result (many b) near).0,
          ));
    }

pub mark_rows-requires-clause-within : goal.mark_rows-requires-clause-within
mark_rows-requires-clause-within c =
    let b = (goal.at.mark_rows-requires-clause-within c).After-least_within-next in
    omega (
      arith,
      c.loop-next-test.true,
      c.min-length.ensures,
      end b,
      end_most c.args.p.z c.args.steps c.rows-count.result,
      many b,
      ap (λ (v : Sizes). v.sz * span v) c.loop-next.invariant.added.sizes,
    )

pub loop-next-preserved : goal.loop-next-preserved
loop-next-preserved c =
    let b = (goal.at.loop-next-preserved c).After-least_within-next in
    let next = c.loop-next.next in
    let end = next + c.min-length.result in
    let old = c.loop-next.self in
    let new = c.mark_rows.new.self in
    record {
      least = omega (arith, c.loop-next.invariant.least);
      added = more_numbers row_of (around b) c.args.self.now next end old new (omega arith) c.loop-next.invariant.added
          (subst (λ n. Adds (between_numbers row_of (is_kind_around c.args.kind (cell_on c.args.map.now) c.args.p n) next end) old new)
          c.from-steps.ensures c.in_ok-mark_rows.ensures.marked);
    }

pub returns-clause-marked : goal.returns-clause-marked
returns-clause-marked c =
    let b = (goal.at.returns-clause-marked c).After-least_within-next in
    (all_numbers row_of (around b) c.args.self.now c.loop-next.next c.loop-next.self c.loop-next.invariant.added
    (λ q inside near. omega (
      arith,
      end b,
      c.loop-next-test.false,
      (near_row (stands b) c.args.self.now.sizes c.args.p c.args.steps q inside c.rows-count.result (many b) near).1,
    ))).marked
