use Rattle.std.proofs.Common.{Bool, ◌≡◌, ◌+◌, ◌*◌, ◌%◌, ◌≤◌, FitsSigned, ap, sym, subst, ◌∙◌, arith, rules}
use Rattle.std.specs.Int.{w32}
use Rattle.std.proofs.lemmas.Bool.{and_parts}
use Rattle.std.proofs.lemmas.Int.{to_z-of_z}
use Rattle.vx_geom.specs.declared.pos.Pos.{Pos}
use Rattle.vx_geom.specs.Sizes.{Sizes, span}
use Rattle.vx_cells.specs.Maps.{cell_on}
use Rattle.vx_store.specs.MachineMarks.{is_of}
use Rattle.vx_places.specs.Areas.{IsPart}
use Rattle.vx_places.specs.declared.area.Area.{Area}
use Rattle.vx_places.specs.Around.{is_kind_around, between_numbers, row_of, column_of, least_within, end_within}
use Rattle.vx_places.proofs.Adding.{none_below, more_numbers, all_numbers}
use Rattle.vx_places.proofs.Near.{near_column, end_most}
use Rattle.vx_places.proofs.places.Places.mark_rows.Goals as goal
use Rattle.vx_places.proofs.places.Places.mark_rows.Goals.{After-least_within-west}

-- what is known of the rows as the loop begins
many : (c : After-least_within-west) → c.columns-count.result ≡ c.args.self.now.sizes.sx * span c.args.self.now.sizes
many c = c.columns-count.ensures.value ∙ ap (λ (v : Sizes). v.sx * span v) c.bounds-bounds.ensures

first : (c : After-least_within-west)
    → c.least_within-west.result ≡ least_within c.args.p.x c.args.steps c.columns-count.result
first c =
    let in_x : FitsSigned w32 c.args.p.x = search rules in
    c.least_within-west.ensures ∙ ap (λ n. least_within n c.args.steps c.columns-count.result) (to_z-of_z w32 c.args.p.x in_x)

end : (c : After-least_within-west)
    → c.end_within-end.result ≡ end_within c.args.p.x c.args.steps c.columns-count.result
end c =
    let in_x : FitsSigned w32 c.args.p.x = search rules in
    c.end_within-end.ensures ∙ ap (λ n. end_within n c.args.steps c.columns-count.result) (to_z-of_z w32 c.args.p.x in_x)

-- the tests by which positions are added, in all rows and in these
abbrev stands : After-least_within-west → Pos → Bool
stands c q = is_of c.args.kind (cell_on c.args.map.now q)

abbrev around : After-least_within-west → Pos → Bool
around c = is_kind_around c.args.kind (cell_on c.args.map.now) c.args.p c.args.steps

abbrev in_rows : After-least_within-west → Pos → Bool
in_rows c = between_numbers row_of (around c) c.args.north c.args.south

pub loop-west-init : goal.loop-west-init
loop-west-init c =
    let b = (goal.at.loop-west-init c).After-least_within-west in
    record {
      least = omega arith;
      added = none_below column_of (in_rows b) c.args.self.now c.least_within-west.result
          (λ q inside near. omega (
            arith,
            first b,
            (near_column (stands b) c.args.self.now.sizes c.args.p c.args.steps q inside c.columns-count.result (many b)
                (and_parts (around b q) _ near).0).0,
          ));
    }

pub mark_area-requires-clause-here : goal.mark_area-requires-clause-here
mark_area-requires-clause-here c =
    let b = (goal.at.mark_area-requires-clause-here c).After-least_within-west in
    let here = subst (λ v. c.loop-west.west % span v + c.shared_columns.result ≤ span v) c.bounds-bounds.ensures c.shared_columns.ensures.here in
    let area : Area = record {
      west = c.loop-west.west;
      east = c.loop-west.west + c.min-length.result;
      north = c.args.north;
      south = c.args.south;
    } in
    subst (λ v. IsPart v area) (sym c.loop-west.invariant.added.sizes) (record {
      one = record {
        wide = omega (arith, c.loop-west-test.true, c.min-length.ensures, c.shared_columns.ensures.some);
        long = c.requires.some;
        columns = omega (arith, here, c.min-length.ensures);
        rows = c.requires.here;
      };
      last_column = omega (
        arith,
        c.loop-west-test.true,
        c.min-length.ensures,
        end b,
        end_most c.args.p.x c.args.steps c.columns-count.result,
        many b,
      );
      last_row = c.requires.within;
    })

pub loop-west-preserved : goal.loop-west-preserved
loop-west-preserved c =
    let b = (goal.at.loop-west-preserved c).After-least_within-west in
    let west = c.loop-west.west in
    record {
      least = omega (arith, c.loop-west.invariant.least);
      added = more_numbers column_of (in_rows b) c.args.self.now west (west + c.min-length.result) c.loop-west.self c.mark_area.new.self
          (omega arith) c.loop-west.invariant.added c.in_ok-mark_area.ensures.marked;
    }

pub returns-clause-marked : goal.returns-clause-marked
returns-clause-marked c =
    let b = (goal.at.returns-clause-marked c).After-least_within-west in
    all_numbers column_of (in_rows b) c.args.self.now c.loop-west.west c.loop-west.self c.loop-west.invariant.added
    (λ q inside near. omega (
      arith,
      end b,
      c.loop-west-test.false,
      (near_column (stands b) c.args.self.now.sizes c.args.p c.args.steps q inside c.columns-count.result (many b)
          (and_parts (around b q) _ near).0).1,
    ))
