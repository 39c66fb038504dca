use Rattle.std.proofs.Common.{◌≡◌, [], IfOk, length, refl, sym, ap, ◌∙◌, subst, arith, rules}
use Rattle.std.proofs.lemmas.Bool.{eqb-true}
use Rattle.std.proofs.lemmas.List.{nil_from_length}
use Rattle.vx_cells.specs.Maps.{AreSectors}
use Rattle.vx_cells.specs.Wholes.{with_cells_on}
use Rattle.vx_windows.specs.Sectors.{with_changes}
use Rattle.vx_windows.proofs.Changing.{changed_none}
use Rattle.vx_keeper.specs.Keepers.{map_by}
use Rattle.vx_keeper.specs.Marks.{AreLed}
use Rattle.vx_keeper.specs.Readiness.{IsReadyAtRest}
use Rattle.vx_keeper.proofs.Nexts.{all_keep, none_change}
use Rattle.vx_keeper.proofs.ready_at_rest.ReadyAtRest.new.Goals as goal

pub returns-then-is_empty : goal.returns-then-is_empty
returns-then-is_empty c =
    let world = c.args.known.now in
    let puts = c.args.work.plan.puts in
    let none : puts.items ≡ [] = nil_from_length puts.items (grind (arith, eqb-true)) in
    let same : world.map ≡ with_cells_on world.map puts.items = ap (with_cells_on world.map) (sym none) in
    record {
      version = refl;
      fates = refl;
      told = search rules;
      watch = refl;
      few = omega (arith, ap length c.new.ensures.items);
      after = ap (λ ys. map_by world.map.sizes (with_changes world.map.sectors ys)) c.new.ensures.items
          ∙ ap (map_by world.map.sizes) (changed_none world.map.sectors) ∙ same;
      led =
          subst (AreLed (length world.map.sectors) world (record { map = with_cells_on world.map puts.items; version = c.args.version }))
          (sym c.new-then-is_empty.ensures.items)
          (all_keep world c.args.version (with_cells_on world.map puts.items) same);
      same = c.requires;
    }

pub over-requires-clause-placed : goal.over-requires-clause-placed
over-requires-clause-placed c =
    let map = c.args.known.now.map in
    subst (AreSectors map.sizes)
    (sym (ap (with_changes map.sectors) c.in_ok-changes.ensures ∙ none_change map.sectors c.len.result)) c.soundness.ensures

pub returns : goal.returns
returns c =
    let world = c.args.known.now in
    subst (λ now. IfOk c.over.result (IsReadyAtRest world now c.args.work c.args.version))
    (ap (λ ys. map_by world.map.sizes (with_changes world.map.sectors ys)) c.in_ok-changes.ensures
    ∙ ap (map_by world.map.sizes) (none_change world.map.sectors c.len.result))
    c.over.ensures.ready
