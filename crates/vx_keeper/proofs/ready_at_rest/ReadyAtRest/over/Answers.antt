use Rattle.std.proofs.Common.{◌≡◌, ◌++◌, length, map, take, drop, refl, sym, ap, ◌∙◌, subst, arith, rules}
use Rattle.std.proofs.Math.Seq.{take-append_seam}
use Rattle.std.proofs.lemmas.List.{length-map}
use Rattle.vx_cells.specs.Wholes.{with_cells_on}
use Rattle.vx_windows.specs.Sectors.{with_changes}
use Rattle.vx_keeper.specs.Keepers.{map_by}
use Rattle.vx_keeper.specs.Readiness.{AreNext}
use Rattle.vx_keeper.proofs.Nexts.{led_by}
use Rattle.vx_keeper.proofs.ready_at_rest.ReadyAtRest.over.Goals as goal

-- what changes after the puts, for as many sectors
module _ (c : goal.After-drop-plan-2) where
  written : c.put_in_changes.new.changes
      ≡ take c.args.changes.len (c.put_in_changes.new.changes ++ drop (length c.put_in_changes.new.changes) c.args.changes.items)
  written =
      let next = c.put_in_changes.new.changes in
      let rest = drop (length next) c.args.changes.items in
      sym (ap (λ n. take n (next ++ rest)) (sym (c.put_in_changes.auto.changes ∙ c.deref_mut.ensures.len)) ∙ take-append_seam next rest)

  as_many : length c.put_in_changes.new.changes ≡ length c.args.known.now.map.sectors
  as_many = c.put_in_changes.auto.changes ∙ ap length c.deref_mut.ensures.value ∙ c.requires.each

pub returns-clause-ready : goal.returns-clause-ready
returns-clause-ready c =
    let world = c.args.known.now in
    let cs = world.map.sectors in
    let now = map_by world.map.sizes (with_changes cs c.args.changes.items) in
    let puts = c.args.work.plan.puts in
    let next = c.put_in_changes.new.changes in
    let after : map_by world.map.sizes (with_changes cs next) ≡ with_cells_on now puts.items =
    (λ i. map_by (sym c.bounds.ensures i) (with_changes (sym c.requires.cells i) next))
    ∙ c.in_ok-put_in_changes.ensures.put
    ∙ (λ i. with_cells_on (map_by (c.bounds.ensures i) (with_changes (c.requires.cells i) (c.deref_mut.ensures.value i))) (c.as_slice-2.ensures.value i)) in
    let v = c.args.version in
    let cells = c.args.cells.now in
    let all = c.in_ok-next.next.items in
    let are : AreNext v cs next (length cs) all =
    subst (λ ys. AreNext v cs ys (length cs) all) (c.deref.ensures.value ∙ sym (written c))
    (subst (λ ds. AreNext v ds c.deref.result.now (length ds) all) c.requires.cells
    (subst (λ n. AreNext v (map (λ d. d.now) cells) c.deref.result.now n all) (sym (length-map cells (λ d. d.now)))
    c.in_ok-next.ensures)) in
    record {
      version = refl;
      fates = refl;
      told = search rules;
      watch = refl;
      few = omega (arith, as_many c, ap length (written c));
      after = ap (λ ys. map_by world.map.sizes (with_changes cs ys)) (sym (written c)) ∙ after;
      led = led_by world v next all (with_cells_on now puts.items) after are;
      same = c.requires.same;
    }

pub returns-clause-each : goal.returns-clause-each
returns-clause-each c = ap length (sym (written c)) ∙ as_many c
