use Rattle.std.proofs.Common.{◌≡◌, ◌++◌, map, take, drop, length, sym, ap, ◌∙◌, subst, arith}
use Rattle.std.proofs.Math.Seq.{take-append_seam}
use Rattle.std.proofs.lemmas.List.{length-map}
use Rattle.vx_cells.specs.Maps.{AreSectors}
use Rattle.vx_cells.specs.Wholes.{with_cells_on}
use Rattle.vx_windows.specs.Sectors.{AreQuiet, cells_of, map_changed, map_with_changes, with_changes}
use Rattle.vx_windows.proofs.Changing.{as_many_quiet}
use Rattle.vx_windows.proofs.changes.cells_after.Goals as goal

pub put_in_changes-requires-clause-each : goal.put_in_changes-requires-clause-each
put_in_changes-requires-clause-each c =
    let ss = c.args.sectors.now in
    let changes = as_many_quiet ss c.in_ok-changes.changes.items c.in_ok-changes.ensures.quiet in
    let cells = length-map c.in_ok-cells.cells.items (λ c. c.now) in
    omega (arith, changes, cells, ap length c.deref_mut.ensures.value, ap length c.deref.ensures.value, ap length c.in_ok-cells.ensures, length-map ss cells_of)

pub put_in_changes-requires-clause-placed : goal.put_in_changes-requires-clause-placed
put_in_changes-requires-clause-placed c =
    let own = ap (map (λ c. c.now)) c.deref.ensures.value ∙ c.in_ok-cells.ensures in
    subst (AreSectors c.args.bounds)
    (sym ((λ i. with_changes (own i) (c.deref_mut.ensures.value i)) ∙ c.in_ok-changes.ensures.same)) c.requires

pub returns-clause-after : goal.returns-clause-after
returns-clause-after c =
    let a = c.args in
    let items = c.in_ok-changes.changes.items in
    let next = c.put_in_changes.new.changes in
    let written : next ≡ take c.in_ok-changes.changes.len (next ++ drop (length next) items) =
    sym (ap (λ n. take n (next ++ drop (length next) items)) (sym (c.put_in_changes.auto.changes ∙ c.deref_mut.ensures.len)) ∙ take-append_seam next (drop (length next) items)) in
    let own = ap (map (λ c. c.now)) c.deref.ensures.value ∙ c.in_ok-cells.ensures in
    ap (map_changed a.bounds a.sectors.now) (sym written)
    ∙ ap (λ cs. map_with_changes a.bounds cs next) (sym own)
    ∙ c.in_ok-put_in_changes.ensures.put
    ∙ ap (λ cs. with_cells_on (record { sizes = a.bounds; sectors = cs }) a.puts.now)
    ((λ i. with_changes (own i) (c.deref_mut.ensures.value i)) ∙ c.in_ok-changes.ensures.same)

pub returns-clause-quiet : goal.returns-clause-quiet
returns-clause-quiet c =
    let ss = c.args.sectors.now in
    let items = c.in_ok-changes.changes.items in
    let next = c.put_in_changes.new.changes in
    let written : next ≡ take c.in_ok-changes.changes.len (next ++ drop (length next) items) =
    sym (ap (λ n. take n (next ++ drop (length next) items)) (sym (c.put_in_changes.auto.changes ∙ c.deref_mut.ensures.len)) ∙ take-append_seam next (drop (length next) items)) in
    subst (AreQuiet ss) written
    (c.in_ok-put_in_changes.ensures.quiet ss (subst (AreQuiet ss) (sym c.deref_mut.ensures.value) c.in_ok-changes.ensures.quiet))
