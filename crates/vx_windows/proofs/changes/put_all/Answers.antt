use Rattle.std.proofs.Common.{◌≡◌, ◌<◌, true, Some, None, length, map, get_or, set, unwrap_or, sym, ap, ◌∙◌, subst, arith}
use Rattle.std.specs.List.{All}
use Rattle.std.proofs.lemmas.List.{get_or-map, length-map, length-set}
use Rattle.vx_cells.specs.SectorCells.{holds, with_cells}
use Rattle.vx_cells.specs.Wholes.{IsMap, with_cells_on}
use Rattle.vx_cells.proofs.Setting.{puts_whole}
use Rattle.vx_windows.specs.Sectors.{AreQuiet, map_with_changes}
use Rattle.vx_windows.proofs.Changing.{quiet_set}
use Rattle.vx_windows.proofs.Putting.{all_outside, given, held, put_down, set_again, there, where_first}
use Rattle.vx_windows.proofs.changes.put_all.Goals as goal

pub returns-in_default-clause-put : goal.returns-in_default-clause-put
returns-in_default-clause-put c =
    let a = c.args in
    sym (all_outside (map_with_changes a.bounds (map (λ c. c.now) a.cells.now) a.changes.now) a.puts.now
    (where_first a.bounds None a.puts.now c.index-puts-0.result c.requires.some (sym c.sector_of.ensures ∙ c.in_default.is) c.requires.together))

pub bounds-changes-at : goal.bounds-changes-at
bounds-changes-at c =
    let a = c.args in
    given a.bounds (map (λ c. c.now) a.cells.now) a.changes.now c.requires.placed (c.requires.each ∙ sym (length-map a.cells.now (λ c. c.now))) _ c.in-Some.number (sym c.sector_of.ensures ∙ c.in-Some.is)

pub bounds-cells-at : goal.bounds-cells-at
bounds-cells-at c =
    let a = c.args in
    let many = length-map a.cells.now (λ c. c.now) in
    omega (arith, many, there a.bounds (map (λ c. c.now) a.cells.now) a.changes.now c.requires.placed (c.requires.each ∙ sym many) _ c.in-Some.number (sym c.sector_of.ensures ∙ c.in-Some.is))

pub bounds-changes-at-2 : goal.bounds-changes-at-2
bounds-changes-at-2 c =
    let a = c.args in
    let near = given a.bounds (map (λ c. c.now) a.cells.now) a.changes.now c.requires.placed (c.requires.each ∙ sym (length-map a.cells.now (λ c. c.now))) _ c.in-Some.number (sym c.sector_of.ensures ∙ c.in-Some.is) in
    omega (arith, near, length-set a.changes.now c.in-Some.number c.taken.new.change)

pub set_all-requires : goal.set_all-requires
set_all-requires c =
    let a = c.args in
    let cs = map (λ c. c.now) a.cells.now in
    let k = c.in-Some.number in
    let y = c.index-changes-at.result in
    let own = c.index-cells-at.result in
    let many = length-map a.cells.now (λ c. c.now) in
    let found = sym c.sector_of.ensures ∙ c.in-Some.is in
    let within : k < length a.cells.now = omega (arith, many, there a.bounds cs a.changes.now c.requires.placed (c.requires.each ∙ sym many) _ k found) in
    let here : own.now ≡ get_or cs k own.now = ap (λ c. c.now) c.index-cells-at.is ∙ sym (get_or-map (λ c. c.now) a.cells.now k own own.now within) in
    let taken = c.in_ok-changed.ensures ∙ ap (unwrap_or (get_or a.changes.now k y)) here in
    subst (λ d. All (λ put. holds d put.0 ≡ true) a.puts.now) (sym taken)
    (held a.bounds cs a.changes.now c.requires.placed (c.requires.each ∙ sym many) _ k found y own.now a.puts.now
    (where_first a.bounds (Some k) a.puts.now c.index-puts-0.result c.requires.some found c.requires.together))

-- the map after the call
map_put : (c : goal.Joined-changes-at) → let a = c.args in let cs = map (λ c. c.now) a.cells.now in
    map_with_changes a.bounds cs (set (set a.changes.now c.in-Some.number c.taken.new.change) c.in-Some.number (Some c.set_all.new.self))
    ≡ with_cells_on (map_with_changes a.bounds cs a.changes.now) a.puts.now
map_put c =
    let a = c.args in
    let cs = map (λ c. c.now) a.cells.now in
    let k = c.in-Some.number in
    let y = c.index-changes-at.result in
    let own = c.index-cells-at.result in
    let many = length-map a.cells.now (λ c. c.now) in
    let found = sym c.sector_of.ensures ∙ c.in-Some.is in
    let within : k < length a.cells.now = omega (arith, many, there a.bounds cs a.changes.now c.requires.placed (c.requires.each ∙ sym many) _ k found) in
    let here : own.now ≡ get_or cs k own.now = ap (λ c. c.now) c.index-cells-at.is ∙ sym (get_or-map (λ c. c.now) a.cells.now k own own.now within) in
    let taken = c.in_ok-changed.ensures ∙ ap (unwrap_or (get_or a.changes.now k y)) here in
    let made = c.in_ok-set_all.ensures ∙ ap (λ d. with_cells d a.puts.now) taken in
    let all = where_first a.bounds (Some k) a.puts.now c.index-puts-0.result c.requires.some found c.requires.together in
    ap (map_with_changes a.bounds cs) (set_again a.changes.now k c.taken.new.change (Some c.set_all.new.self))
    ∙ sym (put_down a.bounds cs a.changes.now c.requires.placed (c.requires.each ∙ sym many) _ k found y own.now a.puts.now all c.set_all.new.self made)

pub returns-clause-put : goal.returns-clause-put
returns-clause-put c = map_put c

pub returns-clause-placed : goal.returns-clause-placed
returns-clause-placed c =
    let a = c.args in
    subst IsMap (sym (map_put c)) (puts_whole (map_with_changes a.bounds (map (λ c. c.now) a.cells.now) a.changes.now) a.puts.now c.requires.placed).0

pub returns-clause-quiet : goal.returns-clause-quiet
returns-clause-quiet c ss are =
    let a = c.args in
    subst (AreQuiet ss) (sym (set_again a.changes.now c.in-Some.number c.taken.new.change (Some c.set_all.new.self)))
    (quiet_set ss a.changes.now c.in-Some.number c.set_all.new.self are)
