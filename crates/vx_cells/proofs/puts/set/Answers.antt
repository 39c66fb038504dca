use Rattle.std.proofs.Common.{◌≡◌, Some, get_or, set, sym, ◌∙◌}
use Rattle.std.proofs.lemmas.Option.{slice_get-get_or}
use Rattle.vx_cells.specs.Maps.{MapData}
use Rattle.vx_cells.specs.Wholes.{with_cell_on}
use Rattle.vx_cells.proofs.MapLemmas.{is_there, is_held}
use Rattle.vx_cells.proofs.Setting.{cell_is_set, cell_keeps_map}
use Rattle.vx_cells.proofs.puts.set.Goals as goal

pub bounds-sectors-number : goal.bounds-sectors-number
bounds-sectors-number c =
    is_there c.args.bounds c.args.sectors.now c.args.p c.in-Some.number (sym c.sector_of.ensures ∙ c.in-Some.is) c.requires

pub set-requires : goal.set-requires
set-requires c =
    let a = c.args in
    let k = c.in-Some.number in
    let d = c.index-sectors-number.result in
    let found = sym c.sector_of.ensures ∙ c.in-Some.is in
    is_held (record { sizes = a.bounds; sectors = a.sectors.now }) a.p k found (get_or a.sectors.now k d) c.requires
    (slice_get-get_or a.sectors.now k d (is_there a.bounds a.sectors.now a.p k found c.requires))

-- the map after the call
made : (c : goal.In_ok-set) → let a = c.args in let m : MapData = record { sizes = a.bounds; sectors = a.sectors.now } in
    with_cell_on m a.p a.cell ≡ Some (record { sizes = a.bounds; sectors = set a.sectors.now c.in-Some.number c.set.new.self })
made c =
    let a = c.args in
    let k = c.in-Some.number in
    let d = c.index-sectors-number.result in
    let found = sym c.sector_of.ensures ∙ c.in-Some.is in
    let m : MapData = record { sizes = a.bounds; sectors = a.sectors.now } in
    let there = slice_get-get_or a.sectors.now k d (is_there a.bounds a.sectors.now a.p k found c.requires) in
    cell_is_set m a.p a.cell k (get_or a.sectors.now k d) c.set.new.self found there (is_held m a.p k found _ c.requires there) c.in_ok-set.ensures.ok

pub returns-clause-set : goal.returns-clause-set
returns-clause-set c same = made c

pub returns-clause-placed : goal.returns-clause-placed
returns-clause-placed c =
    let a = c.args in
    cell_keeps_map (record { sizes = a.bounds; sectors = a.sectors.now }) _ a.p a.cell c.requires (made c)
