use Rattle.std.proofs.Common.{◌≡◌, Some, length, slice_get, refl, sym, subst, rules}
use Rattle.std.specs.List.{All}
use Rattle.std.proofs.lemmas.List.{take_all}
use Rattle.std.proofs.lemmas.List.Elements.{All-more}
use Rattle.std.proofs.lemmas.Option.{slice_get_read, slice_get_within, get_or_from_slice_get}
use Rattle.vx_windows.specs.Writing.{IsSpared}
use Rattle.vx_windows.proofs.writes.written.Goals as goal

pub loop-sector-preserved : goal.loop-sector-preserved
loop-sector-preserved c p none =
    let ss = c.args.sectors.now in
    let k = c.loop-sector.sector-index in
    let s = c.sector-item.result in
    let found : slice_get ss k ≡ Some s = slice_get_read ss (length ss) k s refl (search rules) c.sector-item.is in
    let known = c.in_ok-add_written.ensures p none in
    All-more (IsSpared p) ss k s (slice_get_within ss k s found) (c.loop-sector.invariant p known.0)
    (subst (IsSpared p) (sym (get_or_from_slice_get ss k s s found)) known.1)

pub returns : goal.returns
returns c p none =
    let ss = c.args.sectors.now in
    subst (All (IsSpared p)) (take_all c.loop-sector.sector-index ss (search rules)) (c.loop-sector.invariant p none)
