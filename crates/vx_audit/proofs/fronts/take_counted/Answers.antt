use Rattle.std.proofs.Common.{◌≡◌, ◌+◌, ◌<◌, [], Some, get_or, length, map, slice_get, option_map, refl, sym, ap, ◌∙◌, subst, arith}
use Rattle.std.proofs.lemmas.List.{map-set}
use Rattle.std.proofs.lemmas.Option.{slice_get_read, slice_get-map}
use Rattle.vx_sector.specs.SectorData.{entry_of}
use Rattle.vx_audit.proofs.Counted.{AreTaken, taken_more}
use Rattle.vx_audit.proofs.fronts.take_counted.Goals as goal

pub loop-k-preserved : goal.loop-k-preserved
loop-k-preserved c =
    let counts = c.args.counts.now in
    let old = map (λ left. map entry_of left.now) c.args.lefts.now in
    let lefts = c.loop-k.lefts in
    let k = c.loop-k.k in
    let left = c.index-lefts-k.result in
    let rest = c.in-Some.rest in
    let within : k < length lefts = omega (arith, c.if-k-lefts.false) in
    let there : slice_get lefts k ≡ Some left = slice_get_read lefts (length lefts) k left refl within c.index-lefts-k.is in
    let here : slice_get (map (λ left. map entry_of left.now) lefts) k ≡ Some (map entry_of left.now) =
    slice_get-map (λ left. map entry_of left.now) lefts k ∙ ap (option_map (λ left. map entry_of left.now)) there in
    subst (AreTaken (k + 1) counts old) (sym (map-set (λ left. map entry_of left.now) lefts k rest))
    (taken_more k counts old (map (λ left. map entry_of left.now) lefts) (get_or counts k []) (map entry_of left.now) (map entry_of rest.now)
    c.loop-k.invariant refl here c.in-Some.ensures)
