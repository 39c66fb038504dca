use Rattle.std.proofs.Common.{◌≡◌, ◌<◌, ◌+◌, ◌∷◌, [], ◌++◌, get_or, length, map, take, sym, ap, ◌∙◌, arith}
use Rattle.std.proofs.lemmas.List.{get_or-map, length-map, map-set, take_all, take_more, take_more_set}
use Rattle.vx_sector.specs.SectorData.{entry_of}
use Rattle.vx_windows.specs.Sectors.{entries_in}
use Rattle.vx_audit.proofs.windows.put_open.Goals as goal

pub loop-at-preserved : goal.loop-at-preserved
loop-at-preserved c =
    let places = c.loop-at.places in
    let seen = map (λ place. map entry_of place.now) places in
    let windows = c.args.windows.now in
    let all = map entries_in windows in
    let k = c.loop-at.at in
    let window = c.index-windows-at.result in
    let put = c.deref.result in
    let as_many = length-map places (λ place. map entry_of place.now) in
    let within : k < length seen =
    omega (arith, c.loop-at-test.true, c.loop-at.auto.places, c.requires, as_many) in
    let far : k < length all = omega (arith, c.loop-at-test.true, length-map windows entries_in) in
    let here : map entry_of put.now ≡ get_or all k [] =
    ap (map entry_of) c.deref.ensures.value ∙ ap entries_in c.index-windows-at.is
    ∙ sym (get_or-map entries_in windows k window [] c.loop-at-test.true) in
    ap (take (k + 1)) (map-set (λ place. map entry_of place.now) places k put)
    ∙ take_more_set seen k (map entry_of put.now) within
    ∙ ap (λ es. es ++ map entry_of put.now ∷ []) c.loop-at.invariant
    ∙ ap (λ es. take k all ++ es ∷ []) here
    ∙ sym (take_more all k [] far)

pub returns : goal.returns
returns c =
    let places = c.loop-at.places in
    let seen = map (λ place. map entry_of place.now) places in
    let windows = c.args.windows.now in
    let k = c.loop-at.at in
    let as_many = length-map places (λ place. map entry_of place.now) in
    sym (take_all k seen (omega (arith, c.loop-at-test.false, c.loop-at.auto.places, c.requires, as_many)))
    ∙ c.loop-at.invariant
    ∙ take_all k (map entries_in windows)
    (omega (arith, c.loop-at-test.false, length-map windows entries_in))
