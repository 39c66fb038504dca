use Rattle.std.proofs.Common.{◌≡◌, [], List, Bor, map, refl, ◌∙◌}
use Rattle.std.proofs.lemmas.List.Elements.{All-map, All-replicate, All-same}
use Rattle.vx_sector.specs.SectorData.{EntryData, entry_of}
use Rattle.vx_sector.specs.declared.entry.Entry.{Entry}
use Rattle.vx_audit.proofs.walk.all_left.Goals as goal

abbrev IsEmpty : Bor (List Entry) → Type 0
IsEmpty place = map entry_of place.now ≡ []

pub put_into-requires-clause-empty : goal.put_into-requires-clause-empty
put_into-requires-clause-empty c =
    let places = c.deref_mut.result.now in
    let all = c.deref_mut.ensures.value ∙ c.in_ok-lefts.ensures.items_if_clones_equal (λ y same. same) in
    All-map (λ (es : List EntryData). es ≡ []) (λ (place : Bor (List Entry)). map entry_of place.now) places
    (All-same IsEmpty places _ all (All-replicate IsEmpty c.count.result _ refl))
