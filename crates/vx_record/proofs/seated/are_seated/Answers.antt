use Rattle.std.proofs.Common.{◌≡◌, map, get_or, take, refl, ap, subst, sym, ◌∙◌, arith, rules}
use Rattle.std.proofs.lemmas.Bool.{false≢true}
use Rattle.std.proofs.lemmas.List.{length-map, get_or-map, take_all}
use Rattle.std.proofs.lemmas.List.Elements.{All-same, All-push}
use Rattle.vx_record.proofs.Fronts.{taken_to}
use Rattle.vx_sector.specs.SectorData.{EntryData, entry_of}
use Rattle.vx_record.specs.Chronicles.{IsSeatOf, AreSeated}
use Rattle.vx_record.proofs.seated.are_seated.Goals as goal

pub returns-then-not-is_seat_of : goal.returns-then-not-is_seat_of
returns-then-not-is_seat_of c =
    let entries = c.args.entries.now in
    let names = c.args.opening.now.names in
    let k = c.loop-entry.entry-index in
    let entry = c.entry-item.result in
    let here : get_or (map entry_of entries) k (entry_of entry) ≡ entry_of entry =
    get_or-map entry_of entries k entry _ c.loop-entry-test.true ∙ ap entry_of (sym c.entry-item.is) in (
      λ wrong. absurd (false≢true wrong),
      λ all.
          let seated = all k (entry_of entry) (omega (arith, c.loop-entry-test.true, length-map entries entry_of)) in
          absurd (false≢true (sym c.if-not-is_seat_of.true
          ∙ c.is_seat_of.ensures.1 (subst (λ (e : EntryData). IsSeatOf names e.seat) here seated))),
    )

pub returns : goal.returns
returns c = (
  λ yes. subst (λ entries. AreSeated c.args.opening.now.names (map entry_of entries))
      (take_all c.loop-entry.entry-index c.args.entries.now (search rules)) c.loop-entry.invariant,
  λ all. refl,
)

pub loop-entry-preserved : goal.loop-entry-preserved
loop-entry-preserved c =
    let entries = c.args.entries.now in
    let k = c.loop-entry.entry-index in
    let entry = c.entry-item.result in
    let seated = λ (e : EntryData). IsSeatOf c.args.opening.now.names e.seat in
    All-same seated _ _ (taken_to entry_of entries k entry c.loop-entry-test.true c.entry-item.is)
    (All-push seated (map entry_of (take k entries)) (entry_of entry) c.loop-entry.invariant
    (c.is_seat_of.ensures.0 c.if-not-is_seat_of.false))
