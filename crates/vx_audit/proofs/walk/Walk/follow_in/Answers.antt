use Rattle.std.proofs.Common.{◌≡◌, Some, map, slice_get, length, option_map, refl, ap, ◌∙◌, arith}
use Rattle.std.specs.Vec.{vec_len}
use Rattle.std.proofs.lemmas.List.{map-set}
use Rattle.std.proofs.lemmas.Option.{slice_get_read, slice_get-map}
use Rattle.vx_sector.specs.SectorData.{entry_of}
use Rattle.vx_windows.specs.Sectors.{entries_in}
use Rattle.vx_record.specs.Records.{tick_in}
use Rattle.vx_audit.proofs.walk.Walk.follow_in.Goals as goal

pub returns : goal.returns
returns c = λ yes.
    let lefts = c.self.inside.lefts in
    let left = c.in-Some.left.now in
    let count : vec_len lefts ≡ length lefts.items = omega (arith, lefts.ok.0) in
    let there : slice_get lefts.items c.args.k ≡ Some left = slice_get_read lefts.items (vec_len lefts) c.args.k left count (c.in-Some.ensures.variant.0 refl) c.in-Some.ensures.value in
    let rest = c.in-Some-first_entry.ensures in
    rw (← c.self.view_is) (record {
      entry = entry_of c.in-Some-first_entry.next.now;
      rest = map entry_of c.in-Some-first_entry.rest.now;
      found = slice_get-map (λ left. map entry_of left.now) lefts.items c.args.k ∙ ap (option_map (λ left. map entry_of left.now)) there ∙ ap Some rest;
      by = c.if-next-seat.false;
      after = λ i. record {
        lefts = map-set (λ left. map entry_of left.now) lefts.items c.args.k c.in-Some-first_entry.rest i;
        ticks = map tick_in c.self.inside.ticks.now;
        pending = map entries_in c.self.inside.pending.now;
        last = c.self.inside.version.now;
        edits = c.self.inside.edits;
      };
    })
