use Rattle.std.proofs.Common.{◌&&◌, ◌||◌, ap, sym, ◌∙◌}
use Rattle.std.proofs.lemmas.Result.{on_ok_weaker}
use Rattle.vx_geom.specs.Sizes.{is_inside, sector_number}
use Rattle.vx_places.specs.Places.{in_run_from}
use Rattle.vx_places.proofs.places.Places.mark_from.Goals as goal

pub mark_in_entry-requires-clause-inside : goal.mark_in_entry-requires-clause-inside
mark_in_entry-requires-clause-inside c = ap (λ v. is_inside v c.args.p) c.in_ok-make_entries.ensures.sizes ∙ c.requires.inside

pub mark_in_entry-requires-clause-number : goal.mark_in_entry-requires-clause-number
mark_in_entry-requires-clause-number c = c.requires.number ∙ ap (λ v. sector_number v c.args.p) (sym c.in_ok-make_entries.ensures.sizes)

pub returns-clause-marked : goal.returns-clause-marked
returns-clause-marked c =
    let same = c.in_ok-make_entries.ensures.same in
    let one = c.in_ok-make_entries.ensures.sizes in
    on_ok_weaker c.mark_in_entry.result
    (λ added. record {
      sizes = added.sizes ∙ one;
      marked = λ q. added.marked q
          ∙ (λ i. same q i || (is_inside (one i) q && in_run_from (one i) c.args.p c.args.bits q));
    })
    c.mark_in_entry.ensures.marked
