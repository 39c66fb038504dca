use Rattle.std.proofs.Common.{◌≡◌, [], ◌∷◌, ◌++◌, replicate, take, sym, ap, ◌∙◌, arith, add-one}
use Rattle.std.proofs.lemmas.List.{map_push}
use Rattle.std.proofs.lemmas.List.Elements.{All-push}
use Rattle.vx_name.specs.Texts.{texts}
use Rattle.vx_world.specs.Openings.{seats_from}
use Rattle.vx_world.proofs.Numbered.{seats_more}
use Rattle.vx_world.proofs.opening.passes.Goals as goal

pub loop-number-preserved : goal.loop-number-preserved
loop-number-preserved g c =
    let before = c.loop-number.invariant in
    let names = c.args.names.now in
    let k = c.loop-number.number in (
      rw (c.push_reserved.ensures.items, map_push, before.0, c.pass.ensures.seat, add-one)
          ((λ i. seats_from 0 (texts (take k names)) ++ record { number = k; name = (c.index-names-number.is i).text.bytes } ∷ [])
          ∙ sym (seats_more 0 k k names c.index-names-number.result (omega arith) c.loop-number-test.true)),
      omega (arith, c.push_reserved.ensures.len, before.1),
      c.push_reserved.ensures.capacity ∙ before.2,
      omega (arith, c.pass.ensures.places.0, before.3),
      c.pass.ensures.places.1,
      omega (arith, c.pass.ensures.seats.0, before.5),
      c.pass.ensures.seats.1,
      rw c.push_reserved.ensures.items
          (All-push (λ pass. pass.lists ≡ replicate g.A.Places.all []) _ _ before.7 (c.pass.ensures.lists ∙ c.in_ok-new.ensures ∙ ap (λ n. replicate n []) c.requires.sectors)),
    )
