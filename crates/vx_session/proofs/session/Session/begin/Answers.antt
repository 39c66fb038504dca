use Rattle.std.proofs.Common.{◌≡◌, [], length, map, replicate, refl, sym, ap, ◌∙◌, subst, arith}
use Rattle.std.proofs.lemmas.List.Elements.{All-map}
use Rattle.std.proofs.lemmas.Simd.{map-map}
use Rattle.vx_cells.specs.Maps.{MapData}
use Rattle.vx_record.specs.Chronicles.{ChronicleData, TickData}
use Rattle.vx_world.specs.Openings.{seats_from}
use Rattle.vx_session.specs.Sessions.{PassData, AreSaid, pass_in, player_in}
use Rattle.vx_session.proofs.Begun.{nothing_said}
use Rattle.vx_session.proofs.session.Session.begin.Goals as goal

pub invariant_of-result : goal.invariant_of-result
invariant_of-result g c =
    let k = c.in_ok-world.keeper in
    let world = c.in_ok-world.ensures in
    let bounds : c.bounds-bounds.result ≡ c.args.opening.terrain.sizes =
    c.bounds-bounds.ensures ∙ ap (λ (m : MapData). m.sizes) (c.frozen.ensures ∙ c.terrain.ensures) in
    let players = c.in_ok-players.players.items in
    let passes : map player_in players ≡ map pass_in c.in_ok-world.passes.items =
    sym (map-map pass_in (λ p. p.pass) players) ∙ ap (map pass_in) c.in_ok-players.ensures in (
      record {
        sizes = bounds ∙ ap (λ (h : ChronicleData). h.opening.terrain.sizes) (sym world.chronicle);
        seats = ap (map (λ (pass : PassData). pass.seat)) passes
            ∙ map-map (λ (pass : PassData). pass.seat) pass_in c.in_ok-world.passes.items ∙ world.seats
            ∙ ap (λ (h : ChronicleData). seats_from 0 h.opening.names) (sym world.chronicle);
        learnt = (k.seen, refl {a = k.seen});
      },
      world.bounds ∙ sym bounds,
      c.in_ok-names.ensures ∙ c.names.ensures ∙ ap (λ (h : ChronicleData). h.opening.names) (sym world.chronicle),
      c.requires.workers.0,
      c.requires.workers.1,
      c.requires.sectors.1,
      c.requires.names.1,
    )

pub returns-clause-nothing : goal.returns-clause-nothing
returns-clause-nothing g c =
    let k = c.in_ok-world.keeper in
    let world = c.in_ok-world.ensures in
    let passes = c.in_ok-world.passes.items in
    let players = c.in_ok-players.players.items in
    let seen : map player_in players ≡ map pass_in passes =
    sym (map-map pass_in (λ p. p.pass) players) ∙ ap (map pass_in) c.in_ok-players.ensures in
    let sectors = length k.chronicle.opening.terrain.sectors in
    record {
      marks = c.new-3.ensures.items;
      said = subst (AreSaid c.bounds-bounds.result sectors []) (sym seen)
          (nothing_said c.bounds-bounds.result sectors g.A.Places.all (map pass_in passes)
          (All-map (λ (pass : PassData). pass.lists ≡ replicate g.A.Places.all []) pass_in passes world.empty));
      seated = λ i d within. absurd (omega (arith, within));
      outside = λ i d within. absurd (omega (arith, within));
      fates = ap (λ (h : ChronicleData). map (λ (tick : TickData). tick.fates) h.ticks) (sym world.chronicle);
      edits = refl;
    }
