use Rattle.std.proofs.Common.{◌≡◌, List, Some, IfSome, length, map, slice_get, set, refl, sym, ap, ◌∙◌, subst, inl, inr, arith}
use Rattle.std.proofs.lemmas.Option.{slice_get_read}
use Rattle.std.specs.Vec.{vec_len}
use Rattle.vx_geom.specs.Sizes.{sector_of}
use Rattle.vx_name.specs.Texts.{texts}
use Rattle.vx_sector.specs.Commands.{place_of}
use Rattle.vx_sector.specs.SectorData.{SectorData, seat_of}
use Rattle.vx_sector.specs.Windows.{sector_after}
use Rattle.vx_cells.specs.Maps.{AreSectors}
use Rattle.vx_still.specs.Watching.{IsWatch}
use Rattle.vx_windows.specs.Sectors.{base_of, cells_of}
use Rattle.vx_play.specs.Plays.{PlayData}
use Rattle.vx_windows.proofs.Sparing.{base_stays, before_stays}
use Rattle.vx_play.proofs.Whole.{answered_there, answer_keeps_world}
use Rattle.vx_play.proofs.play.Play.act.Given.{Over}
use Rattle.vx_play.proofs.play.Play.act.Goals as goal

module _ (g : Over) (c : goal.After-self-2-1 g) where
  -- the play with these sectors
  with_sectors : List SectorData → PlayData
  with_sectors ss =
      let i = c.self.inside in
      record { sizes = i.bounds; sectors = ss; version = i.version; names = texts i.names.items; first = g.J.Naming.first; accepted = i.desk; ticks = i.ticks }

  found : sector_of c.self.inside.bounds (place_of c.args.cmd) ≡ Some c.in-Some.number
  found = ap (sector_of c.self.inside.bounds) (sym c.place.ensures) ∙ sym c.in-Some.ensures

  there : slice_get c.self.inside.sectors.items c.in-Some.number ≡ Some c.in-Some-get_mut.sector.now
  there =
      let sectors = c.self.inside.sectors in
      let count : vec_len sectors ≡ length sectors.items = omega (arith, sectors.ok.0) in
      slice_get_read sectors.items (vec_len sectors) c.in-Some.number c.in-Some-get_mut.sector.now count (c.in-Some-get_mut.ensures.variant.0 refl) c.in-Some-get_mut.ensures.value

pub invariant_of-self-2 : goal.invariant_of-self-2
unfolding with_sectors
invariant_of-self-2 g c =
    let i = c.self.inside in (
      c.self.invariant.0,
      c.self.invariant.1,
      subst (λ s. AreSectors i.bounds (map cells_of (set i.sectors.items c.in-Some.number s))) (sym c.act.ensures.after)
          (answer_keeps_world (with_sectors g c i.sectors.items) (seat_of c.args.seat) c.args.cmd c.in-Some.number c.in-Some-get_mut.sector.now (found g c) (there g c) c.act.result c.self.invariant.2),
      subst (λ m. IfSome i.watch (IsWatch m))
          (sym (before_stays i.bounds i.sectors.items c.in-Some.number c.in-Some-get_mut.sector.now c.act.new.self (there g c)
          (ap base_of c.act.ensures.after ∙ base_stays c.in-Some-get_mut.sector.now (seat_of c.args.seat) c.args.cmd c.act.result)))
          c.self.invariant.3,
    )

pub returns-clause-answer : goal.returns-clause-answer
unfolding with_sectors
returns-clause-answer g c =
    let i = c.self.inside in
    let is = answered_there (with_sectors g c i.sectors.items) (seat_of c.args.seat) c.args.cmd c.in-Some.number c.in-Some-get_mut.sector.now (found g c) (there g c) in
    elim c.act.ensures.answer [
      | inl same ↦ inl (rw (← c.self.view_is) (same ∙ sym (ap (λ a. a.0) is)))
      | inr wanting ↦ inr wanting
    ]

pub returns-clause-after : goal.returns-clause-after
unfolding with_sectors
returns-clause-after g c =
    let i = c.self.inside in
    let now = c.in-Some-get_mut.sector.now in
    let is = answered_there (with_sectors g c i.sectors.items) (seat_of c.args.seat) c.args.cmd c.in-Some.number now (found g c) (there g c) in
    λ there_is. elim c.act.ensures.answer [
      | inl same ↦ rw (← c.self.view_is) (ap (with_sectors g c) (ap (set i.sectors.items c.in-Some.number) (c.act.ensures.after ∙ ap (sector_after now (seat_of c.args.seat) c.args.cmd) same) ∙ sym (ap (λ a. a.1) is)))
      | inr wanting ↦ absurd (there_is wanting)
    ]
