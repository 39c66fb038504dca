use Rattle.std.proofs.Common.{◌≡◌, true, subst}
use Rattle.std.specs.Option.{SomeIff}
use Rattle.vx_base.proofs.Signed.{signed}
use Rattle.vx_geom.specs.declared.pos.Pos.{Pos}
use Rattle.vx_geom.specs.Sizes.{is_inside}
use Rattle.vx_cells.proofs.MapLemmas.{outside_is_air}
use Rattle.vx_cells.proofs.frozen.Frozen.place.Goals as goal

pub returns-clause-outside : goal.returns-clause-outside
returns-clause-outside c none =
    let p : Pos = record { y = c.args.y; z = c.args.z; x = c.args.x } in
    let is : SomeIff c.position.result (is_inside c.args.self.now.sizes p ≡ true) p =
    rw (← c.self.view_is) (simp (signed, c.ranges.x, c.ranges.y, c.ranges.z) at c.position.ensures) in
    outside_is_air c.args.self.now p (subst (λ r. SomeIff r (is_inside c.args.self.now.sizes p ≡ true) p) none is)
