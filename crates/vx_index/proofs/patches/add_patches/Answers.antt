use Rattle.std.proofs.Common.{ap, sym, ◌∙◌, refl}
use Rattle.vx_geom.specs.declared.extent.Extent.{Extent}
use Rattle.vx_geom.specs.Extent.{meets}
use Rattle.vx_index.specs.Patches.{square}
use Rattle.vx_index.proofs.Adding.{adds_apart, adds_one}
use Rattle.vx_index.proofs.patches.add_patches.Goals as goal

-- the columns of the shape are others than those of the tile
pub returns-then-not-meets-clause-adds : goal.returns-then-not-meets-clause-adds
returns-then-not-meets-clause-adds c =
    adds_apart c.args.number c.args.shape.now (square c.args.west c.args.north) c.args.patches.now.items
    (ap (λ (e : Extent). meets e (square c.args.west c.args.north)) (sym c.extent-columns.ensures)
    ∙ ap (λ (e : Extent). meets c.extent-columns.result e) (sym c.square.ensures) ∙ sym c.meets.ensures ∙ c.if-not-meets.true)

-- a cuboid has all columns between its own
pub returns-then-is_cuboid-clause-adds : goal.returns-then-is_cuboid-clause-adds
returns-then-is_cuboid-clause-adds c =
    adds_one c.args.number c.args.shape.now (square c.args.west c.args.north) c.args.patches.now.items c.push.new.self.items
    (record { number = c.args.number; columns = c.extent-columns.result })
    c.in_ok-push.ensures.items refl c.extent-columns.ensures
