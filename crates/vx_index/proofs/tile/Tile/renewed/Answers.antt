use Rattle.std.specs.Option.{option_copied}
use Rattle.std.specs.Prelude.{unsigned_abs}
use Rattle.std.proofs.Common.{◌≡◌, ◌++◌, Option, ltb, filter, length, ap, sym, ◌∙◌, subst}
use Rattle.vx_geom.specs.declared.extent.Extent.{Extent}
use Rattle.vx_geom.specs.Outline.{Outline}
use Rattle.vx_index.specs.Patches.{square, AreInOrder, AddsAny}
use Rattle.vx_index.proofs.Renewing.{is_before, is_behind, renewed_tells}
use Rattle.vx_index.proofs.Renumbering.{renumbered_tells}
use Rattle.vx_index.proofs.tile.Tile.renewed.Goals as goal

pub returns-clause-of : goal.returns-clause-of
returns-clause-of c shapes tells =
    let columns = c.args.self.now.columns in
    let n = c.args.number in
    let o : Option Outline = option_copied c.args.shape in
    let old = c.args.self.now.patches.items in
    let low = c.extend_from_slice.new.self.items in
    let mid = c.add_any.new.patches.items in
    let new = c.extend_from_slice-2.new.self.items in
    let west = c.corner-west.result.0 in
    let north = c.corner-west.result.1 in
    let whole : columns ≡ square west north =
    c.requires.is ∙ ap (λ w. square w (unsigned_abs columns.north)) (sym c.corner-west.ensures.west) ∙ ap (square west) (sym c.corner-west.ensures.north) in
    let before = c.patches_around.result.0.now in
    let before_is : before ≡ filter (is_before n) old =
    subst (λ ds. AreInOrder 0 ds → before ≡ filter (is_before n) ds) c.deref.ensures.value c.patches_around.ensures.before tells.patches.ordered in
    let behind = c.patches_around.result.1.now in
    let behind_is : behind ≡ filter (is_behind n) old =
    subst (λ ds. AreInOrder 0 ds → behind ≡ filter (is_behind n) ds) c.deref.ensures.value c.patches_around.ensures.behind tells.patches.ordered in
    let is_low : low ≡ before =
    c.in_ok-extend_from_slice.ensures.items ∙ ap (λ ds. ds ++ before) c.in_ok-patches.ensures.items in
    let is_new : new ≡ mid ++ filter (is_behind n) old =
    c.in_ok-extend_from_slice-2.ensures.items ∙ ap (λ ds. mid ++ ds) behind_is in
    let adds : AddsAny n o columns low mid = subst (λ (e : Extent). AddsAny n o e low mid) (sym whole) c.in_ok-add_any.ensures in
    let is_here : ltb (length before) c.len-2.result ≡ ltb (length low) (length mid) =
    ap (λ k. ltb (length before) k) (c.len-2.ensures ∙ c.add_any.new.patches.ok.0) ∙ ap (λ ds. ltb (length ds) (length mid)) (sym is_low) in
    record {
      patches = renewed_tells shapes columns n o old tells.patches low mid new (is_low ∙ before_is) adds is_new;
      numbers =
          renumbered_tells columns n o old low mid new c.args.self.now.numbers.items c.deref-2.result.now c.in_ok-numbers.numbers.items
          (ltb (length before) c.len-2.result) tells.numbers
          (is_low ∙ before_is) adds is_new c.deref-2.ensures.value is_here c.in_ok-numbers.ensures;
    }
