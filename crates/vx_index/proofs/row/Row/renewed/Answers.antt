use Rattle.std.specs.Option.{option_copied}
use Rattle.std.proofs.Common.{◌≡◌, ◌∙◌, [], ◌∷◌, ◌++◌, rules, sym, subst}
use Rattle.std.specs.List.{All}
use Rattle.vx_index.specs.Tiles.{TellsOf}
use Rattle.vx_index.specs.Plots.{LiesAlong}
use Rattle.vx_index.specs.Shapes.{renewed_at}
use Rattle.vx_index.proofs.Along.{along_still}
use Rattle.vx_index.proofs.Told.{copy_holds, push_holds}
use Rattle.vx_index.proofs.row.Row.renewed.Goals as goal
use Rattle.vx_index.proofs.row.Row.renewed.Goals.{then-is_touched+in_ok-renewed, else-is_touched+in_ok-try_clone}

pub loop-plot-preserved : goal.loop-plot-preserved
loop-plot-preserved c =
    let shape = option_copied c.args.shape in
    let n = c.args.number in
    let plots = c.loop-plot.plots.items in
    let old = c.plot-item.result in
    let columns = c.self.inside.columns in
    let along : LiesAlong columns old = search rules in
    elim c.if-is_touched.branch [
      | then-is_touched+in_ok-renewed w ↦
          let new = w.in_ok-renewed.field-0 in
          let pushed : w.push_reserved.new.self.items ≡ plots ++ new ∷ [] = search rules in
          rw w.plots-is (
            λ shapes tell are.
                let tells : TellsOf shapes old = search rules in
                push_holds (TellsOf (renewed_at shapes n shape)) plots w.push_reserved.new.self.items new pushed (c.loop-plot.invariant.0 shapes tell are)
                (subst (λ o. TellsOf (renewed_at shapes n o) new) (w.as_ref.ensures.value ∙ c.loop-plot.invariant.4) (w.in_ok-renewed.ensures.of shapes tells)),
            push_holds (LiesAlong columns) plots w.push_reserved.new.self.items new pushed c.loop-plot.invariant.1
                (along_still columns old new w.in_ok-renewed.ensures.columns along),
            search rules,
            search rules,
            search rules,
          )
      | else-is_touched+in_ok-try_clone w ↦
          let copy = w.in_ok-try_clone.field-0 in
          let same : copy ≡ old = w.in_ok-try_clone.ensures in
          let pushed : w.push_reserved-else-is_touched.new.self.items ≡ plots ++ copy ∷ [] = search rules in
          rw w.plots-is (
            λ shapes tell are.
                let tells : TellsOf shapes old = search rules in
                push_holds (TellsOf (renewed_at shapes n shape)) plots w.push_reserved-else-is_touched.new.self.items copy pushed (c.loop-plot.invariant.0 shapes tell are)
                (subst (TellsOf (renewed_at shapes n shape)) (sym same) (c.is_touched.ensures w.if-is_touched.false shapes n shape tells are)),
            push_holds (LiesAlong columns) plots w.push_reserved-else-is_touched.new.self.items copy pushed c.loop-plot.invariant.1
                (subst (LiesAlong columns) (sym same) along),
            search rules,
            search rules,
            search rules,
          )
    ]

pub returns : goal.returns
returns c shapes tell are =
    copy_holds (All (TellsOf (renewed_at shapes c.args.number (option_copied c.args.shape)))) c.loop-plot.plots.items c.made.result c.made.ensures
    (c.loop-plot.invariant.0 shapes tell are)
