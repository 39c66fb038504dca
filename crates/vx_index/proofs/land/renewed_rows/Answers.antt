use Rattle.std.specs.Option.{option_copied}
use Rattle.std.proofs.Common.{◌≡◌, [], ◌∷◌, ◌++◌, List, rules, sym, subst}
use Rattle.std.specs.List.{All}
use Rattle.vx_index.specs.Tiles.{TellsOf}
use Rattle.vx_index.specs.Shapes.{renewed_at}
use Rattle.vx_index.specs.declared.tile.Tile.{Tile}
use Rattle.vx_index.proofs.Told.{push_holds}
use Rattle.vx_index.proofs.land.renewed_rows.Goals as goal
use Rattle.vx_index.proofs.land.renewed_rows.Goals.{then-is_touched+in_ok-renewed, else-is_touched+in_ok-try_clone}

pub loop-row-preserved : goal.loop-row-preserved
loop-row-preserved c =
    let shape = option_copied c.args.shape in
    let n = c.args.number in
    let rows = c.loop-row.after.items in
    let old = c.row-item.result in
    elim c.if-is_touched.branch [
      | then-is_touched+in_ok-renewed w ↦
          let new = w.in_ok-renewed.field-0 in
          let pushed : w.push_reserved.new.self.items ≡ rows ++ new ∷ [] = search rules in
          rw w.after-is (
            λ shapes tell are.
                let tells : All (TellsOf shapes) old = search rules in
                push_holds (All (TellsOf (renewed_at shapes n shape))) rows w.push_reserved.new.self.items new pushed (c.loop-row.invariant.0 shapes tell are)
                (w.in_ok-renewed.ensures shapes tells are),
            search rules,
            search rules,
          )
      | else-is_touched+in_ok-try_clone w ↦
          let copy = w.in_ok-try_clone.field-0 in
          let pushed : w.push_reserved-else-is_touched.new.self.items ≡ rows ++ copy ∷ [] = search rules in
          rw w.after-is (
            λ shapes tell are.
                let tells : All (TellsOf shapes) old = search rules in
                push_holds (All (TellsOf (renewed_at shapes n shape))) rows w.push_reserved-else-is_touched.new.self.items copy pushed (c.loop-row.invariant.0 shapes tell are)
                (subst (λ (cs : List Tile). All (TellsOf (renewed_at shapes n shape)) cs) (sym w.in_ok-try_clone.ensures)
                (c.is_touched.ensures w.if-is_touched.false shapes n shape tells are)),
            search rules,
            search rules,
          )
    ]
