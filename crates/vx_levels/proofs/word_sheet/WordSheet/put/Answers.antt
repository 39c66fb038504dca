use Rattle.std.proofs.Common.{Some, set, ap, ◌∙◌}
use Rattle.vx_power.specs.Levels.{level_of}
use Rattle.vx_power.proofs.Tables.{sheet_put}
use Rattle.vx_levels.proofs.word_sheet.WordSheet.put.Goals as goal

pub returns : goal.returns
returns c =
    let sheet = c.self.inside.words.items in
    rw (← c.self.view_is)
    (λ q here. ap (λ k. level_of (Some (set sheet k c.args.word)) q) c.column.ensures.value
    ∙ sheet_put sheet c.args.p c.args.word c.requires c.self.invariant q here)
