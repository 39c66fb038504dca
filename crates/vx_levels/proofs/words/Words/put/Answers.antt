use Rattle.std.proofs.Common.{◌≡◌, ◌<◌, length, set, get_or, None, if◌then◌else◌, ap, subst, ◌∙◌}
use Rattle.std.proofs.lemmas.List.{get_or_read}
use Rattle.std.proofs.lemmas.Result.{on_ok_weaker}
use Rattle.vx_power.specs.Levels.{sheet_of, same_place, level_of, level_in}
use Rattle.vx_power.proofs.Tables.{table_put}
use Rattle.vx_levels.proofs.words.Words.put.Goals as goal

pub returns : goal.returns
returns c =
    let table = c.self.inside.sheets.items in
    let p = c.args.p in
    let new = c.put_in.new.sheet in
    let reached = rw (← c.self.view_is) at c.in_ok-reach_sheet.ensures in
    let number : c.sheet_number-number.result ≡ sheet_of p = c.sheet_number-number.ensures in
    let read = get_or_read table _ c.index_mut.result.now reached.there c.index_mut.ensures.value None
    ∙ ap (λ k. get_or table k None) number in
    on_ok_weaker c.put_in.result
    (λ changed q. ap (λ k. level_in (set table k new) q) number
    ∙ table_put table p c.args.word new (subst (λ k. k < length table) number reached.there)
    (λ r here. changed r here ∙ (λ t. if same_place r p then c.args.word else level_of (read t) r)) q
    ∙ ap (λ level. if same_place q p then c.args.word else level) (reached.same q))
    c.put_in.ensures
