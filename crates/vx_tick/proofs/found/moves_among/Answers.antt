use Rattle.std.proofs.Common.{◌≡◌, ◌+◌, true, ◌++◌, rules, ap, ◌∙◌, drop}
use Rattle.std.proofs.lemmas.List.Elements.{All-get_or}
use Rattle.std.proofs.Math.ListN.{drop_of_length-le}
use Rattle.std.specs.Option.{option_to_list}
use Rattle.vx_cells.specs.Maps.{cell_on}
use Rattle.vx_piston.specs.Moves.{is_restless}
use Rattle.vx_tick.specs.Ticks.{asked}
use Rattle.vx_tick.proofs.Asking.{asked_on}
use Rattle.vx_tick.proofs.Turning.{ended}
use Rattle.vx_tick.proofs.found.moves_among.Goals as goal

-- each of these would move, so that what it asks for is what it is asked
pub loop-p-preserved : goal.loop-p-preserved
loop-p-preserved c level all =
    let m = c.args.map.now in
    let ps = c.args.restless.now in
    let i = c.loop-p.p-index in
    let added : c.match-asked_by.moves.items ≡ c.loop-p.moves.items ++ option_to_list c.asked_by.result =
    search rules in
    let restless = All-get_or (λ p. is_restless (cell_on m) level p ≡ true) ps i _ c.loop-p-test.true all in
    ap (λ moves. moves ++ asked m level (drop (i + 1) ps)) added
    ∙ asked_on m level ps i _ c.loop-p.moves.items c.asked_by.result c.loop-p-test.true
    (c.asked_by.ensures level restless)
    ∙ c.loop-p.invariant level all

pub returns : goal.returns
returns c = λ level all.
    ended c.loop-p.moves.items _ _ (ap (asked c.args.map.now level) (drop_of_length-le c.args.restless.now c.loop-p-test.false)) (c.loop-p.invariant level all)
