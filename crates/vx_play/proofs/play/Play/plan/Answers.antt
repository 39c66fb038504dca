use Rattle.std.proofs.Common.{◌≡◌, false, IfSome, map, sym, ap, subst, ◌∙◌}
use Rattle.std.specs.List.{All}
use Rattle.std.proofs.lemmas.Option.{IfSome_then}
use Rattle.vx_geom.specs.declared.pos.Pos.{Pos}
use Rattle.vx_cells.specs.Maps.{MapData, cell_on}
use Rattle.vx_power.specs.Levels.{has}
use Rattle.vx_still.specs.Watching.{with_written, IsWatch}
use Rattle.vx_still.proofs.Watching.{writes_keep_watch}
use Rattle.vx_windows.specs.Sectors.{cells_of}
use Rattle.vx_windows.specs.Writing.{IsSpared, map_before}
use Rattle.vx_windows.proofs.Sparing.{map_spared}
use Rattle.vx_play.specs.Plays.{PlayData}
use Rattle.vx_play.proofs.play.Play.plan.Goals as goal

pub plan_by-requires : goal.plan_by-requires
plan_by-requires g c =
    let i = c.self.inside in
    let ss = i.sectors.items in
    let now : MapData = record { sizes = i.bounds; sectors = map cells_of ss } in
    let map_is : c.apart-map.result ≡ now =
    c.apart-map.ensures
    ∙ (λ j. record { sizes = i.bounds; sectors = (ap (map (λ d. d.now)) c.deref-3.ensures.value ∙ c.in_ok-cells.ensures ∙ ap (map cells_of) c.deref.ensures.value) j }) in
    let places : c.as_slice.result.now ≡ c.in_ok-written.written.items = c.as_slice.ensures.value in
    let spared : (p : Pos) → has c.as_slice.result.now p ≡ false → cell_on now p ≡ cell_on (map_before i.bounds ss) p =
    λ p none. map_spared i.bounds p ss c.self.invariant.2
    (subst (All (IsSpared p)) c.deref-2.ensures.value (c.in_ok-written.ensures p (ap (λ ps. has ps p) (sym places) ∙ none))) in
    subst (λ m. IfSome c.args.watch (λ watch. IsWatch m (with_written watch c.as_slice.result.now))) (sym map_is)
    (IfSome_then c.args.watch {P = IsWatch (map_before i.bounds ss)} {Q = λ watch. IsWatch now (with_written watch c.as_slice.result.now)}
    (subst (λ (p : PlayData). IfSome c.args.watch (IsWatch (map_before p.sizes p.sectors))) (sym c.self.view_is) c.requires)
    (λ watch is. writes_keep_watch (map_before i.bounds ss) now watch c.as_slice.result.now is spared))
