use Rattle.std.proofs.Common.{◌≡◌, ◌-◌, ◌<◌, length, List, Some, option_map, is_ok, refl, ap, sym, ◌∙◌, subst}
use Rattle.std.specs.Arc.{arc_value}
use Rattle.std.specs.Global.{Vec}
use Rattle.std.proofs.lemmas.Result.{on_err_weaker, IfOk-weaker}
use Rattle.vx_region.specs.Blocks.{BlockData}
use Rattle.vx_region.specs.Regions.{Entry}
use Rattle.vx_region.proofs.Blocks.{taken, own_read, own_written, own_left}
use Rattle.vx_region.proofs.block.Block.own.Goals as goal

pub returns : goal.returns
returns c =
    let old = (arc_value c.self.inside.entries).items in
    let own = c.in_ok-entries.entries.now.items in
    let e = c.index_mut-entry.result.now in
    let copied : own ≡ old = taken _ _ c.in_ok-entries.ensures.value in
    let within : c.args.place - c.self.inside.start < length old =
    subst (λ (b : BlockData). c.args.place - b.start < length b.entries) (sym c.self.view_is) c.requires.1 in
    let whole = λ (es : List Entry). let b : BlockData = record { start = c.self.inside.start; entries = es } in b in
    let written = λ (v : Vec Entry). ap (λ (v : Vec Entry). v.items) (c.make_mut.follows.holds v (ap is_ok c.in_ok-entries.was)) in
    rw (← c.self.view_is) (
      (
        refl,
        (λ w ok. ap whole (written _ ∙ own_written old own _ e copied within c.index_mut-entry.ensures.value w _ (c.own.follows.holds w ok))),
        on_err_weaker c.own.result (λ left. ap whole (written _ ∙ own_left old own _ e copied within c.index_mut-entry.ensures.value _ left)) c.own.follows.holds-at-none,
      ),
      record { writes_back = tt; value = IfOk-weaker c.own.result _ _ (λ region same. ap (option_map (λ (e : Entry). e.1)) (own_read old own _ e copied within c.index_mut-entry.ensures.value) ∙ ap Some (sym same)) c.own.ensures.value },
    )
