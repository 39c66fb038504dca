use Rattle.std.proofs.Common.{◌≡◌, ◌≢◌, ◌<◌, true, false, [], List, length, map, get_or, sym, ap, subst, ◌∙◌, rules, arith}
use Rattle.std.specs.List.Sorted.{IsPartitionedBy, IsPartitionPoint}
use Rattle.std.proofs.Math.Dec.{ltb}
use Rattle.std.proofs.lemmas.Bool.{ltb-false}
use Rattle.std.proofs.lemmas.List.Sorted.{IsPartitionPoint-from_clause, IsPartitionedBy-ltb}
use Rattle.vx_sector.specs.SectorData.{entry_of}
use Rattle.vx_record.specs.Kept.{windows_kept}
use Rattle.vx_record.specs.declared.kept_window.KeptWindow.{KeptWindow}
use Rattle.vx_record.proofs.Keeping.{kept_at, empty_at, never_fall, not_kept}
use Rattle.vx_record.proofs.closed_windows.ClosedWindows.window.Goals.{in_default-via-in-Some+else-window-at, in_default-via-in_default}
use Rattle.vx_record.proofs.closed_windows.ClosedWindows.window.Goals as goal

pub returns-in-Some : goal.returns-in-Some
returns-in-Some c =
    let sectors = c.self.inside.sectors in
    let kept = c.self.inside.kept.items in
    let place = c.partition_point-before.result in
    let window = c.in-Some.window.now in
    let there = c.in-Some.ensures.lookup in
    let items = c.deref-2.ensures.value in
    let found = kept_at sectors kept place window c.self.invariant (omega (arith, there.3.0, ap length items))
    (subst (λ (ws : List KeptWindow). window ≡ get_or ws place window) items there.1) in
    ap (map entry_of) c.deref-in-Some.ensures.value ∙ sym found
    ∙ ap (λ n. get_or (windows_kept sectors kept) n []) c.if-window-at.true
    ∙ ap (λ ws. get_or ws c.args.at []) c.self.view_is

pub returns-in_default : goal.returns-in_default
returns-in_default c =
    let sectors = c.self.inside.sectors in
    let kept = c.self.inside.kept.items in
    let at = c.args.at in
    let place = c.partition_point-before.result in
    let is_lower = λ (w : KeptWindow). ltb w.sector at in
    let parted : IsPartitionPoint (λ w. is_lower w ≡ true) (λ w. is_lower w ≡ false) kept place =
    subst (λ ws. IsPartitionPoint (λ w. is_lower w ≡ true) (λ w. is_lower w ≡ false) ws place) c.deref.ensures.value
    (IsPartitionPoint-from_clause is_lower _ _ c.partition_point-before.ensures.partitioned
    (subst (IsPartitionedBy is_lower) (sym c.deref.ensures.value)
    (IsPartitionedBy-ltb (λ w. w.sector) kept at (never_fall sectors kept c.self.invariant)))
    (λ a r q k. search rules)) in
    let items = c.deref-2.ensures.value in
    let other : (window : KeptWindow) → place < length kept → (get_or kept place window).sector ≢ at =
    elim c.in_default.branch [
      | in_default-via-in-Some+else-window-at w ↦ λ window within same. w.if-window-at.false
          (ap (λ w. w.sector) (w.in-Some.ensures.lookup.3.1 window ∙ ap (λ ws. get_or ws place window) items) ∙ same)
      | in_default-via-in_default w ↦ λ window within same. absurd
          (omega (arith, within, ap length items, ltb-false place _ (sym w.in_default.ensures.lookup.0)))
    ] in
    sym (empty_at sectors kept at (not_kept sectors kept at place c.self.invariant parted other))
    ∙ ap (λ ws. get_or ws at []) c.self.view_is
