use Rattle.std.proofs.Common.{◌≡◌, ℕ, ◌+◌, ◌-◌, ◌<◌, ◌≤◌, Bool, true, false, [], List, length, get_or, take, drop, sym, ap, subst, ◌∙◌, rules, arith}
use Rattle.std.specs.List.{All}
use Rattle.std.specs.List.Sorted.{IsPartitionedBy, IsPartitionPoint}
use Rattle.std.proofs.Math.Dec.{ltb}
use Rattle.std.proofs.lemmas.Bool.{ltb-true, ltb-false}
use Rattle.std.proofs.lemmas.List.{take_all, length-drop, get_or-drop}
use Rattle.std.proofs.lemmas.List.Sorted.{IsPartitionPoint-from_clause, IsPartitionedBy-ltb}
use Rattle.vx_record.specs.Kept.{windows_kept, AreInOrder}
use Rattle.vx_record.specs.declared.kept_window.KeptWindow.{KeptWindow}
use Rattle.vx_record.proofs.Keeping.{as_many, never_fall, order_from, kept_behind}
use Rattle.vx_record.proofs.closed_windows.ClosedWindows.kept_from.Goals as goal

module _ (c : goal.After-result-1) where
  abbrev sectors : ℕ
  sectors = c.self.inside.sectors

  abbrev kept : List KeptWindow
  kept = c.self.inside.kept.items

  abbrev place : ℕ
  place = c.partition_point-before.result

  abbrev is_lower : KeptWindow → Bool
  is_lower w = ltb w.sector c.args.first

  many : sectors ≡ length c.args.self.now
  many = sym (as_many sectors kept) ∙ ap length c.self.view_is

  order : AreInOrder sectors kept
  order = c.self.invariant

  -- what is handed out is all from the place on
  whole : take (length c.deref-2.result.now - place) (drop place c.deref-2.result.now) ≡ drop place kept
  whole =
      take_all (length c.deref-2.result.now - place) (drop place c.deref-2.result.now)
      (omega (arith, length-drop place c.deref-2.result.now))
      ∙ ap (drop place) c.deref-2.ensures.value

  parted : IsPartitionPoint (λ w. is_lower w ≡ true) (λ w. is_lower w ≡ false) kept place
  parted =
      subst (λ ws. IsPartitionPoint (λ w. is_lower w ≡ true) (λ w. is_lower w ≡ false) ws place) c.deref.ensures.value
      (IsPartitionPoint-from_clause is_lower _ _ c.partition_point-before.ensures.partitioned
      (subst (IsPartitionedBy is_lower) (sym c.deref.ensures.value)
      (IsPartitionedBy-ltb (λ w. w.sector) kept c.args.first (never_fall sectors kept order)))
      (λ a r q k. search rules))

pub returns-clause-order : goal.returns-clause-order
returns-clause-order c =
    subst (λ ws. AreInOrder (length c.args.self.now) ws) (sym (whole c))
    (subst (λ n. AreInOrder n (drop (place c) (kept c))) (many c)
    (order_from (sectors c) (kept c) (place c) (order c)))

pub returns-clause-from : goal.returns-clause-from
returns-clause-from c =
    subst (λ ws. All (λ (w : KeptWindow). c.args.first ≤ w.sector) ws) (sym (whole c))
    (λ k d within.
    let there : place c + k < length (kept c) =
    omega (arith, within, length-drop (place c) (kept c)) in
    subst (λ (w : KeptWindow). c.args.first ≤ w.sector) (sym (get_or-drop (place c) (kept c) k d))
    (ltb-false _ c.args.first ((parted c).1 (place c + k) d (omega arith) there)))

pub returns-clause-windows : goal.returns-clause-windows
returns-clause-windows c = λ k from.
    ap (λ ws. get_or ws k []) (sym c.self.view_is)
    ∙ kept_behind (sectors c) (kept c) (place c) k
    (λ j d before within. let lower = ltb-true _ c.args.first ((parted c).0 j d (omega arith) before) in
    λ same. absurd (omega (arith, lower, same, from)))
    ∙ ap (λ n. get_or (windows_kept n (drop (place c) (kept c))) k []) (many c)
    ∙ ap (λ ws. get_or (windows_kept (length c.args.self.now) ws) k []) (sym (whole c))
