use Rattle.std.proofs.Common.{◌≡◌, ℕ, List, None, Some, Option, length, map, replicate, sym, ap, ◌∙◌, subst, arith}
use Rattle.std.proofs.lemmas.List.{length-map, length-replicate}
use Rattle.vx_cells.specs.Maps.{AreSectors}
use Rattle.vx_cells.specs.SectorCells.{SectorCells}
use Rattle.vx_sector.specs.SectorData.{SectorData}
use Rattle.vx_windows.specs.Sectors.{cells_of, with_changes}
use Rattle.vx_keeper.specs.Busy.{AreNextOf, with_each}
use Rattle.vx_keeper.specs.Keepers.{map_by}
use Rattle.vx_keeper.specs.Readiness.{IsReadyAtRest}
use Rattle.vx_keeper.proofs.Among.{as_many, changed_each}
use Rattle.vx_keeper.proofs.Nexts.{none_change}
use Rattle.vx_keeper.proofs.ready_for_busy.ReadyForBusy.new.Goals as goal

-- so many sectors as these are the cells of
counted : {X : Type 0} (f : X → SectorCells) (xs : List X) (cs : List SectorCells) (n : ℕ)
    → n ≡ length xs → map f xs ≡ cs → n ≡ length cs
counted f xs cs n many own = many ∙ sym (length-map xs f) ∙ ap length own

-- the cells of the busy sectors, each in the place of its number
module _ (cs : List SectorCells) (ys : List (Option SectorCells)) (busy : List SectorData) (n : ℕ) (many : n ≡ length cs)
    (written : ys ≡ with_each (λ (s : SectorData). Some s.cells) (replicate n None) busy) where
  each : length ys ≡ length cs
  each =
      ap length written ∙ as_many (λ (s : SectorData). Some s.cells) (replicate n None) busy
      ∙ length-replicate {A = Option SectorCells} n None ∙ many

  put_in : with_changes cs ys ≡ with_each cells_of cs busy
  put_in =
      ap (with_changes cs) written
      ∙ changed_each cs (replicate n None) busy (length-replicate {A = Option SectorCells} n None ∙ many)
      ∙ ap (λ ds. with_each cells_of ds busy) (none_change cs n)

pub over-requires-clause-each : goal.over-requires-clause-each
over-requires-clause-each c =
    let cs = c.args.known.now.map.sectors in
    let cells = c.in_ok-cells.cells in
    let many = counted (λ d. d.now) cells.items cs c.len.result (omega (arith, c.len.ensures, cells.ok.0)) c.in_ok-cells.ensures in
    each cs c.in_ok-written.written.items c.args.busy.now c.len.result many c.in_ok-written.ensures

pub over-requires-clause-placed : goal.over-requires-clause-placed
over-requires-clause-placed c =
    let cs = c.args.known.now.map.sectors in
    let cells = c.in_ok-cells.cells in
    let many = counted (λ d. d.now) cells.items cs c.len.result (omega (arith, c.len.ensures, cells.ok.0)) c.in_ok-cells.ensures in
    subst (AreSectors c.args.known.now.map.sizes)
    (sym (put_in cs c.in_ok-written.written.items c.args.busy.now c.len.result many c.in_ok-written.ensures))
    c.requires.placed

pub fresh_of-requires-clause-there : goal.fresh_of-requires-clause-there
fresh_of-requires-clause-there c k d within =
    omega (
      arith,
      c.requires.there k d within,
      ap length c.deref-2.ensures.value,
      length-map c.in_ok-cells.cells.items (λ d. d.now),
      ap length c.in_ok-cells.ensures,
    )

pub returns : goal.returns
returns c =
    let world = c.args.known.now in
    let cs = world.map.sectors in
    let busy = c.args.busy.now in
    let cells = c.in_ok-cells.cells in
    let many = counted (λ d. d.now) cells.items cs c.len.result (omega (arith, c.len.ensures, cells.ok.0)) c.in_ok-cells.ensures in
    let lead = c.in_ok-lead.lead in
    let led = subst (λ ds. IsReadyAtRest world (map_by world.map.sizes ds) c.args.work c.args.version lead)
    (put_in cs c.in_ok-written.written.items busy c.len.result many c.in_ok-written.ensures) c.in_ok-lead.ensures.ready in
    let fresh = c.in_ok-fresh.fresh.items in
    let own = ap (map (λ d. d.now)) c.deref-2.ensures.value ∙ c.in_ok-cells.ensures in
    record {
      lead = led;
      renew = record {
        fresh =
            subst (λ v. AreNextOf (with_changes cs lead.changes.items) v busy fresh) led.version
            (subst (λ ds. AreNextOf ds lead.version busy fresh) (λ i. with_changes (own i) (c.deref-3.ensures.value i)) c.in_ok-fresh.ensures);
        none_kept = c.in_ok-kept.ensures.items;
        room_kept = omega (arith, c.in_ok-kept.ensures.capacity);
      };
    }
