use Rattle.std.proofs.Common.{◌≡◌, ℕ, ◌+◌, ◌<◌, List, [], ◌∷◌, ◌++◌, length, map, take, get_or, sym, ap, ◌∙◌}
use Rattle.std.proofs.lemmas.List.{map-append, take_more, take_all}
use Rattle.vx_cells.specs.SectorCells.{SectorCells}
use Rattle.vx_sector.specs.SectorData.{SectorData}
use Rattle.vx_windows.specs.Sectors.{cells_of}
use Rattle.vx_windows.proofs.windows.cells_of.Goals as goal

-- the cells of one sector more
one_more : {X : Type 0} (now : X → SectorCells) (xs new : List X) (x : X) (ss : List SectorData) (i : ℕ) (s : SectorData)
    → new ≡ xs ++ x ∷ [] → now x ≡ cells_of s
    → i < length ss → s ≡ get_or ss i s → map now xs ≡ map cells_of (take i ss) → map now new ≡ map cells_of (take (i + 1) ss)
one_more now xs new x ss i s pushed last within is so_far =
    ap (map now) pushed ∙ map-append now xs (x ∷ []) ∙ (λ j. so_far j ++ (last j ∷ [])) ∙ sym (map-append cells_of (take i ss) (s ∷ []))
    ∙ ap (map cells_of) (sym (take_more ss i s within ∙ ap (λ t. take i ss ++ (t ∷ [])) (sym is)))

pub loop-sector-preserved : goal.loop-sector-preserved
loop-sector-preserved c =
    one_more (λ c. c.now) c.loop-sector.cells.items c.push.new.self.items c.cells.result c.args.sectors.now c.loop-sector.sector-index c.sector-item.result
    c.in_ok-push.ensures.items c.cells.ensures.cells c.loop-sector-test.true c.sector-item.is c.loop-sector.invariant

pub returns : goal.returns
returns c = c.loop-sector.invariant ∙ ap (map cells_of) (take_all c.loop-sector.sector-index c.args.sectors.now c.loop-sector-test.false)
