-- Sectors that begin their next windows.
use Rattle.std.proofs.Common.{◌≡◌, ℕ, zero, suc, ◌+◌, ◌<◌, List, [], ◌∷◌, ◌++◌, Vec, Global, length, map, take, get_or, refl, sym, ap, ◌∙◌, subst, arith}
use Rattle.std.specs.List.{All, AllByRecursion}
use Rattle.std.proofs.lemmas.List.{map-append, length-map}
use Rattle.std.proofs.lemmas.List.Elements.{recursion_from_All, All-from_recursion}
use Rattle.vx_geom.specs.Sizes.{Sizes}
use Rattle.vx_block.specs.declared.cell.Cell.{Cell}
use Rattle.vx_geom.specs.declared.pos.Pos.{Pos}
use Rattle.vx_cells.specs.Maps.{MapData, AreFrom, AreSectors}
use Rattle.vx_cells.specs.SectorCells.{SectorCells}
use Rattle.vx_cells.specs.Wholes.{IsMap, with_cells_on}
use Rattle.vx_cells.proofs.Setting.{puts_whole}
use Rattle.vx_policy.specs.declared.version.Version.{Version}
use Rattle.vx_sector.specs.SectorData.{SectorData}
use Rattle.vx_sector.specs.Windows.{renewed}
use Rattle.vx_sector.specs.declared.entry.Entry.{Entry}
use Rattle.vx_windows.specs.Sectors.{AreOf, cells_of, window_over, renewed_over, renewed_each, all_renewed, entries_in, entries_of, base_of}

take_one : {X : Type 0} (xs : List X) (i : ℕ) (d : X) → i < length xs → take (i + 1) xs ≡ take i xs ++ get_or xs i d ∷ []
take_one [] i d within = absurd (omega arith)
take_one (x ∷ xs) zero d within = refl
take_one (x ∷ xs) (suc i) d within =
    let next : suc i + 1 ≡ suc (i + 1) = omega arith in
    ap (λ n. take n (x ∷ xs)) next ∙ ap (λ ys. x ∷ ys) (take_one xs i d (omega arith))

-- one more window is closed
pub closed_more : (ws : List (Vec Entry Global)) (w : Vec Entry Global) (ss : List SectorData) (i : ℕ) (d : SectorData) → i < length ss
    → map entries_in ws ≡ map entries_of (take i ss) → entries_in w ≡ entries_of (get_or ss i d)
    → map entries_in (ws ++ w ∷ []) ≡ map entries_of (take (i + 1) ss)
closed_more ws w ss i d within so_far this =
    map-append entries_in ws (w ∷ [])
    ∙ ap (λ es. es ++ entries_in w ∷ []) so_far
    ∙ ap (λ e. map entries_of (take i ss) ++ e ∷ []) this
    ∙ sym (map-append entries_of (take i ss) (get_or ss i d ∷ []))
    ∙ sym (ap (map entries_of) (take_one ss i d within))

module _ (v : Version) where
  -- all begin with the cells of the next map
  pub cells_renewed : (ss : List SectorData) (cs : List SectorCells) → length ss ≡ length cs
      → map cells_of (all_renewed v ss cs) ≡ cs
  unfolding renewed
  cells_renewed [] [] same = refl
  cells_renewed [] (c ∷ cs) same = absurd (omega (arith, same))
  cells_renewed (s ∷ ss) [] same = absurd (omega (arith, same))
  cells_renewed (s ∷ ss) (c ∷ cs) same = ap (λ ds. c ∷ ds) (cells_renewed ss cs (omega (arith, same)))

  pub bases_renewed : (ss : List SectorData) (cs : List SectorCells) → length ss ≡ length cs
      → map base_of (all_renewed v ss cs) ≡ cs
  unfolding renewed
  bases_renewed [] [] same = refl
  bases_renewed [] (c ∷ cs) same = absurd (omega (arith, same))
  bases_renewed (s ∷ ss) [] same = absurd (omega (arith, same))
  bases_renewed (s ∷ ss) (c ∷ cs) same = ap (λ ds. c ∷ ds) (bases_renewed ss cs (omega (arith, same)))

  -- what each next window brings, all sectors have
  module _ (P Q : SectorData → Type 0) (brings : (s : SectorData) (c : SectorCells) → P s → Q (renewed_over v s c)) where
    each_renewed : (ss : List SectorData) (cs : List SectorCells) → AllByRecursion P ss
        → AllByRecursion Q (all_renewed v ss cs)
    each_renewed [] cs each = tt
    each_renewed (s ∷ ss) [] each = (brings s s.cells each.0, each_renewed ss [] each.1)
    each_renewed (s ∷ ss) (c ∷ cs) each = (brings s c each.0, each_renewed ss cs each.1)

    pub all_bring : (ss : List SectorData) (cs : List SectorCells) → All P ss → All Q (all_renewed v ss cs)
    all_bring ss cs all =
        All-from_recursion Q (all_renewed v ss cs) (each_renewed ss cs (recursion_from_All P ss all))

-- the next window is judged by the version that it was renewed with
pub renewed_version : (version : Version) (s : SectorData) (cells : SectorCells) → (renewed_over version s cells).version ≡ version
unfolding renewed
renewed_version version s cells = refl

-- two maps of one size have as many sectors
pub as_many_on_map : (sizes : Sizes) (ss : List SectorData) (cs : List SectorCells)
    → AreSectors sizes (map cells_of ss) → AreSectors sizes cs → length ss ≡ length cs
as_many_on_map sizes ss cs were are = omega (arith, length-map ss cells_of, were.all, are.all)

module _ (version : Version) where
  -- windows over the cells of a map are of the sectors of another of its size
  of_map_from : (sizes : Sizes) (k : ℕ) (ss : List SectorData) (cs : List SectorCells) → length ss ≡ length cs
      → AreFrom sizes k (map cells_of ss) → AreFrom sizes k cs → AreOf ss (map (window_over version) cs)
  of_map_from sizes k [] [] same were are = tt
  of_map_from sizes k [] (c ∷ cs) same were are = absurd (omega (arith, same))
  of_map_from sizes k (s ∷ ss) [] same were are = absurd (omega (arith, same))
  of_map_from sizes k (s ∷ ss) (c ∷ cs) same were are = (
    (are.0 ∙ sym were.0, are.1 ∙ sym were.1),
    of_map_from sizes (suc k) ss cs (omega (arith, same)) were.2 are.2,
  )

  pub of_map : (sizes : Sizes) (ss : List SectorData) (cs : List SectorCells)
      → AreSectors sizes (map cells_of ss) → AreSectors sizes cs → AreOf ss (map (window_over version) cs)
  of_map sizes ss cs were are = of_map_from sizes 0 ss cs (as_many_on_map sizes ss cs were are) were.each are.each

  -- sectors that begin windows over these cells, in order
  pub renewed_over_map : (ss : List SectorData) (cs : List SectorCells) → length ss ≡ length cs
      → renewed_each ss (map (window_over version) cs) ≡ all_renewed version ss cs
  renewed_over_map [] [] same = refl
  renewed_over_map [] (c ∷ cs) same = absurd (omega (arith, same))
  renewed_over_map (s ∷ ss) [] same = absurd (omega (arith, same))
  renewed_over_map (s ∷ ss) (c ∷ cs) same = ap (λ rs. renewed_over version s c ∷ rs) (renewed_over_map ss cs (omega (arith, same)))

  -- windows over the cells of a map with others put down
  module _ (sizes : Sizes) (ss : List SectorData) (cs : List SectorCells) (puts : List (Pos × Cell))
      (whole : AreSectors sizes (map cells_of ss))
      (after : record { sizes = sizes; sectors = cs } ≡ with_cells_on (record { sizes = sizes; sectors = map cells_of ss }) puts) where
    -- the cells stand in their places
    pub after_placed : AreSectors sizes cs
    after_placed = subst IsMap (sym after) (puts_whole (record { sizes = sizes; sectors = map cells_of ss }) puts whole).0

    pub of_after : AreOf ss (map (window_over version) cs)
    of_after = of_map sizes ss cs whole after_placed

    -- the windows begin over that map
    pub renewed_after : renewed_each ss (map (window_over version) cs)
        ≡ all_renewed version ss (with_cells_on (record { sizes = sizes; sectors = map cells_of ss }) puts).sectors
    renewed_after =
        renewed_over_map ss cs (as_many_on_map sizes ss cs whole after_placed)
        ∙ ap (λ (m : MapData). all_renewed version ss m.sectors) after

    pub begins_placed : AreSectors sizes (map cells_of (renewed_each ss (map (window_over version) cs)))
    begins_placed =
        let many = as_many_on_map sizes ss cs whole after_placed in
        subst (AreSectors sizes) (sym (ap (map cells_of) (renewed_over_map ss cs many) ∙ cells_renewed version ss cs many)) after_placed
