-- Sectors that begin their next windows one after another, from the first on.
use Rattle.std.proofs.Common.{◌≡◌, ℕ, zero, suc, ◌+◌, ◌<◌, List, [], ◌∷◌, ◌++◌, length, map, take, get_or, set, refl, sym, ap, ◌∙◌, arith}
use Rattle.std.proofs.lemmas.List.{map-append, take_more}
use Rattle.vx_cells.specs.SectorCells.{SectorCells}
use Rattle.vx_policy.specs.declared.version.Version.{Version}
use Rattle.vx_sector.specs.SectorData.{SectorData, FreshData}
use Rattle.vx_sector.specs.Windows.{renewed}
use Rattle.vx_windows.specs.Sectors.{AreOf, renewed_each, all_renewed}

pub as_many_renewed : (v : Version) (ss : List SectorData) (cs : List SectorCells) → length (all_renewed v ss cs) ≡ length ss
as_many_renewed v [] cs = refl
as_many_renewed v (s ∷ ss) [] = ap suc (as_many_renewed v ss [])
as_many_renewed v (s ∷ ss) (c ∷ cs) = ap suc (as_many_renewed v ss cs)

-- what is made of one element more
pub mapped_more : {X Y : Type 0} (f : X → Y) (xs : List X) (i : ℕ) (x : X) → i < length xs → x ≡ get_or xs i x
    → map f (take i xs) ++ f x ∷ [] ≡ map f (take (i + 1) xs)
mapped_more f xs i x within is =
    sym (map-append f (take i xs) (x ∷ []))
    ∙ ap (map f) (sym (take_more xs i x within ∙ ap (λ last. take i xs ++ (last ∷ [])) (sym is)))

pub renewed_none : (ss : List SectorData) → renewed_each ss [] ≡ ss
renewed_none [] = refl
renewed_none (s ∷ ss) = refl

pub as_many : (ss : List SectorData) (fs : List FreshData) → length (renewed_each ss fs) ≡ length ss
as_many [] fs = refl
as_many (s ∷ ss) [] = refl
as_many (s ∷ ss) (f ∷ fs) = ap suc (as_many ss fs)

-- the next sector is still as it was
next_as_before : (ss : List SectorData) (fs : List FreshData) (d : SectorData)
    → get_or (renewed_each ss fs) (length fs) d ≡ get_or ss (length fs) d
next_as_before [] fs d = refl
next_as_before (s ∷ ss) [] d = refl
next_as_before (s ∷ ss) (f ∷ fs) d = next_as_before ss fs d

pub still_before : (ss now : List SectorData) (fs : List FreshData) (k : ℕ) (d : SectorData) → k ≡ length fs → now ≡ renewed_each ss fs
    → get_or now k d ≡ get_or ss (length fs) d
still_before ss now fs k d number so_far =
    ap (λ k. get_or now k d) number ∙ ap (λ xs. get_or xs (length fs) d) so_far ∙ next_as_before ss fs d

one_more : (ss : List SectorData) (fs : List FreshData) (f : FreshData) (d : SectorData)
    → set (renewed_each ss fs) (length fs) (renewed (get_or ss (length fs) d) f) ≡ renewed_each ss (fs ++ f ∷ [])
one_more [] fs f d = refl
one_more (s ∷ ss) [] f d = ap (λ rs. renewed s f ∷ rs) (sym (renewed_none ss))
one_more (s ∷ ss) (e ∷ fs) f d = ap (λ rs. renewed s e ∷ rs) (one_more ss fs f d)

-- one more sector begins its next window
pub renewed_more : (ss now : List SectorData) (fs : List FreshData) (f : FreshData) (k : ℕ) (d : SectorData) → k ≡ length fs → now ≡ renewed_each ss fs
    → set now k (renewed (get_or now k d) f) ≡ renewed_each ss (fs ++ f ∷ [])
renewed_more ss now fs f k d number so_far =
    ap (λ k. set now k (renewed (get_or now k d) f)) number
    ∙ ap (λ xs. set xs (length fs) (renewed (get_or xs (length fs) d) f)) so_far
    ∙ ap (λ s. set (renewed_each ss fs) (length fs) (renewed s f)) (next_as_before ss fs d)
    ∙ one_more ss fs f d

-- there is something for each sector
pub as_many_fresh : (ss : List SectorData) (fs : List FreshData) → AreOf ss fs → length ss ≡ length fs
as_many_fresh [] [] are = refl
as_many_fresh [] (f ∷ fs) are = absurd are
as_many_fresh (s ∷ ss) [] are = absurd are
as_many_fresh (s ∷ ss) (f ∷ fs) are = ap suc (as_many_fresh ss fs are.1)

-- and its cells are of the sector
pub is_of : (i : ℕ) (ss : List SectorData) (fs : List FreshData) (s : SectorData) (f : FreshData)
    → AreOf ss fs → i < length fs
    → ((get_or fs i f).cells.bounds ≡ (get_or ss i s).cells.bounds) × ((get_or fs i f).cells.sector ≡ (get_or ss i s).cells.sector)
is_of i [] [] s f are near = absurd (omega (arith, near))
is_of i [] (e ∷ fs) s f are near = absurd are
is_of i (t ∷ ss) [] s f are near = absurd are
is_of zero (t ∷ ss) (e ∷ fs) s f are near = are.0
is_of (suc i) (t ∷ ss) (e ∷ fs) s f are near = is_of i ss fs s f are.1 (omega (arith, near))
