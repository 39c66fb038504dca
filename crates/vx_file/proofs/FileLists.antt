-- Lists that a loop reads one after another, behind those it has read.
use Rattle.std.proofs.Common.{◌≡◌, ◌<◌, List, [], ◌∷◌, ◌++◌, length, map, Option, None, option_map, nat_eq, false, refl, sym, ap, arith}
use Rattle.toml.specs.View.{view, items_view}
use Rattle.toml.specs.declared.value.Value.{Value}
use Rattle.vx_geom.specs.Polygon.{Column}
use Rattle.vx_file.specs.FileValues.{data_of, columns_of}

-- these, behind those before
abbrev pub onto : {A : Type 0} → List A → Option (List A) → Option (List A)
onto before more = option_map (λ xs. before ++ xs) more

-- the items of an array as a list
pub data_of_view : (vs : List Value) → data_of (items_view vs) ≡ map view vs
data_of_view [] = refl
data_of_view (v ∷ vs) = ap (λ ds. view v ∷ ds) (data_of_view vs)

-- one value that is left over is no column
pub columns_odd : (before : List Column) (vs : List Value) (whole : Option (List Column)) → length vs < 2 → nat_eq (length vs) 0 ≡ false
    → onto before (columns_of (map view vs)) ≡ whole → whole ≡ None
columns_odd before [] whole short some so = cc
columns_odd before (v ∷ []) whole short some so = sym so
columns_odd before (v ∷ w ∷ vs) whole short some so = absurd (omega arith)
