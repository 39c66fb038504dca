-- What holds of the tiles of a row, and of those of all rows of a land.
use Rattle.std.proofs.Common.{◌≡◌, ℕ, ◌<◌, Bool, true, false, ◌&&◌, ◌||◌, List, [], ◌∷◌, ◌++◌, length, get_or, Option, Some, None, Result, IfOk, refl, ap, sym, ◌∙◌, subst}
use Rattle.std.specs.List.{All}
use Rattle.std.proofs.lemmas.Bool.{or_parts}
use Rattle.std.proofs.lemmas.List.Elements.{All-nil, All-cons, All-head, All-tail, All-append}
use Rattle.std.proofs.lemmas.Result.{IfOk-weaker}
use Rattle.vx_geom.specs.declared.extent.Extent.{Extent}
use Rattle.vx_geom.specs.Extent.{overlap, meets}
use Rattle.vx_index.specs.Lands.{joined}
use Rattle.vx_index.specs.Patches.{square}
use Rattle.vx_index.specs.Plots.{LiesAlong}
use Rattle.vx_index.specs.Touching.{any_meets, any_shares_row, share_row, touches, touches_row}
use Rattle.vx_index.specs.declared.tile.Tile.{Tile}
use Rattle.vx_index.specs.declared.touched.Touched.{Touched}

-- tiles that begin at one distance from the north lie as far from it as each other
pub along_square : (columns : Extent) (tile : Tile) (a b north : ℕ) → columns ≡ square a north → tile.columns ≡ square b north → LiesAlong columns tile
along_square columns tile a b north are is = record {
  north = ap (λ (e : Extent). e.north) is ∙ sym (ap (λ (e : Extent). e.north) are);
  south = ap (λ (e : Extent). e.south) is ∙ sym (ap (λ (e : Extent). e.south) are);
}

-- and so does a tile of the same columns
pub along_still : (columns : Extent) (old new : Tile) → new.columns ≡ old.columns → LiesAlong columns old → LiesAlong columns new
along_still columns old new same along = record {
  north = ap (λ (e : Extent). e.north) same ∙ along.north;
  south = ap (λ (e : Extent). e.south) same ∙ along.south;
}

-- where one of two does not hold they don't both
second_fails : (a b : Bool) → b ≡ false → (a && b) ≡ false
second_fails true b fails = fails
second_fails false b fails = refl

none_holds : (a b : Bool) → a ≡ false → b ≡ false → (a || b) ≡ false
none_holds true b first second = first
none_holds false b first second = second

-- columns that share no distance from the north with a row don't meet its tiles
apart_along : (e columns : Extent) (tile : Tile) → LiesAlong columns tile → share_row e columns ≡ false → meets e tile.columns ≡ false
unfolding meets
apart_along e columns tile along apart = second_fails (overlap e.west e.east tile.columns.west tile.columns.east) (share_row e tile.columns)
    (ap (λ n. overlap e.north e.south n tile.columns.south) along.north ∙ ap (λ s. overlap e.north e.south columns.north s) along.south ∙ apart)

any_apart_along : (o : Option Extent) (columns : Extent) (tile : Tile) → LiesAlong columns tile → any_shares_row o columns ≡ false
    → any_meets o tile.columns ≡ false
any_apart_along None columns tile along apart = refl
any_apart_along (Some e) columns tile along apart = apart_along e columns tile along apart

-- so a change that touches no part of the row touches none of its tiles
pub untouched_along : (touched : Touched) (columns : Extent) (tile : Tile) → LiesAlong columns tile → touches_row touched columns ≡ false
    → touches touched tile.columns ≡ false
untouched_along touched columns tile along apart =
    let parts = or_parts (any_shares_row touched.before columns) (any_shares_row touched.after columns) apart in
    none_holds (any_meets touched.before tile.columns) (any_meets touched.after tile.columns)
    (any_apart_along touched.before columns tile along parts.0) (any_apart_along touched.after columns tile along parts.1)

-- what holds of all of two lists holds of each
all_parts : (P : Tile → Type 0) (xs ys : List Tile) → All P (xs ++ ys) → All P xs × All P ys
all_parts P [] ys all = (All-nil P, all)
all_parts P (x ∷ xs) ys all =
    let rest = all_parts P xs ys (All-tail P x (xs ++ ys) all) in
    (All-cons P x xs (All-head P x (xs ++ ys) all) rest.0, rest.1)

-- what holds of all tiles of a land holds of those of each row
pub rows_hold : (P : Tile → Type 0) (rows : List (List Tile)) → All P (joined rows) → All (λ (row : List Tile). All P row) rows
rows_hold P [] all = All-nil (λ (row : List Tile). All P row)
rows_hold P (row ∷ rows) all =
    let parts = all_parts P row (joined rows) all in
    All-cons (λ (r : List Tile). All P r) row rows parts.0 (rows_hold P rows parts.1)

-- so it holds of those of a row that is read
pub row_holds : (P : Tile → Type 0) (land : List Tile) (rows : List (List Tile)) (i : ℕ) (row : List Tile) → joined rows ≡ land → All P land
    → i < length rows → row ≡ get_or rows i row → All P row
row_holds P land rows i row is all below read =
    subst (λ (cs : List Tile). All P cs) (sym read) (rows_hold P rows (subst (λ (cs : List Tile). All P cs) (sym is) all) i row below)

-- and what holds of those of each row holds of all
land_holds : (P : Tile → Type 0) (rows : List (List Tile)) → All (λ (row : List Tile). All P row) rows → All P (joined rows)
land_holds P [] all = All-nil P
land_holds P (row ∷ rows) all =
    All-append P row (joined rows) (All-head (λ (r : List Tile). All P r) row rows all)
    (land_holds P rows (All-tail (λ (r : List Tile). All P r) row rows all))

-- so it does of a land that is made of these rows
pub made_holds : {E : Type 0} (P : Tile → Type 0) (rows : List (List Tile)) (given : Result (List Tile) E) → IfOk given (λ land. land ≡ joined rows)
    → All (λ (row : List Tile). All P row) rows → IfOk given (All P)
made_holds P rows given made all =
    IfOk-weaker given (λ land. land ≡ joined rows) (All P) (λ land is. subst (λ (cs : List Tile). All P cs) (sym is) (land_holds P rows all)) made
