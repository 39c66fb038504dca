-- Turns of loops that take a list from its front, and of those over the numbers of sectors.
use Rattle.std.proofs.Common.{◌≡◌, ℕ, ◌+◌, ◌<◌, ◌≤◌, Bool, true, false, if◌then◌else◌, List, [], ◌∷◌, ◌++◌, length, map, take, drop, get_or, refl, sym, ap, ◌∙◌, append_assoc, add-one, drop-cons, arith}
use Rattle.std.specs.List.{flat_map}
use Rattle.std.proofs.lemmas.List.{append-nil, map-append, take_more}
use Rattle.std.proofs.lemmas.List.Concat.{flat_map-cons}
use Rattle.std.proofs.lemmas.Grind.{flat_map-append}
use Rattle.vx_geom.specs.declared.pos.Pos.{Pos}
use Rattle.vx_geom.specs.Sizes.{Sizes, sector_count}
use Rattle.vx_block.specs.declared.cell.Cell.{Cell}
use Rattle.vx_cells.specs.Maps.{MapData}
use Rattle.vx_piston.specs.Moves.{Moving}
use Rattle.vx_tick.specs.declared.fate.Fate.{Fate}
use Rattle.vx_tick.specs.Leaving.{shown_changes, hidden_changes}
use Rattle.vx_tick.specs.Pieces.{changed_in, restless_in, restless_up_to}
use Rattle.vx_tick.specs.Ticks.{changed_up_to, effects_by, put_down}

-- what stands at an index is the first of what is left from there on
pub left_at : {X : Type 0} (xs : List X) (i : ℕ) (d : X) → i < length xs → drop i xs ≡ get_or xs i d ∷ drop (i + 1) xs
left_at xs i d within = rw add-one (drop-cons xs i d within)

pub next_left : {X : Type 0} (xs : List X) (i : ℕ) (x : X) → i < length xs → x ≡ get_or xs i x → drop i xs ≡ x ∷ drop (i + 1) xs
next_left xs i x within is = left_at xs i x within ∙ ap (λ y. y ∷ drop (i + 1) xs) (sym is)

-- what is done and what is left to do stay all as the next of what is left is done
pub carried : {X : Type 0} (done new here rest left all : List X) → new ≡ done ++ here → left ≡ here ++ rest → done ++ left ≡ all → new ++ rest ≡ all
carried done new here rest left all added first so_far =
    ap (λ l. l ++ rest) added ∙ append_assoc done here rest ∙ ap (λ l. done ++ l) (sym first) ∙ so_far

-- where nothing is left all is done
pub ended : {X : Type 0} (done left all : List X) → left ≡ [] → done ++ left ≡ all → done ≡ all
ended done left all nothing so_far = sym (append-nil done) ∙ ap (λ l. done ++ l) (sym nothing) ∙ so_far

-- what a move with its fate puts down, before what those behind it do
pub put_first : (w : Pos → Cell) (moves : List Moving) (fates : List (Pos × Fate)) (i : ℕ) (m : Moving) (d : Pos × Fate)
    → i < length moves → length fates ≡ length moves
    → m ≡ get_or moves i m
    → put_down w (drop i moves) (drop i fates) ≡ effects_by w m (get_or fates i d).1 ++ put_down w (drop (i + 1) moves) (drop (i + 1) fates)
put_first w moves fates i m d within each is =
    let there : i < length fates = omega (arith, within, each) in
    λ j. put_down w (next_left moves i m within is j) (left_at fates i d there j)

kept : (b : Bool) (p : Pos) (rest : List Pos) → (if b then p ∷ rest else rest) ≡ (if b then p ∷ [] else []) ++ rest
kept true p rest = refl
kept false p rest = refl

passed : (b : Bool) (p : Pos) (rest : List Pos) → (if b then rest else p ∷ rest) ≡ (if b then [] else p ∷ []) ++ rest
passed true p rest = refl
passed false p rest = refl

-- what shows, and what shows the same, of one change before others
pub shown_first : (w : Pos → Cell) (put : Pos × Cell) (puts : List (Pos × Cell))
    → shown_changes w (put ∷ puts) ≡ shown_changes w (put ∷ []) ++ shown_changes w puts
shown_first w put puts = passed _ put.0 (shown_changes w puts)

pub hidden_first : (w : Pos → Cell) (put : Pos × Cell) (puts : List (Pos × Cell))
    → hidden_changes w (put ∷ puts) ≡ hidden_changes w (put ∷ []) ++ hidden_changes w puts
hidden_first w put puts = kept _ put.0 (hidden_changes w puts)

-- one sector more
pub changed_more : (m : MapData) (n : ℕ) → changed_up_to m (n + 1) ≡ changed_up_to m n ++ changed_in m n
changed_more m n = rw add-one refl

pub restless_more : (m : MapData) (n : ℕ) → restless_up_to m (n + 1) ≡ restless_up_to m n ++ restless_in m n
restless_more m n = rw add-one refl

-- all sectors
pub all_numbers : (n last : ℕ) (bounds sizes : Sizes) → last ≤ n → n ≤ last → last ≡ sector_count bounds → bounds ≡ sizes → n ≡ sector_count sizes
all_numbers n last bounds sizes past within count same =
    let is : n ≡ last = omega (arith, past, within) in is ∙ count ∙ ap sector_count same

-- one more of a list is told in the same way
pub mapped_more : {X Y : Type 0} (f : X → Y) (xs : List X) (i : ℕ) (x : X) (done new : List Y) (y : Y)
    → new ≡ done ++ y ∷ [] → y ≡ f x → i < length xs → x ≡ get_or xs i x → done ≡ map f (take i xs) → new ≡ map f (take (i + 1) xs)
mapped_more f xs i x done new y added told within is so_far =
    let taken = take_more xs i x within ∙ ap (λ last. take i xs ++ (last ∷ [])) (sym is) in
    added ∙ (λ j. so_far j ++ (told j ∷ [])) ∙ sym (map-append f (take i xs) (x ∷ [])) ∙ ap (map f) (sym taken)

-- and of a list that is handed over
pub mapped_on : {X Y : Type 0} (f : X → Y) (xs : List X) (x : X) (done new : List Y) → new ≡ done ++ f x ∷ [] → done ≡ map f xs → new ≡ map f (xs ++ (x ∷ []))
mapped_on f xs x done new added so_far = added ∙ (λ j. so_far j ++ (f x ∷ [])) ∙ sym (map-append f xs (x ∷ []))

-- and what one more brings
pub brought_on : {X Y : Type 0} (f : X → List Y) (xs : List X) (x : X) (done new : List Y) → new ≡ done ++ f x → done ≡ flat_map f xs → new
    ≡ flat_map f (xs ++ (x ∷ []))
brought_on f xs x done new added so_far =
    let one : flat_map f (x ∷ []) ≡ f x = flat_map-cons f x [] ∙ append-nil (f x) in
    added ∙ (λ j. so_far j ++ f x) ∙ sym (flat_map-append f xs (x ∷ []) ∙ ap (λ l. flat_map f xs ++ l) one)
