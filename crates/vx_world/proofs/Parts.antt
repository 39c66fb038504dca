-- Which sectors are known to be parts of a world.
use Rattle.std.proofs.Common.{◌≡◌, ℕ, Bool, true, List, [], ◌∷◌, ◌++◌, length, replicate, take, refl, ap, ◌∙◌}
use Rattle.std.specs.List.{All}
use Rattle.std.proofs.lemmas.List.Elements.{All-head, All-tail}
use Rattle.vx_sector.specs.SectorData.{SectorData}
use Rattle.vx_keeper.specs.Marks.{WorldData, IsPartOf, AreParts}

-- with one more
pub one_more : (world : WorldData) (said : List Bool) (sectors : List SectorData) (is_part : Bool)
    (s : SectorData) → AreParts world said sectors → (is_part ≡ true → IsPartOf world s)
    → AreParts world (said ++ is_part ∷ []) (sectors ++ s ∷ [])
one_more world [] [] is_part s are part = (part, tt)
one_more world (b ∷ said) (t ∷ sectors) is_part s are part =
    (are.0, one_more world said sectors is_part s are.1 part)
one_more world [] (t ∷ sectors) is_part s are part = absurd are
one_more world (b ∷ said) [] is_part s are part = absurd are

-- the last of them
pub last_is : (world : WorldData) (said : List Bool) (sectors : List SectorData) (is_part : Bool)
    (s : SectorData) → AreParts world (said ++ is_part ∷ []) (sectors ++ s ∷ [])
    → AreParts world said sectors × (is_part ≡ true → IsPartOf world s)
last_is world [] [] is_part s are = (tt, are.0)
last_is world (b ∷ said) (t ∷ sectors) is_part s are =
    let rest = last_is world said sectors is_part s are.1 in ((are.0, rest.0), rest.1)
last_is world [] (t ∷ []) is_part s are = absurd are.1
last_is world [] (t ∷ u ∷ sectors) is_part s are = absurd are.1
last_is world (b ∷ []) [] is_part s are = absurd are.1
last_is world (b ∷ c ∷ said) [] is_part s are = absurd are.1

said : (world : WorldData) (sectors : List SectorData) → All (IsPartOf world) sectors
    → AreParts world (replicate (length sectors) true) sectors
said world [] all = tt
said world (s ∷ sectors) all = (
  λ here. All-head (IsPartOf world) s sectors all,
  said world sectors (All-tail (IsPartOf world) s sectors all),
)

-- where all are parts, it may be said of each
pub said_of_all : (world : WorldData) (n : ℕ) (sectors : List SectorData) → n ≡ length sectors
    → All (IsPartOf world) sectors → AreParts world (replicate n true) sectors
said_of_all world n sectors same all =
    rw same (said world sectors all)

all_of : {X : Type 0} (xs ys : List X) → take (length xs) (xs ++ ys) ≡ xs
all_of [] ys = refl
all_of (x ∷ xs) ys = ap (λ rest. x ∷ rest) (all_of xs ys)

-- a list before others, taken from them
pub whole : {X : Type 0} (n : ℕ) (xs ys : List X) → n ≡ length xs → take n (xs ++ ys) ≡ xs
whole n xs ys is = ap (λ m. take m (xs ++ ys)) is ∙ all_of xs ys
