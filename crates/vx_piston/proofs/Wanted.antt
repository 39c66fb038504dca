-- What a table of claims has for each cell, one claim after another.
use Rattle.std.proofs.Common.{◌≡◌, ℕ, ◌+◌, ◌<◌, Bool, true, false, ◌||◌, if◌then◌else◌, List, [], ◌∷◌, ◌++◌, take, length, get_or, Option, None, Some, inl, inr, refl, sym, ap, ◌∙◌, subst}
use Rattle.std.specs.Map.{lookup}
use Rattle.std.specs.Option.{is_some}
use Rattle.std.proofs.lemmas.Bool.{cases_Bool, false≢true, true≢false}
use Rattle.std.proofs.lemmas.List.{take_more}
use Rattle.std.proofs.lemmas.List.Folds.{list_any_more}
use Rattle.vx_geom.specs.declared.pos.Pos.{Pos}
use Rattle.vx_geom.specs.Order.{comes_before}
use Rattle.vx_power.specs.Levels.{has, same_place}
use Rattle.vx_power.proofs.Having.{place_is, same_place_back}
use Rattle.vx_piston.specs.Claims.{first_of, before, claimant, IsTable}
use Rattle.vx_piston.specs.Moves.{Moving}
use Rattle.vx_piston.proofs.Firsts.{other_first, own_first, first_swapped, first_again}

-- the first piston that a table has for a cell
abbrev pub first_in : List (Pos × Pos) → Pos → Option Pos
first_in table p = lookup (same_place p) table

-- what one piston's claim leaves of the first: itself, where it wants the cell and comes before
abbrev pub claimed : Bool → Pos → Option Pos → Option Pos
claimed wants by first = if wants then first_of by first else first

-- a table after claims of one piston to the cells that it wants
abbrev pub Claimed : (Pos → Bool) → Pos → List (Pos × Pos) → List (Pos × Pos) → Type 0
Claimed wants by old new = (q : Pos) → first_in new q ≡ claimed (wants q) by (first_in old q)

-- two claims of one piston
claimed_twice : (x y : Bool) (by : Pos) (o : Option Pos)
    → claimed y by (claimed x by o) ≡ claimed (x || y) by o
claimed_twice true true by o = first_again by o
claimed_twice true false by o = refl
claimed_twice false y by o = refl

-- claims of two pistons in either order
claimed_swapped : (x y : Bool) (a b : Pos) (o : Option Pos)
    → claimed x a (claimed y b o) ≡ claimed y b (claimed x a o)
claimed_swapped true true a b o = first_swapped a b o
claimed_swapped true false a b o = refl
claimed_swapped false y a b o = refl

-- one cell more of a list
pub claimed_more : (cells : List Pos) (i : ℕ) (by p : Pos) (old mid new : List (Pos × Pos))
    → i < length cells → Claimed (has (take i cells)) by old mid
    → Claimed (λ q. same_place q (get_or cells i p)) by mid new
    → Claimed (has (take (i + 1) cells)) by old new
claimed_more cells i by p old mid new inside known now q =
    let here = same_place q (get_or cells i p) in
    now q
    ∙ ap (claimed here by) (known q)
    ∙ claimed_twice (has (take i cells) q) here by (first_in old q)
    ∙ ap (λ b. claimed b by (first_in old q)) (sym (list_any_more (same_place q) cells i p inside))

-- one that comes before stays the first
stays : (by : Pos) (o : Option Pos) → is_some (before by o) ≡ true → first_of by o ≡ o
stays by None is = absurd (false≢true is)
stays by (Some q) is = elim (cases_Bool (comes_before q by)) [
  | inl less ↦ other_first by q less
  | inr no_less ↦
      absurd (false≢true (sym (ap (λ b. is_some (if b then Some q else None)) no_less) ∙ is))
]

-- and one that does not, no more
yields : (by : Pos) (o : Option Pos) → is_some (before by o) ≡ false → first_of by o ≡ Some by
yields by None is = refl
yields by (Some q) is = elim (cases_Bool (comes_before q by)) [
  | inl less ↦
      absurd (true≢false (sym (ap (λ b. is_some (if b then Some q else None)) less) ∙ is))
  | inr no_less ↦ own_first by q no_less
]

-- what a test says of a cell holds of the same cell by another name
test_at : (test : Option Pos → Bool) (b : Bool) (table : List (Pos × Pos)) (p q : Pos)
    → same_place q p ≡ true → test (first_in table p) ≡ b → test (first_in table q) ≡ b
test_at test b table p q same is = subst (λ r. test (first_in table r) ≡ b) (sym (place_is q p same)) is

-- a claim to a cell whose first piston comes before
pub claimed_late : (p by : Pos) (table : List (Pos × Pos)) → is_some (before by (first_in table p)) ≡ true
    → Claimed (λ q. same_place q p) by table table
claimed_late p by table late q = elim (cases_Bool (same_place q p)) [
  | inl same ↦
      let here = test_at (λ o. is_some (before by o)) true table p q same late in
      sym (ap (λ b. claimed b by (first_in table q)) same ∙ stays by (first_in table q) here)
  | inr apart ↦ sym (ap (λ b. claimed b by (first_in table q)) apart)
]

-- a claim to a cell where no piston comes before, which the table then has
pub claimed_first : (p by : Pos) (old new : List (Pos × Pos)) → is_some (before by (first_in old p)) ≡ false
    → ((q : Pos) → first_in new q ≡ (if same_place p q then Some by else first_in old q))
    → Claimed (λ q. same_place q p) by old new
claimed_first p by old new first changed q = elim (cases_Bool (same_place q p)) [
  | inl same ↦
      let here = test_at (λ o. is_some (before by o)) false old p q same first in
      changed q
      ∙ ap (λ b. if b then Some by else first_in old q) (same_place_back p q ∙ same)
      ∙ sym (ap (λ b. claimed b by (first_in old q)) same ∙ yields by (first_in old q) here)
  | inr apart ↦
      changed q
      ∙ ap (λ b. if b then Some by else first_in old q) (same_place_back p q ∙ apart)
      ∙ sym (ap (λ b. claimed b by (first_in old q)) apart)
]

-- the claimant of a cell with one claim more
claimant_last : (claims : List Moving) (m : Moving) (p : Pos)
    → claimant (claims ++ (m ∷ [])) p ≡ claimed (has m.cells p) m.at (claimant claims p)
claimant_last [] m p = refl
claimant_last (claim ∷ claims) m p =
    ap (claimed (has claim.cells p) claim.at) (claimant_last claims m p)
    ∙ claimed_swapped (has claim.cells p) (has m.cells p) claim.at m.at (claimant claims p)

-- the table with one claim more behind the others
pub table_with_last : (claims : List Moving) (m : Moving) (old new : List (Pos × Pos))
    → IsTable claims old → Claimed (has m.cells) m.at old new → IsTable (claims ++ (m ∷ [])) new
table_with_last claims m old new known now p =
    now p ∙ ap (claimed (has m.cells p) m.at) (known p) ∙ sym (claimant_last claims m p)

-- and with one more of a list of them
pub table_more : (claims : List Moving) (i : ℕ) (m : Moving) (old new : List (Pos × Pos))
    → i < length claims → m ≡ get_or claims i m
    → IsTable (take i claims) old → Claimed (has m.cells) m.at old new → IsTable (take (i + 1) claims) new
table_more claims i m old new inside item known now p =
    table_with_last (take i claims) m old new known now p
    ∙ ap (λ last. claimant (take i claims ++ (last ∷ [])) p) item
    ∙ ap (λ all. claimant all p) (sym (take_more claims i m inside))
