-- Levels: how far a place is from a fed one, along links. The places are of any type.
use Rattle.std.specs.Prelude.{◌≡◌, ℕ, zero, suc, ◌+◌, ◌-◌, ◌<◌, ◌≤◌, ◌↔◌, ◌⊎◌, Bool, true, ◌||◌, if◌then◌else◌, List, [], ◌∷◌, length}
use Rattle.std.specs.List.{list_any}

-- a walk of at most so many links leads from the place to a fed one
unfoldable pub within : {X : Type 0} → (X → Bool) → (X → List X) → ℕ → X → Bool
within fed links zero p = fed p
within fed links (suc n) p = within fed links n p || list_any (within fed links n) (links p)

-- the level as far as walks of so many links tell: 15 less the length of the shortest, or 0
unfoldable pub level_by : {X : Type 0} → (X → Bool) → (X → List X) → ℕ → X → ℕ
level_by fed links zero p = if fed p then 15 else 0
level_by fed links (suc n) p =
    if within fed links n p
    then level_by fed links n p
    else if within fed links (suc n) p then 14 - n else 0

-- the level: 15 at a fed place, one less with each link, and 0 from the fifteenth link on
unfoldable pub level_of : {X : Type 0} → (X → Bool) → (X → List X) → X → ℕ
level_of fed links p = level_by fed links 14 p

-- an element of the list
abbrev pub IsAmong : {X : Type 0} → List X → X → Type 0
IsAmong [] x = ⊥
IsAmong (y ∷ ys) x = (y ≡ x) ⊎ IsAmong ys x

-- from p along these places, each linked to the next, to a fed one
abbrev pub IsWalk : {X : Type 0} → (X → Bool) → (X → List X) → X → List X → Type 0
IsWalk fed links p [] = fed p ≡ true
IsWalk fed links p (q ∷ qs) = IsAmong (links p) q × IsWalk fed links q qs

-- there is such a walk of at most d links
abbrev pub HasWalk : {X : Type 0} → (X → Bool) → (X → List X) → X → ℕ → Type 0
HasWalk {X = X} fed links p d = (qs : List X) × (length qs ≤ d) × IsWalk fed links p qs

-- v is the level of p: 15 less the length of the shortest walk to a fed place, where that is less
-- than 15; else 0
pub record IsLevel {X : Type 0} (fed : X → Bool) (links : X → List X) (p : X) (v : ℕ) : Type 0 where
  pub most : v ≤ 15
  pub walks : (d : ℕ) → d < 15 → (15 ≤ v + d) ↔ HasWalk fed links p d
