-- Marks in pages of 4,096 indices.
use Rattle.std.specs.Prelude.{◌≡◌, ℕ, ◌*◌, ◌/◌, ◌%◌, ◌^◌, ◌<◌, false, List, length, Option, Some, None}
use Rattle.std.specs.List.{All, flat_map}
use Rattle.vx_marks.specs.Marks.{is_marked}
use Rattle.vx_marks.specs.declared.page.TheConstants.{PAGE}

-- the words of pages one after another
abbrev pub joined : {X : Type 0} → (X → List ℕ) → List X → List ℕ
joined words pages = flat_map words pages

-- each page has 64 words
abbrev pub AreWhole : {X : Type 0} → (X → List ℕ) → List X → Type 0
AreWhole words pages = All (λ page. length (words page) ≡ 64) pages

-- and there are fewer indices than a `u32` can number
pub record ArePages {X : Type 0} (words : X → List ℕ) (pages : List X) : Type 0 where
  pub few : PAGE * length pages < 2 ^ 32
  pub each : AreWhole words pages

-- a page of the marks of that number has the marks of its indices; where there is none, none of
-- these is marked
abbrev pub IsPage : List ℕ → ℕ → Option (List ℕ) → Type 0
IsPage words number None = (i : ℕ) → i / PAGE ≡ number → is_marked words i ≡ false
IsPage words number (Some page) =
    (i : ℕ) → i / PAGE ≡ number → is_marked words i ≡ is_marked page (i % PAGE)
