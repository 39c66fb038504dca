-- Levels and links in one word, and the bits of each side.
use Rattle.std.proofs.Common.{◌≡◌, ℕ, ◌+◌, ◌*◌, ◌/◌, ◌%◌, ◌<◌, inl, inr, Bool, true, false, if◌then◌else◌, [], ◌∷◌, ◌++◌, Option, Some, None, refl, sym, ap, ◌∙◌, arith}
use Rattle.std.specs.Option.{is_some, option_to_list}
use Rattle.std.proofs.lemmas.Bool.{cases_Bool}
use Rattle.vx_geom.specs.declared.pos.Pos.{Pos}
use Rattle.vx_block.specs.declared.side.Side.TheVariants.{East, West, South, North}
use Rattle.vx_levels.specs.Linked.{level_at, links_at, linked, linked_on}
use Rattle.vx_power.specs.Levels.{LevelTable, level_in, same_place}
use Rattle.vx_power.proofs.Having.{place_is}

-- a word of links and a level has both
pub word_links : (links level : ℕ) → level < 16 → (16 * links + level) / 16 ≡ links
word_links links level most = omega (arith, most)

pub word_level : (links level : ℕ) → level < 16 → (16 * links + level) % 16 ≡ level
word_level links level most = omega (arith, most)

module _ (old new : LevelTable) (p : Pos) (links level word : ℕ) (is : word ≡ 16 * links + level) (most : level < 16)
    (put : (q : Pos) → level_in new q ≡ (if same_place q p then word else level_in old q)) where
  -- with another level the links stay
  pub links_stay : links ≡ links_at old p → (q : Pos) → links_at new q ≡ links_at old q
  links_stay same q = elim (cases_Bool (same_place q p)) [
    | inl here ↦
        ap (λ n. n / 16) (put q ∙ ap (λ b. if b then word else level_in old q) here ∙ is)
        ∙ word_links links level most ∙ same ∙ ap (links_at old) (sym (place_is q p here))
    | inr off ↦ ap (λ n. n / 16) (put q ∙ ap (λ b. if b then word else level_in old q) off)
  ]

  -- and with other links the levels
  pub levels_stay : level ≡ level_at old p → (q : Pos) → level_at new q ≡ level_at old q
  levels_stay same q = elim (cases_Bool (same_place q p)) [
    | inl here ↦
        ap (λ n. n % 16) (put q ∙ ap (λ b. if b then word else level_in old q) here ∙ is)
        ∙ word_level links level most ∙ same ∙ ap (level_at old) (sym (place_is q p here))
    | inr off ↦ ap (λ n. n % 16) (put q ∙ ap (λ b. if b then word else level_in old q) off)
  ]

  -- the word has its level and its links where it was put
  pub level_put : (q : Pos) → level_at new q ≡ (if same_place q p then level else level_at old q)
  level_put q = elim (cases_Bool (same_place q p)) [
    | inl here ↦
        ap (λ n. n % 16) (put q ∙ ap (λ b. if b then word else level_in old q) here ∙ is)
        ∙ word_level links level most ∙ sym (ap (λ b. if b then level else level_at old q) here)
    | inr off ↦
        ap (λ n. n % 16) (put q ∙ ap (λ b. if b then word else level_in old q) off)
        ∙ sym (ap (λ b. if b then level else level_at old q) off)
  ]

  pub links_put : (q : Pos) → links_at new q ≡ (if same_place q p then links else links_at old q)
  links_put q = elim (cases_Bool (same_place q p)) [
    | inl here ↦
        ap (λ n. n / 16) (put q ∙ ap (λ b. if b then word else level_in old q) here ∙ is)
        ∙ word_links links level most ∙ sym (ap (λ b. if b then links else links_at old q) here)
    | inr off ↦
        ap (λ n. n / 16) (put q ∙ ap (λ b. if b then word else level_in old q) off)
        ∙ sym (ap (λ b. if b then links else links_at old q) off)
  ]

-- what stands at a place already changes nothing when it is put there
pub put_again : (f : Pos → ℕ) (p : Pos) (n : ℕ) → f p ≡ n → (q : Pos) → f q ≡ (if same_place q p then n else f q)
put_again f p n there q = elim (cases_Bool (same_place q p)) [
  | inl here ↦ ap f (place_is q p here) ∙ there ∙ sym (ap (λ b. if b then n else f q) here)
  | inr off ↦ sym (ap (λ b. if b then n else f q) off)
]

-- the links of four sides are those of each
pub linked_sides : (east west south north : ℕ) (p : Pos) → east < 8 → west < 8 → south < 8 → north < 8
    → linked (east + 8 * west + 64 * south + 512 * north) p
    ≡ linked_on east p East ++ (linked_on west p West ++ (linked_on south p South ++ linked_on north p North))
linked_sides east west south north p e w s n =
    let bits = east + 8 * west + 64 * south + 512 * north in
    let first : bits % 8 ≡ east = omega (arith, e, w, s, n) in
    let second : bits / 8 % 8 ≡ west = omega (arith, e, w, s, n) in
    let third : bits / 64 % 8 ≡ south = omega (arith, e, w, s, n) in
    let fourth : bits / 512 % 8 ≡ north = omega (arith, e, w, s, n) in
    λ i. linked_on (first i) p East ++ (linked_on (second i) p West ++ (linked_on (third i) p South ++ linked_on (fourth i) p North))

-- an option that lists one where a test passes is there where it does
pub some_if : (r : Option Pos) (b : Bool) (q : Pos) → option_to_list r ≡ (if b then q ∷ [] else []) → is_some r ≡ b
some_if (Some x) true q is = refl
some_if (Some x) false q is = cc
some_if None true q is = cc
some_if None false q is = refl
