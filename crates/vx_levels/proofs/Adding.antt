-- The levels and links of a map, added position by position.
use Rattle.std.proofs.Common.{◌≡◌, ℕ, ◌%◌, inl, inr, true, false, ◌||◌, if◌then◌else◌, List, [], ◌∷◌, ◌++◌, get_or, None, zero, suc, refl, sym, ap, ◌∙◌}
use Rattle.std.proofs.lemmas.Bool.{cases_Bool, false≢true, or_cases}
use Rattle.vx_geom.specs.declared.pos.Pos.{Pos}
use Rattle.vx_block.specs.declared.cell.Cell.{Cell}
use Rattle.vx_block.specs.Components.{is_dust}
use Rattle.vx_levels.specs.Linked.{level_at, links_at, linked}
use Rattle.vx_levels.specs.Pending.{IsPut}
use Rattle.vx_levels.specs.Repairs.{IsRight, IsRightAt}
use Rattle.vx_power.specs.Dust.{links}
use Rattle.vx_power.specs.Laws.{dust_level}
use Rattle.vx_power.specs.Levels.{LevelTable, has, sheet_of, level_in, level_of, same_place}
use Rattle.vx_power.proofs.Having.{place_is, has_joined}

-- the position added last, or one of those before
pub last_or : (done : List Pos) (p q : Pos) → has (done ++ p ∷ []) q ≡ true → same_place q p ≡ false → has done q ≡ true
last_or done p q there off = elim (or_cases (has done q) (same_place q p || false) (sym (has_joined done (p ∷ []) q) ∙ there)) [
  | inl before ↦ before
  | inr last ↦ absurd (false≢true (sym (ap (λ b. b || false) off) ∙ last))
]

-- what is no dust needs nothing
pub bare_added : (w : Pos → Cell) (table : LevelTable) (done : List Pos) (p : Pos) → is_dust (w p) ≡ false
    → IsRightAt w table done → IsRightAt w table (done ++ p ∷ [])
bare_added w table done p bare right = record {
  exact = λ q dust there. right.exact q dust (last_or done p q there (off q dust));
  linked = λ q there dust. right.linked q (last_or done p q there (off q dust)) dust;
  empty = right.empty;
}
  where
    off : (q : Pos) → is_dust (w q) ≡ true → same_place q p ≡ false
    off q dust = elim (cases_Bool (same_place q p)) [
      | inl same ↦ absurd (false≢true (sym bare ∙ sym (ap (λ r. is_dust (w r)) (place_is q p same)) ∙ dust))
      | inr apart ↦ apart
    ]

-- dust got its links, and then its level
pub dust_added : (w : Pos → Cell) (old middle new : LevelTable) (done : List Pos) (p : Pos) (bits level : ℕ) → is_dust (w p) ≡ true
    → ((q : Pos) → links_at middle q ≡ (if same_place q p then bits else links_at old q)) → ((q : Pos) → level_at middle q ≡ level_at old q)
    → IsPut (level_at middle) (level_at new) p level → ((q : Pos) → links_at new q ≡ links_at middle q)
    → linked bits p ≡ links w p → level ≡ dust_level w p
    → IsRightAt w old done → IsRightAt w new (done ++ p ∷ [])
dust_added w old middle new done p bits level lies relinked level_stays put links_stay knows exact right = record {
  exact = λ q dust there. elim (cases_Bool (same_place q p)) [
    | inl same ↦
        put q ∙ ap (λ b. if b then level else level_at middle q) same
        ∙ exact ∙ sym (ap (dust_level w) (place_is q p same))
    | inr off ↦ kept q off ∙ right.exact q dust (last_or done p q there off)
  ];
  linked = λ q there dust. elim (cases_Bool (same_place q p)) [
    | inl same ↦
        ap (λ n. linked n q) (links_stay q ∙ relinked q ∙ ap (λ b. if b then bits else links_at old q) same)
        ∙ ap (linked bits) (place_is q p same) ∙ knows ∙ sym (ap (links w) (place_is q p same))
    | inr off ↦
        ap (λ n. linked n q) (links_stay q ∙ relinked q ∙ ap (λ b. if b then bits else links_at old q) off)
        ∙ right.linked q (last_or done p q there off) dust
  ];
  empty = λ q bare. elim (cases_Bool (same_place q p)) [
    | inl same ↦ absurd (false≢true (sym bare ∙ ap (λ r. is_dust (w r)) (place_is q p same) ∙ lies))
    | inr off ↦ kept q off ∙ right.empty q bare
  ];
}
  where
    kept : (q : Pos) → same_place q p ≡ false → level_at new q ≡ level_at old q
    kept q off = put q ∙ ap (λ b. if b then level else level_at middle q) off ∙ level_stays q

-- a table without sheets
abbrev no_sheets : LevelTable
no_sheets = []

-- without any position nothing is there
pub begun_at_none : (w : Pos → Cell) → IsRightAt w [] []
begun_at_none w = record {
  exact = λ p dust there. absurd (false≢true there);
  linked = λ p there dust. absurd (false≢true there);
  empty = λ p bare. ap (λ n. n % 16) (nothing_in p);
}
  where
    no_sheet : (k : ℕ) → get_or no_sheets k None ≡ None
    no_sheet zero = refl
    no_sheet (suc k) = refl

    nothing_in : (p : Pos) → level_in [] p ≡ 0
    nothing_in p = ap (λ sheet. level_of sheet p) (no_sheet (sheet_of p))

-- and with all positions of dust all is right
pub all_added : (w : Pos → Cell) (table : LevelTable) (places : List Pos) → ((p : Pos) → is_dust (w p) ≡ true → has places p ≡ true)
    → IsRightAt w table places → IsRight w table
all_added w table places all right = record {
  exact = λ p dust. right.exact p dust (all p dust);
  linked = λ p dust. right.linked p (all p dust) dust;
  empty = right.empty;
}
