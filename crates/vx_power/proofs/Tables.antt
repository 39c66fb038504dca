-- Tables of levels: which position has which, after one of them got another.
use Rattle.std.proofs.Common.{◌≡◌, ℕ, ◌<◌, ◌≤◌, ◌/◌, ◌%◌, pos, unsigned_abs, Bool, true, false, ◌&&◌, if◌then◌else◌, List, [], ◌∷◌, ◌++◌, length, get_or, set, zero, suc, Option, Some, None, inl, inr, refl, sym, ap, subst, ◌∙◌, arith}
use Rattle.std.proofs.lemmas.Bool.{cases_Bool, cases_eq, and_parts, true≢false}
use Rattle.std.proofs.lemmas.List.{get_or-set_same, get_or-set_other, length-set}
use Rattle.std.proofs.lemmas.Nat.{mod_below}
use Rattle.vx_geom.specs.declared.bounds.TheConstants.{MAX_COLUMNS_EACH_WAY, HIGH_HEIGHT}
use Rattle.vx_geom.specs.declared.pos.Pos.{Pos}
use Rattle.vx_geom.specs.Sizes.{is_below}
use Rattle.vx_geom.proofs.Divisions.{number_below, same_number, same_from_part}
use Rattle.vx_geom.proofs.Positions.{same_pos}
use Rattle.vx_geom.proofs.SectorLemmas.{below_at}
use Rattle.vx_power.specs.declared.sheet.TheConstants.{SHEET_SIDE, SHEETS_EACH_WAY}
use Rattle.vx_power.specs.Levels.{LevelTable, IsSheet, same_place, is_place, sheet_of, column, columns, level_of, level_in}
use Rattle.vx_power.proofs.Having.{place_is, own_place}

-- the coordinates of a place of the widest world, and how far from the west and from the north its
-- sheet is
record AtPlace (p : Pos) : Type 0 where
  x_is : p.x ≡ pos (unsigned_abs p.x)
  y_is : p.y ≡ pos (unsigned_abs p.y)
  z_is : p.z ≡ pos (unsigned_abs p.z)
  in_row : unsigned_abs p.x / SHEET_SIDE < SHEETS_EACH_WAY
  in_column : unsigned_abs p.z / SHEET_SIDE < SHEETS_EACH_WAY

in_sheets : (n : ℕ) → n < MAX_COLUMNS_EACH_WAY → n / SHEET_SIDE < SHEETS_EACH_WAY
in_sheets n below = omega (arith, below)

at_place : (p : Pos) → is_place p ≡ true → AtPlace p
at_place p place =
    let parts = and_parts (is_below p.x MAX_COLUMNS_EACH_WAY) (is_below p.y HIGH_HEIGHT && is_below p.z MAX_COLUMNS_EACH_WAY) place in
    let rest = and_parts (is_below p.y HIGH_HEIGHT) (is_below p.z MAX_COLUMNS_EACH_WAY) parts.1 in
    let x = below_at p.x MAX_COLUMNS_EACH_WAY parts.0 in
    let y = below_at p.y HIGH_HEIGHT rest.0 in
    let z = below_at p.z MAX_COLUMNS_EACH_WAY rest.1 in
    record { x_is = x.0; y_is = y.0; z_is = z.0; in_row = in_sheets _ x.1; in_column = in_sheets _ z.1 }

in_side : (n : ℕ) → n % SHEET_SIDE < SHEET_SIDE
in_side n = mod_below n SHEET_SIDE (omega arith)

-- a column has its byte in a sheet
pub column_below : (p : Pos) → column p < columns
column_below p =
    number_below SHEET_SIDE SHEET_SIDE (unsigned_abs p.x % SHEET_SIDE) (unsigned_abs p.z % SHEET_SIDE)
    (in_side (unsigned_abs p.x)) (in_side (unsigned_abs p.z))

-- two places of one sheet with one column are one
same_column : (p q : Pos) → is_place p ≡ true → is_place q ≡ true
    → sheet_of q ≡ sheet_of p → column q ≡ column p → q ≡ p
same_column p q place other sheet same =
    let a = at_place p place in
    let b = at_place q other in
    let px = unsigned_abs p.x in
    let pz = unsigned_abs p.z in
    let qx = unsigned_abs q.x in
    let qz = unsigned_abs q.z in
    let columns = same_number SHEET_SIDE (qx % SHEET_SIDE) (qz % SHEET_SIDE) (px % SHEET_SIDE) (pz % SHEET_SIDE)
    (in_side qx) (in_side px) same in
    let sheets = same_number SHEETS_EACH_WAY (qx / SHEET_SIDE) _ (px / SHEET_SIDE) _ b.in_row a.in_row sheet in
    let rows = same_number SHEETS_EACH_WAY (qz / SHEET_SIDE) (unsigned_abs q.y) (pz / SHEET_SIDE) (unsigned_abs p.y)
    b.in_column a.in_column sheets.1 in
    let x = same_from_part SHEET_SIDE qx px sheets.0 columns.0 in
    let z = same_from_part SHEET_SIDE qz pz rows.0 columns.1 in
    same_pos q p (b.y_is ∙ ap pos rows.1 ∙ sym a.y_is) (b.z_is ∙ ap pos z ∙ sym a.z_is)
    (b.x_is ∙ ap pos x ∙ sym a.x_is)

-- a sheet of zeros has no levels
pub no_level : (sheet : List ℕ) → ((i : ℕ) → get_or sheet i 0 ≡ 0) → (p : Pos) → level_of (Some sheet) p ≡ 0
no_level sheet zeros p = by (is_place p)
  where
    by : (b : Bool) → (if b then get_or sheet (column p) 0 else 0) ≡ 0
    by true = zeros (column p)
    by false = refl

-- one position of a sheet has another level, and all others have what they had
module _ (sheet : List ℕ) (p : Pos) (level : ℕ) (place : is_place p ≡ true) (whole : length sheet ≡ columns) where
  near : column p < length sheet
  near = omega (arith, whole, column_below p)

  abbrev new : List ℕ
  new = set sheet (column p) level

  pub sheet_put : (q : Pos) → sheet_of q ≡ sheet_of p → level_of (Some new) q
      ≡ (if same_place q p then level else level_of (Some sheet) q)
  sheet_put q here = elim (cases_Bool (same_place q p)) [
    | inl same ↦
        let one = place_is q p same in
        ap (λ r. level_of (Some new) r) one
        ∙ ap (λ b. if b then get_or new (column p) 0 else 0) place
        ∙ get_or-set_same sheet (column p) level 0 near
        ∙ sym (ap (λ b. if b then level else level_of (Some sheet) q) same)
    | inr apart ↦
        elim (cases_Bool (is_place q)) [
          | inl other ↦
              let differ : column q ≡ column p → ⊥ = λ same.
              let one = same_column p q place other here same in
              true≢false (sym (own_place p) ∙ ap (λ r. same_place r p) (sym one) ∙ apart) in
              ap (λ b. if b then get_or new (column q) 0 else 0) other
              ∙ get_or-set_other sheet (column p) (column q) level 0 differ
              ∙ sym (ap (λ b. if b then get_or sheet (column q) 0 else 0) other)
              ∙ sym (ap (λ b. if b then level else level_of (Some sheet) q) apart)
          | inr outside ↦
              ap (λ b. if b then get_or new (column q) 0 else 0) outside
              ∙ sym (ap (λ b. if b then get_or sheet (column q) 0 else 0) outside)
              ∙ sym (ap (λ b. if b then level else level_of (Some sheet) q) apart)
        ]
  ]

  pub sheet_is : IsSheet sheet → level ≤ 15 → IsSheet new
  sheet_is is most = record {
    whole = length-set sheet (column p) level ∙ whole;
    most = λ i. elim (cases_eq i (column p)) [
      | inl same ↦
          subst (λ v. v ≤ 15) (sym (ap (λ j. get_or new j 0) same ∙ get_or-set_same sheet (column p) level 0 near)) most
      | inr other ↦ subst (λ v. v ≤ 15) (sym (get_or-set_other sheet (column p) i level 0 other)) (is.most i)
    ];
  }

-- one entry of a table is another sheet
module _ (table : LevelTable) (p : Pos) (level : ℕ) (new : Option (List ℕ))
    (there : sheet_of p < length table)
    (changed : (q : Pos) → sheet_of q ≡ sheet_of p → level_of new q
    ≡ (if same_place q p then level else level_of (get_or table (sheet_of p) None) q)) where
  pub table_put : (q : Pos) → level_in (set table (sheet_of p) new) q
      ≡ (if same_place q p then level else level_in table q)
  table_put q = elim (cases_eq (sheet_of q) (sheet_of p)) [
    | inl same ↦
        ap (λ y. level_of (get_or (set table (sheet_of p) new) y None) q) same
        ∙ ap (λ sheet. level_of sheet q) (get_or-set_same table (sheet_of p) new None there)
        ∙ changed q same
        ∙ ap (λ y. if same_place q p then level else level_of (get_or table y None) q) (sym same)
    | inr other ↦
        let differ : same_place q p ≡ false = elim (cases_Bool (same_place q p)) [
          | inl same ↦ absurd (other (ap sheet_of (place_is q p same)))
          | inr apart ↦ apart
        ] in
        ap (λ sheet. level_of sheet q) (get_or-set_other table (sheet_of p) (sheet_of q) new None other)
        ∙ sym (ap (λ b. if b then level else level_in table q) differ)
  ]

-- an entry more without a sheet
none_more : (table : LevelTable) (k : ℕ) → get_or (table ++ None ∷ []) k None ≡ get_or table k None
none_more [] zero = refl
none_more [] (suc k) = refl
none_more (sheet ∷ table) zero = refl
none_more (sheet ∷ table) (suc k) = none_more table k

pub level_still : (table : LevelTable) (p : Pos) → level_in (table ++ None ∷ []) p ≡ level_in table p
level_still table p = ap (λ sheet. level_of sheet p) (none_more table (sheet_of p))
