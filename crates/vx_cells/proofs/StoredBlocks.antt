-- The blocks that bytes and slots stand for: read, changed, and equal.
use Rattle.std.proofs.Common.{◌≡◌, ◌≢◌, ℕ, suc, zero, ◌+◌, ◌<◌, List, [], ◌∷◌, length, replicate, get_or, set, Option, Some, None, unwrap_or, refl, ap, sym, subst, ◌∙◌, inl, inr, arith, true≢false}
use Rattle.std.proofs.lemmas.Bool.{cases_eq, cases_lt}
use Rattle.std.proofs.lemmas.List.{ext_get_or, get_or-set_same, get_or-set_other, get_or_past, length-set, length-replicate}
use Rattle.std.proofs.lemmas.List.Elements.{All-from_get_or, All-set, All-replicate}
use Rattle.std.proofs.lemmas.Grind.{same_number_lists}
use Rattle.std.proofs.lemmas.Map.{update_here, update_apart}
use Rattle.vx_block.specs.declared.cell.Cell.TheVariants.{Air}
use Rattle.vx_geom.specs.Sizes.{Sizes, sector_cells}
use Rattle.vx_marks.proofs.Marking.{zero_at}
use Rattle.vx_store.specs.Chests.{Slots, ChestData, slots_of_chest, Changes}
use Rattle.vx_store.specs.Codes.{code_count, cell_of}
use Rattle.vx_cells.specs.SectorCells.{Block, IsBlock, IsWhole, placed, only_air}
use Rattle.vx_cells.specs.Stored.{block_of, blocks_from, stored, IsBeside, IsStored}
use Rattle.vx_store.proofs.CodeLemmas.{same_code}

pub length-blocks : (index : ℕ) (codes : List ℕ) (chests : ChestData) → length (blocks_from index codes chests) ≡ length codes
length-blocks index [] chests = refl
length-blocks index (code ∷ codes) chests = ap suc (length-blocks (index + 1) codes chests)

-- what stands at an index
pub block-read : (index : ℕ) (codes : List ℕ) (chests : ChestData) (k : ℕ) (d : Block) → k < length codes
    → get_or (blocks_from index codes chests) k d ≡ block_of (get_or codes k 0) chests (index + k)
block-read index [] chests k d near = absurd (omega (arith, near))
block-read index (code ∷ codes) chests zero d near = let at : index ≡ index + 0 = omega arith in ap (λ n. block_of code chests n) at
block-read index (code ∷ codes) chests (suc k) d near =
    let at : index + 1 + k ≡ index + suc k = omega arith in
    block-read (index + 1) codes chests k d (omega (arith, near)) ∙ ap (λ n. block_of (get_or codes k 0) chests n) at

pub block-at : (codes : List ℕ) (chests : ChestData) (k : ℕ) (d : Block) → k < length codes → get_or (blocks_from 0 codes chests) k d ≡ block_of (get_or codes k 0) chests k
block-at codes chests k d near = let at : 0 + k ≡ k = omega arith in block-read 0 codes chests k d near ∙ ap (λ n. block_of (get_or codes k 0) chests n) at

-- a byte and the slots at its index change
pub blocks-set : (codes : List ℕ) (old new : ChestData) (k code : ℕ) → k < length codes → ((q : ℕ) → q ≢ k → slots_of_chest new q ≡ slots_of_chest old q)
    → blocks_from 0 (set codes k code) new ≡ set (blocks_from 0 codes old) k (block_of code new k)
blocks-set codes old new k code near others = ext_get_or (placed Air) _ _ long each
  where
    long : length (blocks_from 0 (set codes k code) new) ≡ length (set (blocks_from 0 codes old) k (block_of code new k))
    long = length-blocks 0 (set codes k code) new ∙ length-set codes k code ∙ sym (length-blocks 0 codes old) ∙ sym (length-set (blocks_from 0 codes old) k (block_of code new k))

    each : (i : ℕ) → i < length (blocks_from 0 (set codes k code) new) → get_or (blocks_from 0 (set codes k code) new) i (placed Air) ≡ get_or (set (blocks_from 0 codes old) k (block_of code new k)) i (placed Air)
    each i within = elim (cases_eq i k) [
      | inl same ↦ block-at (set codes k code) new i (placed Air) below_set ∙ rw same (ap (λ b. block_of b new k) (get_or-set_same codes k code 0 near)
          ∙ sym (get_or-set_same (blocks_from 0 codes old) k (block_of code new k) (placed Air) (omega (arith, near, length-blocks 0 codes old))))
      | inr other ↦ block-at (set codes k code) new i (placed Air) below_set ∙ ap (λ b. block_of b new i) (get_or-set_other codes k i code 0 other)
          ∙ ap (λ o. record { cell = cell_of (get_or codes i 0); slots = unwrap_or o [] }) (others i other)
          ∙ sym (block-at codes old i (placed Air) below) ∙ sym (get_or-set_other (blocks_from 0 codes old) k i (block_of code new k) (placed Air) other)
    ]
      where
        below_set : i < length (set codes k code)
        below_set = omega (arith, within, length-blocks 0 (set codes k code) new)

        below : i < length codes
        below = omega (arith, below_set, length-set codes k code)

block_is : (code : ℕ) (o : Option Slots) → IsBeside code o → IsBlock (record { cell = cell_of code; slots = unwrap_or o [] })
block_is code None beside = record { slots = rw beside refl; each = λ k d near. absurd (omega (arith, near)) }
block_is code (Some slots) beside = record { slots = rw beside.0 beside.1; each = beside.2 }

-- what is stored is whole
pub stored-whole : (bounds : Sizes) (sector : ℕ) (codes : List ℕ) (chests : ChestData) → IsStored bounds codes chests → IsWhole (stored bounds sector codes chests)
stored-whole bounds sector codes chests held = record {
  whole = length-blocks 0 codes chests ∙ held.whole;
  each = All-from_get_or IsBlock _ (placed Air) (λ i within.
      let below : i < length codes = omega (arith, within, length-blocks 0 codes chests) in
      rw (block-at codes chests i (placed Air) below) (block_is _ _ (held.chests i)));
}

-- nothing but air
pub blocks-fresh : (index n : ℕ) → blocks_from index (replicate n 0) [] ≡ replicate n (placed Air)
unfolding cell_of
blocks-fresh index zero = refl
blocks-fresh index (suc n) = ap (λ bs. placed Air ∷ bs) (blocks-fresh (index + 1) n)

pub stored-fresh : (bounds : Sizes) (n : ℕ) (codes : List ℕ) (chests : ChestData) → codes ≡ replicate n 0 → chests ≡ [] → n ≡ sector_cells bounds → IsStored bounds codes chests
unfolding cell_of
stored-fresh bounds n codes chests zeros none whole = record {
  whole = rw zeros (length-replicate n 0 ∙ whole);
  codes = rw zeros (All-replicate (λ b. b < code_count) n 0 (omega arith));
  chests = λ index. rw zeros (rw none (rw (zero_at n index 0) refl));
}

pub fresh-stored : (bounds : Sizes) (sector n : ℕ) (codes : List ℕ) (chests : ChestData) → codes ≡ replicate n 0 → chests ≡ [] → n ≡ sector_cells bounds
    → stored bounds sector codes chests ≡ only_air bounds sector
fresh-stored bounds sector n codes chests zeros none whole =
    let blocks = (λ i. blocks_from 0 (zeros i) (none i)) ∙ blocks-fresh 0 n ∙ (λ i. replicate (whole i) (placed Air)) in
    λ i. record { bounds = bounds; sector = sector; blocks = blocks i }

-- a byte changes, and the slots at its index with it
pub stored-set : (bounds : Sizes) (codes : List ℕ) (old new : ChestData) (k code : ℕ) (slots : Option Slots) → IsStored bounds codes old → k < length codes → code < code_count
    → Changes old new k slots → IsBeside code slots → IsStored bounds (set codes k code) new
stored-set bounds codes old new k code slots held near small change beside = record {
  whole = length-set codes k code ∙ held.whole;
  codes = All-set (λ b. b < code_count) codes k code small held.codes;
  chests = λ index. elim (cases_eq index k) [
    | inl same ↦ rw same (rw (get_or-set_same codes k code 0 near) (rw (change k) (rw (update_here (slots_of_chest old) k slots) beside)))
    | inr other ↦ rw (get_or-set_other codes k index code 0 other) (rw (change index) (rw (update_apart (slots_of_chest old) k slots index other) (held.chests index)))
  ];
}

-- and so does the block there
pub blocks-changed : (codes : List ℕ) (old new : ChestData) (k code : ℕ) (slots : Option Slots) → k < length codes → Changes old new k slots
    → blocks_from 0 (set codes k code) new ≡ set (blocks_from 0 codes old) k (record { cell = cell_of code; slots = unwrap_or slots [] })
blocks-changed codes old new k code slots near change =
    blocks-set codes old new k code near (λ q other. change q ∙ update_apart (slots_of_chest old) k slots q other)
    ∙ ap (λ o. set (blocks_from 0 codes old) k (record { cell = cell_of code; slots = unwrap_or o [] })) (change k ∙ update_here (slots_of_chest old) k slots)

same_beside : (code : ℕ) (o r : Option Slots) → IsBeside code o → IsBeside code r → unwrap_or o [] ≡ unwrap_or r [] → o ≡ r
same_beside code None None left right same = refl
same_beside code None (Some t) left right same = absurd (true≢false (sym right.0 ∙ left))
same_beside code (Some s) None left right same = absurd (true≢false (sym left.0 ∙ right))
same_beside code (Some s) (Some t) left right same = ap Some same

none_past : (o : Option Slots) → IsBeside 0 o → o ≡ None
unfolding cell_of
none_past None beside = refl
none_past (Some s) beside = absurd (true≢false (sym beside.0))

-- two that stand for the same have the same bytes, and the same slots at each index
module _ (bounds rest : Sizes) (codes others : List ℕ) (chests more : ChestData) (held : IsStored bounds codes chests) (holds : IsStored rest others more)
    (same : blocks_from 0 codes chests ≡ blocks_from 0 others more) where
  long : length codes ≡ length others
  long = sym (length-blocks 0 codes chests) ∙ ap length same ∙ length-blocks 0 others more

  same-block : (k : ℕ) → k < length codes → block_of (get_or codes k 0) chests k ≡ block_of (get_or others k 0) more k
  same-block k near = sym (block-at codes chests k (placed Air) near) ∙ ap (λ bs. get_or bs k (placed Air)) same ∙ block-at others more k (placed Air) (omega (arith, near, long))

  pub same-codes : codes ≡ others
  same-codes = same_number_lists codes others long
      (λ k near. same_code _ _ (held.codes k 0 near) (holds.codes k 0 (omega (arith, near, long))) (ap (λ b. b.cell) (same-block k near)))

  pub same-slots : (index : ℕ) → slots_of_chest chests index ≡ slots_of_chest more index
  same-slots index = elim (cases_lt index (length codes)) [
    | inr past ↦ none_past _ (subst (λ n. IsBeside n (slots_of_chest chests index)) (get_or_past codes index 0 past) (held.chests index))
        ∙ sym (none_past _ (subst (λ n. IsBeside n (slots_of_chest more index)) (get_or_past others index 0 (omega (arith, past, long))) (holds.chests index)))
    | inl near ↦ same_beside (get_or codes index 0) _ _ (held.chests index) (rw same-codes (holds.chests index)) (ap (λ b. b.slots) (same-block index near))
  ]

-- and back
pub same-blocks : (index : ℕ) (codes : List ℕ) (chests more : ChestData) → ((q : ℕ) → slots_of_chest chests q ≡ slots_of_chest more q) → blocks_from index codes chests ≡ blocks_from index codes more
same-blocks index [] chests more same = refl
same-blocks index (code ∷ codes) chests more same =
    let slots = same index in
    let rest = same-blocks (index + 1) codes chests more same in
    λ i. record { cell = cell_of code; slots = unwrap_or (slots i) [] } ∷ rest i
