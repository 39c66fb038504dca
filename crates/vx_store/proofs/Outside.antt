-- Pages outside which nothing is marked.
use Rattle.std.proofs.Common.{◌≡◌, ◌≢◌, ℕ, ◌*◌, ◌/◌, ◌^◌, ◌<◌, ◌≤◌, Bool, false, if◌then◌else◌, List, length, set, replicate, None, inl, inr, ap, ◌∙◌, arith}
use Rattle.std.proofs.lemmas.Bool.{cases_lt, ne_eqb}
use Rattle.std.proofs.lemmas.List.{length-replicate, length-set}
use Rattle.vx_marks.specs.Marks.{is_marked, IsFirstMarked, IsMarkSet}
use Rattle.vx_marks.specs.declared.page.TheConstants.{PAGE}
use Rattle.vx_marks.proofs.Marking.{none_marked}
use Rattle.vx_store.specs.MachineMarks.{MarkWords, words_of, blank_page, joined, ArePages, LieInPages, AreMarkedPages, AreMarksSet}
use Rattle.vx_store.specs.declared.mark_kind.MarkKind.{MarkKind}
use Rattle.vx_store.specs.declared.mark_kind.MarkKind.TheVariants.{Component, Device}
use Rattle.vx_store.proofs.Paging.{are_blank, blank_words}

-- in blank pages nothing is marked
blank_lie : (kind : MarkKind) (n first end : ℕ) → LieInPages (words_of kind (joined (replicate n blank_page))) first end
blank_lie kind n first end = record {
  before = λ i low high. none i;
  behind = λ i low high. none i;
}
  where
    none : (i : ℕ) → is_marked (words_of kind (joined (replicate n blank_page))) i ≡ false
    none i = ap (λ words. is_marked words i) (blank_words kind n) ∙ none_marked (64 * n) i

pub blank_are_marked : (n count : ℕ) → n ≡ count / PAGE → count < 2 ^ 32
    → AreMarkedPages (replicate n blank_page) (count / PAGE) 0
blank_are_marked n count is fits = record {
  pages = are_blank n count is fits;
  start = omega (arith, is, length-replicate n blank_page);
  within = omega arith;
  components = blank_lie Component n (count / PAGE) 0;
  devices = blank_lie Device n (count / PAGE) 0;
}

-- the mark of one index changes, and the pages reach up to its own
set_lie : (old new : List ℕ) (first end index : ℕ) (marked : Bool) (less more : ℕ) → LieInPages old first end
    → IsMarkSet old new index marked → less ≤ first → less ≤ index / PAGE → end ≤ more → index / PAGE < more
    → LieInPages new less more
set_lie old new first end index marked less more lie changed under low over high = record {
  before = λ i least most. stays i (omega (arith, low, most)) (lie.before i least (omega (arith, under, most)));
  behind = λ i least most. stays i (omega (arith, high, least))
      (lie.behind i (omega (arith, over, least)) (omega (arith, most, changed.long)));
}
  where
    stays : (i : ℕ) → i ≢ index → is_marked old i ≡ false → is_marked new i ≡ false
    stays i apart none = changed.each i ∙ ap (λ b. if b then marked else is_marked old i) (ne_eqb i index apart) ∙ none

module _ (ps : List MarkWords) (first end : ℕ) (are : AreMarkedPages ps first end) where
  pub lie : (kind : MarkKind) → LieInPages (words_of kind (joined ps)) first end
  lie Component = are.components
  lie Device = are.devices

  -- so do those of an index in pages of either kind
  pub set_are_marked : (n : ℕ) (new : MarkWords) (index code less more : ℕ) → n ≡ index / PAGE → n < length ps
      → ArePages (set ps n new) → AreMarksSet (joined ps) (joined (set ps n new)) index code
      → less ≤ first → less ≤ n → end ≤ more → n < more → more ≤ length ps
      → AreMarkedPages (set ps n new) less more
  set_are_marked n new index code less more is near pages changed under low over high within = record {
    pages = pages;
    start = omega (arith, under, are.start, length-set ps n new);
    within = omega (arith, within, length-set ps n new);
    components = set_lie _ _ first end index _ less more are.components changed.components under
        (omega (arith, low, is)) over (omega (arith, high, is));
    devices = set_lie _ _ first end index _ less more are.devices changed.devices under
        (omega (arith, low, is)) over (omega (arith, high, is));
  }

  -- where they reach over no page nothing is marked
  pub none_where_none : end ≤ first → (kind : MarkKind) → IsFirstMarked (words_of kind (joined ps)) 0 None
  none_where_none none kind i low high = elim (cases_lt i (PAGE * first)) [
    | inl before ↦ (lie kind).before i low before
    | inr on ↦ (lie kind).behind i (omega (arith, on, none)) high
  ]
