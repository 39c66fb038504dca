-- Marks beside the bytes of a sector.
use Rattle.std.proofs.Common.{◌≡◌, ℕ, ◌*◌, ◌/◌, ◌%◌, ◌<◌, Bool, false, if◌then◌else◌, List, length, get_or, set, replicate, nat_eq, inl, inr, ap, refl, sym, ◌∙◌, arith}
use Rattle.std.proofs.lemmas.Bool.{cases_eq, eq-eqb, ne_eqb}
use Rattle.std.proofs.lemmas.List.{get_or-set_same, get_or-set_other, length-set, length-replicate}
use Rattle.vx_block.specs.declared.cell.Cell.{Cell}
use Rattle.vx_block.specs.declared.cell.Cell.TheVariants.{Air}
use Rattle.vx_block.specs.Components.{is_device, is_component}
use Rattle.vx_marks.specs.Marks.{is_marked}
use Rattle.vx_marks.proofs.Marking.{zero_at, none_marked}
use Rattle.vx_store.specs.Codes.{cell_of}
use Rattle.vx_store.specs.MachineMarks.{MarkWords, AreMarksSet, AreMarks, AreMachineMarks}

-- in a sector of air nothing is marked
pub fresh_marks : (test : Cell → Bool) (n : ℕ) (codes marks : List ℕ) → test Air ≡ false
    → codes ≡ replicate n 0 → 64 * length marks ≡ n → ((i : ℕ) → is_marked marks i ≡ false)
    → AreMarks test codes marks
unfolding cell_of
fresh_marks test n codes marks not_air zeros long none = record {
  long = rw zeros (long ∙ sym (length-replicate n 0));
  each = λ i. none i ∙ sym (
      ap (λ cs. test (cell_of (get_or cs i 0))) zeros
      ∙ ap (λ code. test (cell_of code)) (zero_at n i 0) ∙ not_air
      );
}

-- nor without room for marks
pub blank_marks : (test : Cell → Bool) (n : ℕ) (codes words : List ℕ) → test Air ≡ false
    → codes ≡ replicate n 0 → n % 64 ≡ 0 → words ≡ replicate (n / 64) 0 → AreMarks test codes words
blank_marks test n codes words not_air zeros whole blank =
    fresh_marks test n codes words not_air zeros
    (rw blank (omega (arith, length-replicate {A = ℕ} (n / 64) 0, whole)))
    (λ i. rw blank (none_marked (n / 64) i))

-- a byte changes, and the mark at its index with it
pub marks_set : (test : Cell → Bool) (codes marks new : List ℕ) (k code : ℕ) (marked : Bool)
    → AreMarks test codes marks → k < length codes → marked ≡ test (cell_of code) → length new ≡ length marks
    → ((i : ℕ) → is_marked new i ≡ (if nat_eq i k then marked else is_marked marks i))
    → AreMarks test (set codes k code) new
marks_set test codes marks new k code marked old near told long changed = record {
  long = omega (arith, old.long, long, length-set codes k code);
  each = λ i. elim (cases_eq i k) [
    | inl same ↦
        changed i ∙ ap (λ b. if b then marked else is_marked marks i) (eq-eqb i k same) ∙ told
        ∙ sym (ap (λ n. test (cell_of n)) (get_or-set_same codes k code 0 near))
        ∙ ap (λ j. test (cell_of (get_or (set codes k code) j 0))) (sym same)
    | inr apart ↦
        changed i ∙ ap (λ b. if b then marked else is_marked marks i) (ne_eqb i k apart) ∙ old.each i
        ∙ sym (ap (λ n. test (cell_of n)) (get_or-set_other codes k i code 0 apart))
  ];
}

-- so do the marks of components and devices
pub machine_marks_set : (codes : List ℕ) (marks new : MarkWords) (k code : ℕ) → AreMachineMarks codes marks
    → k < length codes → AreMarksSet marks new k code → AreMachineMarks (set codes k code) new
machine_marks_set codes marks new k code old near changed = record {
  components = marks_set is_component codes marks.components new.components k code _ old.components near refl
      changed.components.long changed.components.each;
  devices = marks_set is_device codes marks.devices new.devices k code _ old.devices near refl
      changed.devices.long changed.devices.each;
}

-- a byte changes, and the mark at its index is the one that it wants
pub marks_kept : (test : Cell → Bool) (codes marks : List ℕ) (k code : ℕ)
    → AreMarks test codes marks → k < length codes → is_marked marks k ≡ test (cell_of code)
    → AreMarks test (set codes k code) marks
marks_kept test codes marks k code old near told =
    marks_set test codes marks marks k code (is_marked marks k) old near told refl (λ i. elim (cases_eq i k) [
      | inl same ↦ ap (is_marked marks) same ∙ sym (ap (λ b. if b then is_marked marks k else is_marked marks i) (eq-eqb i k same))
      | inr apart ↦ sym (ap (λ b. if b then is_marked marks k else is_marked marks i) (ne_eqb i k apart))
    ])
