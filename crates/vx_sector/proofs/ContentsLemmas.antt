-- The text of some slots and one more.
use Rattle.std.proofs.Common.{◌≡◌, ℕ, zero, suc, ◌+◌, ◌<◌, ◌≤◌, true, List, [], ◌∷◌, ◌++◌, Option, None, take, length, get_or, append_assoc, append-nil, refl, sym, arith}
use Rattle.vx_store.specs.declared.stack.Stack.{Stack}
use Rattle.vx_sector.specs.Texts.{slot_text, slots_text, contents_text}
use Rattle.std.specs.List.{list_any}
use Rattle.std.proofs.lemmas.List.{take_all}
use Rattle.vx_sector.specs.Slots.{is_filled}

-- the text of the first slots and the next one
pub slots_more : (number i : ℕ) (slots : List (Option Stack)) → i < length slots
    → slots_text number (take (suc i) slots) ≡ slots_text number (take i slots) ++ slot_text (number + i) (get_or slots i None)
slots_more number i [] below = absurd (omega arith)
slots_more number zero (slot ∷ slots) below =
    let here : number + 0 ≡ number = omega arith in rw here (append-nil (slot_text number slot))
slots_more number (suc i) (slot ∷ slots) below =
    let next : number + 1 + i ≡ number + suc i = omega arith in
    let more = slots_more (number + 1) i slots (omega arith) in
    rw (more, next) (sym (append_assoc (slot_text number slot) (slots_text (number + 1) (take i slots)) (slot_text (number + suc i) (get_or slots i None))))

-- all slots were written, and there was something to write
pub all_written : (i : ℕ) (slots : List (Option Stack)) → length slots ≤ i → list_any is_filled slots ≡ true → slots_text 0 (take i slots) ≡ contents_text slots
all_written i slots whole filled = rw (take_all i slots whole, filled) refl
