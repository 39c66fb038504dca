-- Slots: what `clone` says of them.
use Rattle.std.proofs.Common.{◌≡◌, Option, Some, None, refl, ap}
use Rattle.vx_store.specs.declared.stack.Stack.{Stack}

-- a copy of a slot is the slot, where a copy of a stack is the stack
pub copied_slot : (C : Option Stack → Option Stack → Type 0) → ((s t : Stack) → C (Some s) (Some t) → t ≡ s) → ((s : Stack) → C None (Some s) → ⊥)
    → ((s : Stack) → C (Some s) None → ⊥) → (x y : Option Stack) → C x y → y ≡ x
copied_slot C some more less None None h = refl
copied_slot C some more less None (Some y) h = absurd (more y h)
copied_slot C some more less (Some x) None h = absurd (less x h)
copied_slot C some more less (Some x) (Some y) h = ap Some (some x y h)
