-- The test of the slots of two chests answers yes exactly where they are one, and so meets the laws
-- of `==`.
use Rattle.std.specs.Prelude.{◌≡◌, Bool, ◌&&◌, nat_eq, List, Option, Some, None, refl}
use Rattle.std.specs.Bool.{Decides}
use Rattle.std.specs.Cmp.{IsEquivalence, decided}
use Rattle.std.specs.Cmp.Lexicographic.{pointwise, pointwise_decides}
use Rattle.std.specs.Option.{option_eq}
use Rattle.std.proofs.Common.{ap}
use Rattle.std.proofs.lemmas.Bool.Decides.{Decides-eqb, Decides-and, Decides-like}
use Rattle.vx_store.specs.declared.stack.Stack.{Stack}

-- as many of the same item
abbrev pub same_stack : Stack → Stack → Bool
same_stack a b = nat_eq a.item b.item && nat_eq a.count b.count

-- both hold the same, slot by slot
unfoldable pub same_slots : List (Option Stack) → List (Option Stack) → Bool
same_slots a b = pointwise (option_eq same_stack) a b

stack_joined : (a b : Stack) → (a.item ≡ b.item) × (a.count ≡ b.count) → a ≡ b
stack_joined a b h i = record { item = h.0 i; count = h.1 i }

stack_decided : (a b : Stack) → Decides (same_stack a b) (a ≡ b)
stack_decided a b =
    Decides-like _ (stack_joined a b) (λ e. (ap (λ s. s.item) e, ap (λ s. s.count) e))
    (Decides-and _ _ (Decides-eqb a.item b.item) (Decides-eqb a.count b.count))

pub slot_decided : (a b : Option Stack) → Decides (option_eq same_stack a b) (a ≡ b)
slot_decided None None = (λ _. refl, λ _. refl)
slot_decided None (Some b) = (λ e. cc, λ e. cc)
slot_decided (Some a) None = (λ e. cc, λ e. cc)
slot_decided (Some a) (Some b) = Decides-like _ (λ e. ap Some e) (λ e. cc) (stack_decided a b)

pub slots_decided : (a b : List (Option Stack)) → Decides (same_slots a b) (a ≡ b)
unfolding same_slots
slots_decided a b = pointwise_decides slot_decided a b

pub slots_equiv : IsEquivalence same_slots
slots_equiv = decided same_slots slots_decided
