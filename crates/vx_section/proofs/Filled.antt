-- The same byte at each place.
use Rattle.std.proofs.Common.{◌≡◌, IsTrue, nat_eq, ℕ, ◌<◌, length, replicate, get_or, set, refl, ap, sym, ◌∙◌, arith}
use Rattle.std.proofs.lemmas.Bool.Decides.{Decides-eqb}
use Rattle.std.proofs.lemmas.List.{get_or-replicate, set-get_or}
use Rattle.std.proofs.Math.ListN.{length-replicate}
use Rattle.vx_section.specs.Forms.{filled}

pub get_filled : (n byte index : ℕ) → index < n → get_or (filled n byte) index 0 ≡ byte
unfolding filled
get_filled n byte index near = get_or-replicate n index byte 0 near

pub length-filled : (n byte : ℕ) → length (filled n byte) ≡ n
unfolding filled
length-filled n byte = length-replicate n byte

pub set_filled : (n byte index : ℕ) → index < n → set (filled n byte) index byte ≡ filled n byte
set_filled n byte index near =
    ap (set (filled n byte) index) (sym (get_filled n byte index near)) ∙ set-get_or (filled n byte) index 0

pub filled_is : (n byte : ℕ) → replicate n byte ≡ filled n byte
unfolding filled
filled_is n byte = refl

pub same_filled : (a b : ℕ) → (IsTrue (nat_eq a b) → filled 4096 a ≡ filled 4096 b) × (filled 4096 a ≡ filled 4096 b → IsTrue (nat_eq a b))
same_filled a b =
    let test = Decides-eqb a b in (
      λ same. ap (filled 4096) (test.0 same),
      λ same. test.1 (sym (get_filled 4096 a 0 (omega arith)) ∙ ap (λ bs. get_or bs 0 0) same ∙ get_filled 4096 b 0 (omega arith)),
    )
