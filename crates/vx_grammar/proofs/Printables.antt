-- Bytes that may stand in a line are text.
use Rattle.std.proofs.Common.{◌≡◌, ℕ, zero, suc, ◌<◌, true, List, [], ◌∷◌, get_or, nat_le, IsUtf8, arith}
use Rattle.std.specs.List.{list_all}
use Rattle.std.proofs.lemmas.Bool.{and_parts, leb-true}
use Rattle.std.proofs.lemmas.Str.{IsUtf8-from_ascii}
use Rattle.vx_grammar.specs.ScriptLines.{is_printable}

small : (bytes : List ℕ) → list_all is_printable bytes ≡ true → (i : ℕ) → get_or bytes i 0 < 128
small [] all zero = omega arith
small [] all (suc i) = omega arith
small (b ∷ bs) all zero =
    let parts = and_parts (is_printable b) (list_all is_printable bs) all in
    let most = leb-true b 126 (and_parts (nat_le 32 b) (nat_le b 126) parts.0).1 in
    omega arith
small (b ∷ bs) all (suc i) = small bs (and_parts (is_printable b) (list_all is_printable bs) all).1 i

pub printable_is_text : (bytes : List ℕ) → list_all is_printable bytes ≡ true → IsUtf8 bytes
printable_is_text bytes all = IsUtf8-from_ascii bytes (small bytes all)
