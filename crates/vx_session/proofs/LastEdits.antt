-- What the last edit of a session says of those before it, and of those that a view has seen.
use Rattle.std.proofs.Common.{◌≡◌, ◌+◌, ◌≤◌, List, [], ◌∷◌, ◌++◌, length, refl, sym, ap, ◌∙◌, append_assoc, arith, length-append}
use mathlib.Core.List.{IsPrefix}
use Rattle.vx_stamp.proofs.Stamps.{prefix_whole}

-- a list of one element has none before it
none_before : {X : Type 0} (before : List X) (x : X) → 1 ≡ length (before ++ x ∷ []) → before ≡ []
none_before [] x even = refl
none_before (y ∷ before) x even = absurd (omega (arith, even, length-append before (x ∷ [])))

-- of a list with just one element more than one that begins it, the elements before the last
pub all_but_last : {X : Type 0} (xs before : List X) (x : X) → IsPrefix xs (before ++ x ∷ [])
    → length xs + 1 ≡ length (before ++ x ∷ []) → before ≡ xs
all_but_last [] before x begins even = none_before before x even
all_but_last (y ∷ xs) [] x begins even = absurd (omega (arith, even))
all_but_last (y ∷ xs) (z ∷ before) x begins even =
    let rest = all_but_last xs before x (begins.0, cc (begins.1)) (omega (arith, even)) in
    cc (rest, begins.1)

-- where what was learnt, and then more, is no longer than what it begins with, that is all
pub all_seen : {X : Type 0} (xs learnt seen : List X) → IsPrefix xs learnt → IsPrefix learnt seen
    → length seen ≤ length xs → xs ≡ seen
all_seen xs learnt seen begins later within =
    prefix_whole xs seen
    (begins.0 ++ later.0, sym (append_assoc xs begins.0 later.0) ∙ ap (λ ys. ys ++ later.0) begins.1 ∙ later.1)
    within
