-- Even parts of a list, one after another.
use Rattle.std.proofs.Common.{◌≡◌, ℕ, suc, ◌+◌, ◌-◌, ◌<◌, ◌≤◌, List, ◌++◌, length, map, take, sym, ap, ◌∙◌, arith}
use Rattle.std.specs.List.{between, flat_map}
use Rattle.std.proofs.lemmas.List.{map-append, take_all}
use Rattle.std.proofs.Math.Seq.{take-add}
use Rattle.vx_step.specs.Shares.{first_of, AreFromTo}
use Rattle.vx_step.proofs.Dividing.{first_is_none, last_is_all, firsts_grow}
use Rattle.vx_step.proofs.Joining.{all_bring}

-- the first so many and what follows up to there
take_on : {X : Type 0} (a b : ℕ) (xs : List X) → a ≤ b → take b xs ≡ take a xs ++ between a b xs
take_on a b xs low =
    let whole : b ≡ a + (b - a) = omega (arith, low) in
    ap (λ n. take n xs) whole ∙ take-add a (b - a) xs

-- what comes of each part comes of the whole
pub even_parts : {X Y V : Type 0} (f : X → Y) (items : V → List Y) (xs : List X) (n : ℕ) (vs : List V)
    → 0 < n
    → AreFromTo (λ i v. items v ≡ map f (between (first_of (length xs) n i) (first_of (length xs) n (i + 1)) xs))
    0 n vs
    → flat_map items vs ≡ map f xs
even_parts f items xs n vs some are =
    let len = length xs in
    all_bring _ items (λ i. map f (take (first_of len n i) xs)) n vs
    (ap (λ k. map f (take k xs)) (first_is_none len n some))
    (λ i v low is.
    let next : i + 1 ≡ suc i = omega arith in
    ap (λ k. map f (take (first_of len n k) xs)) (sym next)
    ∙ ap (map f) (take_on (first_of len n i) (first_of len n (i + 1)) xs (firsts_grow len n i some))
    ∙ map-append f (take (first_of len n i) xs) (between (first_of len n i) (first_of len n (i + 1)) xs)
    ∙ ap (λ ys. map f (take (first_of len n i) xs) ++ ys) (sym is))
    are
    ∙ ap (λ k. map f (take k xs)) (last_is_all len n some)
    ∙ ap (map f) (take_all len xs (omega arith))
