-- Of two beginnings of one list the shorter one begins the longer one.
use Rattle.std.proofs.Common.{ℕ, ◌≡◌, ◌≤◌, true, Decides, nat_eq, List, [], ◌∷◌, length, refl, ap, sym, ◌∙◌, eq-eqb, arith}
use Rattle.std.proofs.lemmas.Bool.Decides.{nat_tests}
use Rattle.std.proofs.lemmas.List.{append-nil}
use mathlib.Core.List.{IsPrefix}

-- a list begins itself
pub begins_itself : {A : Type 0} (xs : List A) → IsPrefix xs xs
begins_itself xs = ([], append-nil xs)

pub shorter_begins : {A : Type 0} (xs ys zs : List A) → IsPrefix xs zs → IsPrefix ys zs → length xs ≤ length ys → IsPrefix xs ys
shorter_begins [] ys zs p q le = (ys, refl)
shorter_begins (x ∷ xs) [] zs p q le = absurd (omega arith)
shorter_begins (x ∷ xs) (y ∷ ys) [] p q le = absurd (cc (p.1))
shorter_begins (x ∷ xs) (y ∷ ys) (z ∷ zs) p q le =
    let rest = shorter_begins xs ys zs (p.0, cc (p.1)) (q.0, cc (q.1)) (omega arith) in
    (rest.0, cc (rest.1, p.1, q.1))

as_long_same : {A : Type 0} (xs ys zs : List A) → IsPrefix xs zs → IsPrefix ys zs → length xs ≡ length ys → xs ≡ ys
as_long_same [] [] zs p q even = refl
as_long_same [] (y ∷ ys) zs p q even = absurd (omega (arith, even))
as_long_same (x ∷ xs) [] zs p q even = absurd (omega (arith, even))
as_long_same (x ∷ xs) (y ∷ ys) [] p q even = absurd (cc (p.1))
as_long_same (x ∷ xs) (y ∷ ys) (z ∷ zs) p q even =
    let rest = as_long_same xs ys zs (p.0, cc (p.1)) (q.0, cc (q.1)) (omega (arith, even)) in
    cc (rest, p.1, q.1)

even_counts : (m n : ℕ) → nat_eq m n ≡ true → m ≡ n
even_counts m n e = grind (arith, nat_tests)

-- two beginnings of one list are one list where they are as long
pub same_by_counts : {A : Type 0} (m n : ℕ) (xs ys zs : List A) → m ≡ length xs → n ≡ length ys → IsPrefix xs zs → IsPrefix ys zs → Decides (nat_eq m n) (xs ≡ ys)
same_by_counts m n xs ys zs xs_count ys_count p q =
    (λ even. as_long_same xs ys zs p q (sym xs_count ∙ even_counts m n even ∙ ys_count), λ same. eq-eqb m n (xs_count ∙ ap length same ∙ sym ys_count))
