-- The sectors of each worker.
use Rattle.std.proofs.Common.{◌≡◌, ℕ, zero, suc, ◌+◌, ◌*◌, ◌/◌, ◌<◌, ◌≤◌, nat_lt, inl, inr, arith, ap, ◌∙◌, subst}
use Rattle.std.proofs.lemmas.Bool.{cases_Bool, ltb-true, ltb-false}
use Rattle.std.proofs.lemmas.Nat.{le-div}
use Rattle.std.proofs.Math.Nat.{mul-div_cancel_left, div-mul-le_self, div-le_of_le-mul, mul-le-mul_right, zero-mul, zero-div}
use Rattle.vx_step.specs.Shares.{first_of, IsOwn, EachIsOwn, NoneIsShared}

pub first_is_none : (n k : ℕ) → 0 < k → first_of n k 0 ≡ 0
first_is_none n k some = ap (λ x. x / k) (zero-mul n) ∙ zero-div k

pub last_is_all : (n k : ℕ) → 0 < k → first_of n k k ≡ n
last_is_all n k some = mul-div_cancel_left n some

firsts_ordered : (n k i j : ℕ) → 0 < k → i ≤ j → first_of n k i ≤ first_of n k j
firsts_ordered n k i j some low =
    let more : i * n ≤ j * n = mul-le-mul_right n low in
    let whole : first_of n k i * k ≤ i * n = div-mul-le_self (i * n) k in
    le-div (first_of n k i) (j * n) k some (omega (arith, whole, more))

pub firsts_grow : (n k i : ℕ) → 0 < k → first_of n k i ≤ first_of n k (i + 1)
firsts_grow n k i some = firsts_ordered n k i (i + 1) some (omega arith)

pub firsts_most : (n k i : ℕ) → 0 < k → i ≤ k → first_of n k i ≤ n
firsts_most n k i some most = div-le_of_le-mul k (mul-le-mul_right n most)

-- a sector before those of worker m is that of one before
own_below : (n k s m : ℕ) → 0 < k → s < first_of n k m → (i : ℕ) × (i < m) × IsOwn n k i s
own_below n k s zero some low = absurd (omega (arith, low, first_is_none n k some))
own_below n k s (suc m) some low =
    let next : suc m ≡ m + 1 = omega arith in elim (cases_Bool (nat_lt s (first_of n k m))) [
      | inl before ↦
          let found = own_below n k s m some (ltb-true s (first_of n k m) before) in (found.0, omega (arith, found.1), found.2)
      | inr behind ↦ (m, omega arith, (ltb-false s (first_of n k m) behind, subst (λ j. s < first_of n k j) next low))
    ]

pub each_is_own : EachIsOwn
each_is_own n k s some low = own_below n k s k some (omega (arith, low, last_is_all n k some))

-- the sectors of a worker end before those of each later one begin
not_earlier : (n k s i j : ℕ) → 0 < k → IsOwn n k i s → IsOwn n k j s → i < j → ⊥
not_earlier n k s i j some first second earlier =
    omega (arith, firsts_ordered n k (i + 1) j some (omega (arith, earlier)), first.1, second.0)

pub none_is_shared : NoneIsShared
none_is_shared n k s i j some first second = elim (cases_Bool (nat_lt i j)) [
  | inl earlier ↦ absurd (not_earlier n k s i j some first second (ltb-true i j earlier))
  | inr later ↦ elim (cases_Bool (nat_lt j i)) [
    | inl earlier ↦ absurd (not_earlier n k s j i some second first (ltb-true j i earlier))
    | inr last ↦ omega (arith, ltb-false i j later, ltb-false j i last)
  ]
]
