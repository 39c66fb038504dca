-- What follows where passes, sectors and keeper agree.
use Rattle.std.proofs.Common.{◌≡◌, ℕ, zero, suc, ◌+◌, ◌<◌, ◌≤◌, ◌≢◌, inl, inr, Bool, true, List, [], ◌∷◌, length, map, get_or, Option, Some, None, refl, sym, ap, ◌∙◌, arith, subst}
use Rattle.std.specs.Prelude.{if◌then◌else◌, nat_eq, option_map, is_some}
use Rattle.std.specs.List.{All}
use Rattle.std.proofs.lemmas.Bool.Decides.{eqb_tells}
use Rattle.std.proofs.lemmas.List.{get_or-map, length-map}
use Rattle.std.proofs.lemmas.List.Sums.{sum_by-cons}
use Rattle.std.proofs.lemmas.List.Elements.{All-head, All-tail}
use Rattle.vx_sector.specs.SectorData.{SectorData}
use Rattle.vx_record.specs.Settling.{CallerData, KnownData, IsEachOnce, IsKnown, AreKnown, IsFound, callers_at}
use Rattle.vx_record.specs.Chronicles.{TickData}
use Rattle.vx_record.specs.declared.fault.Fault.{Fault}

-- how many callers have one of so many seats
abbrev callers_below : ℕ → List CallerData → ℕ
callers_below zero callers = 0
callers_below (suc n) callers = callers_at n callers + callers_below n callers

none_below : (n : ℕ) → callers_below n [] ≡ 0
none_below zero = refl
none_below (suc n) = omega (arith, none_below n)

each_below : (n : ℕ) (callers : List CallerData) → ((seat : ℕ) → seat < n → callers_at seat callers ≡ 1)
    → callers_below n callers ≡ n
each_below zero callers once = refl
each_below (suc n) callers once =
    let rest = each_below n callers (λ seat there. once seat (omega (arith, there))) in
    omega (arith, once n (omega arith), rest)

below_apart : (a n : ℕ) → a < suc n → a ≢ n → a < n
below_apart a n below apart = omega (arith, below, apart)

-- one caller more counts at its own seat alone
at_more : (n : ℕ) (c : CallerData) (callers : List CallerData)
    → callers_at n (c ∷ callers) ≡ (if nat_eq c.seat n then 1 else 0) + callers_at n callers
at_more n c callers = sum_by-cons (λ (x : CallerData). if nat_eq x.seat n then 1 else 0) c callers

more_past : (n : ℕ) (c : CallerData) (callers : List CallerData) → n ≤ c.seat
    → callers_below n (c ∷ callers) ≡ callers_below n callers
more_past zero c callers past = refl
more_past (suc n) c callers past = elim (eqb_tells c.seat n) [
  | inl same ↦ absurd (omega (arith, same.1, past))
  | inr other ↦
      let here : callers_at n (c ∷ callers) ≡ 0 + callers_at n callers =
      at_more n c callers ∙ ap (λ (b : Bool). (if b then 1 else 0) + callers_at n callers) other.0 in
      omega (arith, here, more_past n c callers (omega (arith, past)))
]

more_below : (n : ℕ) (c : CallerData) (callers : List CallerData) → c.seat < n
    → callers_below n (c ∷ callers) ≡ callers_below n callers + 1
more_below zero c callers there = absurd (omega (arith, there))
more_below (suc n) c callers there = elim (eqb_tells c.seat n) [
  | inl same ↦
      let here : callers_at n (c ∷ callers) ≡ 1 + callers_at n callers =
      at_more n c callers ∙ ap (λ (b : Bool). (if b then 1 else 0) + callers_at n callers) same.0 in
      omega (arith, here, more_past n c callers (omega (arith, same.1)))
  | inr other ↦
      let here : callers_at n (c ∷ callers) ≡ 0 + callers_at n callers =
      at_more n c callers ∙ ap (λ (b : Bool). (if b then 1 else 0) + callers_at n callers) other.0 in
      omega (arith, here, more_below n c callers (below_apart c.seat n there other.1))
]

all_below : (n : ℕ) (callers : List CallerData) → All (λ (c : CallerData). c.seat < n) callers
    → callers_below n callers ≡ length callers
all_below n [] all = none_below n
all_below n (c ∷ callers) all =
    let P : CallerData → Type 0 = λ caller. caller.seat < n in
    let rest = all_below n callers (All-tail P c callers all) in
    omega (arith, more_below n c callers (All-head P c callers all), rest)

-- where each seat has one caller, and no caller another seat, there are as many as seats
pub as_many : (n : ℕ) (callers : List CallerData) → IsEachOnce n callers → length callers ≡ n
as_many n callers once = sym (all_below n callers once.only) ∙ each_below n callers once.once

here_if_known : {H : Type 0} (f : H → SectorData) (home : Option H) (known : KnownData)
    → IsKnown (option_map f home) known → is_some home ≡ true
here_if_known f (Some h) known is = refl
here_if_known f None known is = absurd is

-- where all sectors are known, all are at home
pub all_home : {X H : Type 0} (slots : List X) (home : X → Option H) (f : H → SectorData)
    (known : ℕ → KnownData) → AreKnown known (map (λ s. option_map f (home s)) slots)
    → All (λ s. is_some (home s) ≡ true) slots
all_home {X = X} slots home f known are = λ k d there.
    let sector : X → Option SectorData = λ s. option_map f (home s) in
    here_if_known f (home (get_or slots k d)) (known k)
    (subst (λ o. IsKnown o (known k)) (get_or-map sector slots k d None there)
    (are k (omega (arith, there, length-map slots sector))))

-- what is known where nothing was found against it
pub settled : (seats : ℕ) (callers : List CallerData) (places : List (Option SectorData))
    (known : ℕ → KnownData) (ticks : List TickData) (found : Option Fault)
    → IsFound seats callers places known ticks found → ((x : Fault) → found ≡ Some x → ⊥)
    → IsEachOnce seats callers × AreKnown known places
settled seats callers places known ticks None found none = (found.0, found.1)
settled seats callers places known ticks (Some x) found none = absurd (none x refl)
