-- Ticks one more, and edits one more.
use Rattle.std.proofs.Common.{◌≡◌, ℕ, ◌+◌, ◌≤◌, List, [], ◌∷◌, ◌++◌, length, refl, sym, ap, ◌∙◌, subst, arith}
use Rattle.std.proofs.lemmas.List.{take-append-le}
use Rattle.vx_cells.specs.Maps.{MapData}
use Rattle.vx_region.specs.Regions.{Regions}
use Rattle.vx_policy.specs.Asked.{Asked}
use Rattle.vx_policy.specs.Edits.{after}
use Rattle.vx_windows.specs.Sectors.{first_version}
use Rattle.vx_record.specs.Chronicles.{TickData, map_ticked, map_after, IsTickOn, AreTicks, BeginsBy, AreGrown, version_by}

pub map_after_one_more : (m : MapData) (ticks : List TickData) (tick : TickData)
    → map_after m (ticks ++ tick ∷ []) ≡ map_ticked (map_after m ticks) tick
map_after_one_more m [] tick = refl
map_after_one_more m (t ∷ ticks) tick = map_after_one_more (map_ticked m t) ticks tick

pub ticks_one_more : (names : List (List ℕ)) (m : MapData) (n : ℕ) (ticks : List TickData) (tick : TickData)
    → AreTicks names m n ticks → IsTickOn names (map_after m ticks) (n + length ticks) tick
    → AreTicks names m n (ticks ++ tick ∷ [])
ticks_one_more names m n [] tick are is =
    (subst (λ k. IsTickOn names m k tick) (omega arith) is, tt)
ticks_one_more names m n (t ∷ ticks) tick are is =
    let next : IsTickOn names (map_after (map_ticked m t) ticks) (n + 1 + length ticks) tick =
    subst (λ k. IsTickOn names (map_after (map_ticked m t) ticks) k tick) (omega arith) is in
    (are.0, ticks_one_more names (map_ticked m t) (n + 1) ticks tick are.1 next)

-- a tick more does not change by which policy they begin
pub begins_one_more : (policy : Regions) (ticks : List TickData) (tick : TickData) → BeginsBy policy ticks
    → (ticks ≡ [] → tick.version ≡ first_version policy) → BeginsBy policy (ticks ++ tick ∷ [])
begins_one_more policy [] tick begins first = first refl
begins_one_more policy (t ∷ ticks) tick begins first = begins

module _ (first : Regions) where
  -- no fewer edits count later
  pub no_fewer : (edits : List Asked) (low : ℕ) (ticks : List TickData) (high : ℕ)
      → AreGrown first edits low ticks high → low ≤ high
  no_fewer edits low [] high grown = grown
  no_fewer edits low (t ∷ ticks) high grown =
      omega (arith, grown.0, no_fewer edits t.version.edits ticks high grown.2)

  pub same_version : (edits : List Asked) (e : Asked) (count n : ℕ) → count ≤ length edits
      → version_by first (edits ++ e ∷ []) count n ≡ version_by first edits count n
  same_version edits e count n within =
      ap (λ es. record { tick = n; edits = count; policy = after first es })
      (take-append-le count edits (e ∷ []) within)

  -- one more accepted edit changes no version
  pub edits_one_more : (edits : List Asked) (e : Asked) (low : ℕ) (ticks : List TickData) (high : ℕ)
      → high ≤ length edits → AreGrown first edits low ticks high
      → AreGrown first (edits ++ e ∷ []) low ticks high
  edits_one_more edits e low [] high within grown = grown
  edits_one_more edits e low (t ∷ ticks) high within grown =
      let count : t.version.edits ≤ length edits =
      omega (arith, no_fewer edits t.version.edits ticks high grown.2, within) in (
        grown.0,
        grown.1 ∙ sym (same_version edits e t.version.edits t.number count),
        edits_one_more edits e t.version.edits ticks high within grown.2,
      )

  -- one more tick, and as many edits as now
  pub grown_one_more : (edits : List Asked) (low : ℕ) (ticks : List TickData) (tick : TickData) (high : ℕ)
      → AreGrown first edits low ticks tick.version.edits
      → tick.version ≡ version_by first edits tick.version.edits tick.number
      → tick.version.edits ≤ high
      → AreGrown first edits low (ticks ++ tick ∷ []) high
  grown_one_more edits low [] tick high grown is within = (grown, is, within)
  grown_one_more edits low (t ∷ ticks) tick high grown is within =
      (grown.0, grown.1, grown_one_more edits t.version.edits ticks tick high grown.2 is within)
