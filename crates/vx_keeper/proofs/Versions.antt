-- Versions by edits, with more edits and with one tick more.
use Rattle.std.proofs.Common.{◌≡◌, ℕ, ◌+◌, ◌≤◌, List, [], ◌∷◌, ◌++◌, length, length-append, sym, ap, ◌∙◌, subst, arith}
use mathlib.Core.List.{IsPrefix}
use Rattle.std.proofs.Math.Seq.{take-length}
use Rattle.std.proofs.lemmas.List.{length_push, take-append-le}
use Rattle.vx_region.specs.Regions.{Regions}
use Rattle.vx_policy.specs.Asked.{Asked}
use Rattle.vx_policy.specs.Edits.{after, AreAccepted}
use Rattle.vx_policy.specs.declared.version.Version.{Version}
use Rattle.vx_record.specs.Chronicles.{TickData, AreGrown, version_by}
use Rattle.vx_record.proofs.Growing.{no_fewer, grown_one_more}
use Rattle.vx_keeper.specs.Keepers.{AreByEdits}

module _ (first : Regions) where
  -- further edits change no version
  same_version : (edits more : List Asked) (count n : ℕ) → count ≤ length edits
      → version_by first (edits ++ more) count n ≡ version_by first edits count n
  same_version edits more count n within =
      ap (λ es. record { tick = n; edits = count; policy = after first es })
      (take-append-le count edits more within)

  still_grown : (edits more : List Asked) (low : ℕ) (ticks : List TickData) (high : ℕ)
      → high ≤ length edits → AreGrown first edits low ticks high
      → AreGrown first (edits ++ more) low ticks high
  still_grown edits more low [] high within grown = grown
  still_grown edits more low (t ∷ ticks) high within grown =
      let count : t.version.edits ≤ length edits =
      omega (arith, no_fewer first edits t.version.edits ticks high grown.2, within) in (
        grown.0,
        grown.1 ∙ sym (same_version edits more t.version.edits t.number count),
        still_grown edits more t.version.edits ticks high within grown.2,
      )

  -- the versions are by more edits too
  pub edits_more : (edits later : List Asked) (ticks : List TickData) (v : Version) → IsPrefix edits later
      → AreAccepted first later → AreByEdits first edits ticks v → AreByEdits first later ticks v
  edits_more edits later ticks v more accepted are =
      subst (λ es. AreAccepted first es → AreByEdits first es ticks v) more.1
      (λ accepted. record {
        accepted = accepted;
        begins = are.begins;
        grown = still_grown edits more.0 0 ticks v.edits are.within are.grown;
        last = are.last ∙ sym (same_version edits more.0 v.edits (length ticks + 1) are.within);
        within = omega (arith, are.within, length-append edits more.0);
      })
      accepted

  -- so are they with one tick more, which the version judges, where the next one is by all edits
  pub one_tick_more : (edits : List Asked) (ticks : List TickData) (tick : TickData)
      → AreByEdits first edits ticks tick.version → tick.number ≡ length ticks + 1
      → AreByEdits first edits (ticks ++ tick ∷ []) (version_by first edits (length edits) (length ticks + 2))
  one_tick_more edits ticks tick are number =
      let longer : length (ticks ++ tick ∷ []) ≡ length ticks + 1 = length_push ticks tick in
      let after_next : length ticks + 2 ≡ length (ticks ++ tick ∷ []) + 1 = omega (arith, longer) in
      record {
        accepted = are.accepted;
        begins = λ none. absurd (omega (arith, longer, ap length none));
        grown =
            grown_one_more first edits 0 ticks tick (length edits) are.grown
            (are.last ∙ ap (version_by first edits tick.version.edits) (sym number)) are.within;
        last = ap (version_by first edits (length edits)) after_next;
        within = omega arith;
      }

-- versions by as many of these edits are the same but for their numbers
pub same_but_number : (first : Regions) (edits : List Asked) (count n : ℕ) (v w : Version) → v ≡ version_by first edits count n
    → w ≡ version_by first edits w.edits w.tick → w.edits ≡ v.edits → record v { tick = w.tick } ≡ w
same_but_number first edits count n v w is was same =
    let counted : count ≡ w.edits = sym (same ∙ ap (λ (u : Version). u.edits) is) in
    ap (λ (u : Version). record u { tick = w.tick }) is ∙ ap (λ m. version_by first edits m w.tick) counted ∙ sym was

-- the version by all of these edits
pub by_all : (first : Regions) (edits : List Asked) (n : ℕ)
    → record { tick = n; edits = length edits; policy = after first edits } ≡ version_by first edits (length edits) n
by_all first edits n = ap (λ es. record { tick = n; edits = length edits; policy = after first es }) (sym (take-length edits))
