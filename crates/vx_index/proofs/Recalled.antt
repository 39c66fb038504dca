-- Questions that are equal by `==` ask the same, and what is kept of verdicts stays what the regions say.
use Rattle.std.proofs.Common.{◌≡◌, ◌⊎◌, inl, inr, Bool, true, ◌&&◌, bytes_eq, Contains, Option, Some, None, IfSome, Result, Ok, Err, OnOk, OnErr, ap, sym, subst, ◌∙◌, rules}
use Rattle.std.proofs.lemmas.Bool.{and_parts}
use Rattle.std.proofs.lemmas.Slice.Eq.{bytes_eq-Decides}
use Rattle.std.specs.Cmp.{signed_Decides}
use Rattle.std.specs.declared.alloc.Global.{Global}
use Rattle.std.specs.Map.{lookup}
use Rattle.std.specs.Prelude.{Box}
use Rattle.std.specs.Ordering.{int_eq}
use denote.Enum.Bare.{sameb, same_true}
use Rattle.lru.proofs.CallerLemmas.{Contains-lookup, Contains-put_entries}
use Rattle.lru.specs.LruCache.{LruCache, lru_cache, put_entries}
use Rattle.vx_decide.specs.Verdict.{verdict}
use Rattle.vx_decide.specs.declared.verdict.Verdict.{Verdict}
use Rattle.vx_flag.specs.contracts.action.Action.{the_type}
use Rattle.vx_geom.proofs.Positions.{same_pos}
use Rattle.vx_geom.specs.declared.pos.Pos.{Pos}
use Rattle.vx_index.specs.Verdicts.{AreVerdicts, Verdicts, kept_verdicts, verdict_on}
use Rattle.vx_index.specs.SameAsked.{IsSameAsked}
use Rattle.vx_index.specs.declared.asked.Asked.{Asked}
use Rattle.vx_region.specs.Regions.{Regions}
use Rattle.vx_region.specs.Subjects.{Named}

-- two places are the same by `==`
abbrev same_place : Pos → Pos → Bool
same_place a b = int_eq a.y b.y && (int_eq a.z b.z && int_eq a.x b.x)

-- they are one place then
place_is : (a b : Pos) → same_place a b ≡ true → a ≡ b
place_is a b same =
    let y = and_parts (int_eq a.y b.y) _ same in
    let zx = and_parts (int_eq a.z b.z) (int_eq a.x b.x) y.1 in
    same_pos a b ((signed_Decides a.y b.y).0 y.0) ((signed_Decides a.z b.z).0 zx.0) ((signed_Decides a.x b.x).0 zx.1)

-- two questions are the same by `==`
abbrev pub same_asked : Asked → Asked → Bool
same_asked a b = bytes_eq a.name.text.bytes b.name.text.bytes && (sameb the_type a.action b.action && same_place a.place b.place)

-- they ask the same then
pub asked_alike : (a b : Asked) → same_asked a b ≡ true → IsSameAsked a b
asked_alike a b same =
    let name = and_parts (bytes_eq a.name.text.bytes b.name.text.bytes) _ same in
    let rest = and_parts (sameb the_type a.action b.action) (same_place a.place b.place) name.1 in
    record {
      name = sym ((bytes_eq-Decides a.name.text.bytes b.name.text.bytes).0 name.0);
      action = sym (same_true the_type (search rules) a.action b.action rest.0);
      place = sym (place_is a.place b.place rest.1);
    }

-- a question asks the same as itself
own_alike : (a b : Asked) → b ≡ a → IsSameAsked a b
own_alike a b same = record {
  name = ap (λ (q : Asked). q.name.text.bytes) same;
  action = ap (λ (q : Asked). q.action) same;
  place = ap (λ (q : Asked). q.place) same;
}

-- a verdict that is found under a question was kept for one that asks the same
pub found_alike : (es : Verdicts) (asked : Asked) (found : Option Verdict) → found ≡ lookup (same_asked asked) es
    → IfSome found (λ v. (same : Asked) × Contains es (same, v) × IsSameAsked asked same)
found_alike es asked None is = tt
found_alike es asked (Some v) is =
    let there = Contains-lookup (same_asked asked) es v (sym is) in
    (there.0, there.1, asked_alike asked there.0 there.2)

-- a verdict that is there after one was put was there, or is the one that was put
pub put_alike : (c : LruCache Asked Verdict) (asked : Asked) (v : Verdict) (e : Asked × Verdict) → Contains (put_entries same_asked c asked v) e
    → Contains c.entries e ⊎ ((e.1 ≡ v) × IsSameAsked asked e.0)
put_alike c asked v e there = elim (Contains-put_entries same_asked c asked v e there) [
  | inl was ↦ inl was
  | inr put ↦ inr (
    put.0,
    elim put.1 [
      | inl same ↦ own_alike asked e.0 same
      | inr found ↦ asked_alike asked e.0 found.2
    ],
  )
]

-- so is each that is there after a cache was told to keep one, whether it did or not
pub after_put : {T E : Type 0} (old new : LruCache Asked Verdict) (asked : Asked) (v : Verdict) (r : Result T E)
    → OnOk r (new ≡ lru_cache (put_entries same_asked old asked v) old.cap) → OnErr r (new ≡ old) → (e : Asked × Verdict) → Contains new.entries e
    → Contains old.entries e ⊎ ((e.1 ≡ v) × IsSameAsked asked e.0)
after_put old new asked v (Ok x) done not e there =
    put_alike old asked v e (subst (λ (cache : LruCache Asked Verdict). Contains cache.entries e) done there)
after_put old new asked v (Err x) done not e there =
    inl (subst (λ (cache : LruCache Asked Verdict). Contains cache.entries e) not there)

-- what a cache has is what is kept
pub entries_are : (kept : Option (Box (LruCache Asked Verdict) Global)) (cache : Box (LruCache Asked Verdict) Global) → Some cache ≡ kept
    → cache.value.entries ≡ kept_verdicts kept
entries_are kept cache is = ap kept_verdicts is

-- what asks the same has the same verdict
alike_verdict : (rs : Regions) (a b : Asked) → IsSameAsked a b → verdict_on rs b ≡ verdict_on rs a
alike_verdict rs a b alike = λ i. verdict rs (Named (alike.name i)) (alike.action i) (alike.place i)

-- the verdict that is kept of what asks the same is the one by these regions
pub recalled : (rs : Regions) (vs : Verdicts) (asked same : Asked) (v : Verdict) → AreVerdicts rs vs → Contains vs (same, v) → IsSameAsked asked same
    → v ≡ verdict_on rs asked
recalled rs vs asked same v right there alike = right (same, v) there ∙ alike_verdict rs asked same alike

-- some of right verdicts are right
pub some_right : (rs : Regions) (old new : Verdicts) → AreVerdicts rs old → ((e : Asked × Verdict) → Contains new e → Contains old e) → AreVerdicts rs new
some_right rs old new right among = λ e there. right e (among e there)

-- so they are with one right verdict more
pub one_more_right : (rs : Regions) (old new : Verdicts) (asked : Asked) (v : Verdict) → AreVerdicts rs old → v ≡ verdict_on rs asked
    → ((e : Asked × Verdict) → Contains new e → Contains old e ⊎ ((e.1 ≡ v) × IsSameAsked asked e.0)) → AreVerdicts rs new
one_more_right rs old new asked v right is among = λ e there. elim (among e there) [
  | inl was ↦ right e was
  | inr put ↦ put.0 ∙ is ∙ sym (alike_verdict rs asked e.0 put.1)
]
