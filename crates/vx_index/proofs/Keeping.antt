-- How many verdicts are kept after one was put or asked for.
use Rattle.std.proofs.Common.{◌≡◌, suc, ◌+◌, ◌-◌, ◌≤◌, Bool, true, false, cond, [], ◌∷◌, take, length, Option, Some, None, IfSome, Result, Ok, Err, OnOk, OnErr, refl, sym, subst, arith}
use Rattle.std.specs.Option.{option_map_or}
use Rattle.std.specs.Map.{lookup_entry, remove_entry}
use Rattle.std.specs.Prelude.{Box}
use Rattle.std.specs.declared.alloc.Global.{Global}
use Rattle.std.proofs.lemmas.List.{length-take}
use Rattle.lru.specs.LruCache.{LruCache, lru_cache, promoted, put_entries}
use Rattle.vx_decide.specs.declared.verdict.Verdict.{Verdict}
use Rattle.vx_index.specs.Verdicts.{KeepsFew, Verdicts}
use Rattle.vx_index.specs.declared.asked.Asked.{Asked}
use Rattle.vx_index.specs.declared.kept.TheConstants.{MAX_KEPT}

-- without an entry that is there a list has one less
one_less : (test : Asked → Bool) (es : Verdicts) (e : Asked × Verdict) → lookup_entry test es ≡ Some e → length (remove_entry test es) + 1 ≡ length es
one_less test [] e found = cc
one_less test (f ∷ es) e found = by (test f.0) found (one_less test es e)
  where
    by : (b : Bool) → cond b (Some f) (lookup_entry test es) ≡ Some e
        → (lookup_entry test es ≡ Some e → length (remove_entry test es) + 1 ≡ length es)
        → length (cond b es (f ∷ remove_entry test es)) + 1 ≡ suc (length es)
    by true found rest = omega arith
    by false found rest = omega (arith, rest found)

-- so as many are kept where one of them goes first
few_promoted : (test : Asked → Bool) (es : Verdicts) → length es ≤ MAX_KEPT → length (promoted test es) ≤ MAX_KEPT
few_promoted test es few = by (lookup_entry test es) refl
  where
    by : (o : Option (Asked × Verdict)) → lookup_entry test es ≡ o → length (option_map_or (λ e. e ∷ remove_entry test es) o es) ≤ MAX_KEPT
    by None is = few
    by (Some e) is = omega (arith, one_less test es e is, few)

-- and no more than there is room for where one is put
few_put : (eq : Asked → Asked → Bool) (cache : LruCache Asked Verdict) (asked : Asked) (v : Verdict) → KeepsFew cache
    → length (put_entries eq cache asked v) ≤ MAX_KEPT
few_put eq cache asked v keeps = by (lookup_entry (eq asked) cache.entries) refl
  where
    by : (o : Option (Asked × Verdict)) → lookup_entry (eq asked) cache.entries ≡ o
        → length (option_map_or (λ e. (e.0, v) ∷ remove_entry (eq asked) cache.entries) o ((asked, v) ∷ take (cache.cap - 1) cache.entries)) ≤ MAX_KEPT
    by None is = omega (arith, length-take (cache.cap - 1) cache.entries, keeps.room)
    by (Some e) is = omega (arith, one_less (eq asked) cache.entries e is, keeps.few)

-- where one is kept it is one of these
pub if_kept : (kept : Option (Box (LruCache Asked Verdict) Global)) (cache : Box (LruCache Asked Verdict) Global) → Some cache ≡ kept
    → IfSome kept (λ c. KeepsFew c.value) → KeepsFew cache.value
if_kept kept cache is keeps = subst (λ o. IfSome o (λ (c : Box (LruCache Asked Verdict) Global). KeepsFew c.value)) (sym is) keeps

pub still_few : (test : Asked → Bool) (old new : LruCache Asked Verdict) → new ≡ lru_cache (promoted test old.entries) old.cap → KeepsFew old → KeepsFew new
still_few test old new is keeps = subst KeepsFew (sym is) (record {
  room = keeps.room;
  few = few_promoted test old.entries keeps.few;
})

-- so few are kept by a cache that was told to keep one, whether it did or not
pub few_after : {T E : Type 0} (eq : Asked → Asked → Bool) (old new : LruCache Asked Verdict) (asked : Asked) (v : Verdict) (r : Result T E)
    → OnOk r (new ≡ lru_cache (put_entries eq old asked v) old.cap) → OnErr r (new ≡ old) → KeepsFew old → KeepsFew new
few_after eq old new asked v (Ok x) done not keeps = subst KeepsFew (sym done) (record {
  room = keeps.room;
  few = few_put eq old asked v keeps;
})
few_after eq old new asked v (Err x) done not keeps = subst KeepsFew (sym not) keeps
