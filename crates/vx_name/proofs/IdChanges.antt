-- A list of ids out of which one was taken, and then put in anew.
use Rattle.std.proofs.Common.{◌≡◌, ℕ, Bool, true, false, not, cond, bytes_eq, [], ◌∷◌, ◌++◌, None, Some, refl, ap, sym, ◌∙◌}
use Rattle.std.specs.List.{filter}
use Rattle.std.specs.Map.{lookup}
use Rattle.std.specs.Option.{option_or}
use Rattle.std.proofs.lemmas.Cmp.{nat_list_eq_equiv}
use Rattle.std.proofs.lemmas.Map.Entries.{lookup-filter-keys}
use Rattle.std.proofs.lemmas.Slice.Eq.{bytes_eq-Decides}
use Rattle.vx_name.specs.declared.id.Id.{Id}
use Rattle.vx_name.specs.Ids.{same_id}
use Rattle.vx_name.specs.IdParts.{IdList}
use Rattle.vx_name.specs.IdUpdates.{IsUpdated, is_other}

-- a look-up in a list with one entry more
one_more : (test : Id → Bool) (ids : IdList) (entry : Id × ℕ)
    → lookup test (ids ++ entry ∷ []) ≡ option_or (lookup test ids) (cond (test entry.0) (Some entry.1) None)
one_more test [] entry = refl
one_more test (e ∷ ids) entry = by (test e.0) (one_more test ids entry)
  where
    by : (b : Bool) → lookup test (ids ++ entry ∷ []) ≡ option_or (lookup test ids) (cond (test entry.0) (Some entry.1) None)
        → cond b (Some e.1) (lookup test (ids ++ entry ∷ [])) ≡ option_or (cond b (Some e.1) (lookup test ids)) (cond (test entry.0) (Some entry.1) None)
    by true rest = refl
    by false rest = rest

module _ (id : Id) (old : IdList) where
  -- the id has no number, and each other id what it had
  pub taken_out : IsUpdated id None old (filter (is_other id) old)
  taken_out q = lookup-filter-keys (same_id q) (λ k. not (same_id id k)) (not (same_id id q)) alike old ∙ turned (same_id id q)
    where
      alike : (k : Id) → same_id q k ≡ true → not (same_id id k) ≡ not (same_id id q)
      alike k same = ap (λ bytes. not (bytes_eq id.text.bytes bytes)) (sym ((bytes_eq-Decides q.text.bytes k.text.bytes).0 same))

      turned : (b : Bool) → cond (not b) (lookup (same_id q) old) None ≡ cond b None (lookup (same_id q) old)
      turned true = refl
      turned false = refl

  -- the id has this number, and each other id what it had
  pub put_in : (number : ℕ) → IsUpdated id (Some number) old (filter (is_other id) old ++ (id, number) ∷ [])
  put_in number q =
      one_more (same_id q) (filter (is_other id) old) (id, number)
      ∙ ap (λ found. option_or found (cond (same_id q id) (Some number) None)) (taken_out q)
      ∙ ap (λ b. option_or (cond (same_id id q) None (lookup (same_id q) old)) (cond b (Some number) None)) (nat_list_eq_equiv.symm q.text.bytes id.text.bytes)
      ∙ joined (same_id id q) (lookup (same_id q) old)
    where
      joined : (b : Bool) (found : _) → option_or (cond b None found) (cond b (Some number) None) ≡ cond b (Some number) found
      joined true found = refl
      joined false None = refl
      joined false (Some n) = refl
