-- The first cause that stands against an edit.
use Rattle.std.proofs.Common.{◌≡◌, ◌↔◌, Bool, true, false, cond, List, [], ◌∷◌, ◌++◌, find, Some, None, refl, ap, ◌∙◌}
use Rattle.std.specs.List.{list_any}
use Rattle.vx_base.proofs.Lists.{IsFirst, first_found}
use Rattle.vx_region.specs.Regions.{Regions}
use Rattle.vx_policy.specs.Asked.{Asked}
use Rattle.vx_policy.specs.Laws.{IsFirstCause}
use Rattle.vx_policy.specs.Refusals.{holds, causes, refusal}
use Rattle.vx_policy.specs.declared.edit_refusal.EditRefusal.{EditRefusal}
use Rattle.vx_policy.proofs.Accepted.{neither, nothing_against}

-- behind such as do not pass, the first that does is found
found_behind : {X : Type 0} (p : X → Bool) (front rest : List X) (x : X) → list_any p front ≡ false → p x ≡ true → find p (front ++ x ∷ rest) ≡ Some x
found_behind p [] rest x none passes = ap (λ b. cond b (Some x) (find p rest)) passes
found_behind p (y ∷ front) rest x none passes =
    let both = neither (p y) (list_any p front) none in
    ap (λ b. cond b (Some y) (find p (front ++ x ∷ rest))) both.0 ∙ found_behind p front rest x both.1 passes

-- where nothing passes, nothing is found
none_where : {X : Type 0} (p : X → Bool) (xs : List X) → ((x : X) → p x ≡ false) → find p xs ≡ None
none_where p [] fails = refl
none_where p (x ∷ xs) fails = ap (λ b. cond b (Some x) (find p xs)) (fails x) ∙ none_where p xs fails

-- an edit is refused for the first cause that stands against it
pub refused_by_the_first : (rs : Regions) (e : Asked) (c : EditRefusal) → (refusal rs e ≡ Some c) ↔ IsFirstCause rs e c
unfolding refusal
refused_by_the_first rs e c = (λ refused. is_first (first_found (holds rs e) causes c refused), λ first. is_found first)
  where
    is_first : IsFirst (holds rs e) causes c → IsFirstCause rs e c
    is_first first = record { before = first.front; behind = first.rest; order = first.parts; none_before = first.none_before; stands = first.passes }

    is_found : IsFirstCause rs e c → find (holds rs e) causes ≡ Some c
    is_found first = ap (find (holds rs e)) first.order ∙ found_behind (holds rs e) first.before first.behind c first.none_before first.stands

-- it is accepted where no cause stands against it
pub accepted_without_cause : (rs : Regions) (e : Asked) → (refusal rs e ≡ None) ↔ ((c : EditRefusal) → holds rs e c ≡ false)
unfolding refusal
accepted_without_cause rs e = (nothing_against rs e, none_where (holds rs e) causes)
