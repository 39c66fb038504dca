-- Edits that a loop adds for one value after another.
use Rattle.std.proofs.Common.{◌≡◌, ◌<◌, ◌+◌, ℕ, List, [], ◌∷◌, ◌++◌, length, map, drop, get_or, Option, Some, None, sym, ap, ◌∙◌, add-one, drop-cons}
use Rattle.std.proofs.lemmas.List.{append_assoc, append-nil}
use Rattle.vx_base.specs.Then.{◌>>=◌}
use Rattle.vx_policy.specs.Asked.{Asked}
use Rattle.vx_file.specs.FileReads.{behind}
use Rattle.vx_file.specs.FileValues.{joined}

-- what one value means, and then what the others do
abbrev then_others : Option (List Asked) → Option (List Asked) → Option (List Asked)
then_others o others = do
  xs ← o
  more ← others
  Some (xs ++ more)

-- once the edits of one value are added, what is left means those that are missing still
one_added : (before next : List Asked) (o others whole : Option (List Asked)) → behind before o ≡ Some next
    → behind before (then_others o others) ≡ whole → behind next others ≡ whole
one_added before next None others whole added so_far = cc
one_added before next (Some xs) None whole added so_far = so_far
one_added before next (Some xs) (Some more) whole added so_far =
    let same : before ++ xs ≡ next = cc in
    ap (λ es. Some (es ++ more)) (sym same) ∙ ap Some (append_assoc before xs more) ∙ so_far

-- what is left begins with the next
pub next_left : {X : Type 0} (xs : List X) (i : ℕ) (x : X) → i < length xs → x ≡ get_or xs i x → drop i xs ≡ x ∷ drop (i + 1) xs
next_left xs i x within is = rw add-one (drop-cons xs i x within) ∙ ap (λ y. y ∷ drop (i + 1) xs) (sym is)

-- by what f means of each of these, which are left
module _ {V : Type 0} (f : V → Option (List Asked)) (before initial : List Asked) (vs : List V) (all : Option (List Asked))
    (so_far : behind before (joined (map f vs)) ≡ behind initial all) where
  -- a turn that added what its value means
  pub turned : (v : V) (rest : List V) → vs ≡ v ∷ rest → (next : List Asked) → behind before (f v) ≡ Some next
      → behind next (joined (map f rest)) ≡ behind initial all
  turned v rest left next added =
      one_added before next (f v) (joined (map f rest)) (behind initial all) added
      (ap (λ ws. behind before (joined (map f ws))) (sym left) ∙ so_far)

  -- no value is left
  pub all_added : vs ≡ [] → behind initial all ≡ Some before
  all_added ended = sym so_far ∙ ap (λ ws. behind before (joined (map f ws))) ended ∙ ap Some (append-nil before)
