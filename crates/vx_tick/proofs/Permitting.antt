-- The claims of the moves that the policy permits.
use Rattle.std.proofs.Common.{◌≡◌, ℕ, ◌+◌, ◌<◌, pos, Bool, true, false, not, List, [], ◌∷◌, ◌++◌, cond, length, map, take, get_or, Option, Some, None, is_some, refl, sym, ap, ◌∙◌, subst}
use Rattle.std.specs.List.{filter}
use Rattle.std.specs.Option.{is_none}
use Rattle.std.proofs.lemmas.Bool.{false≢true, true≢false}
use Rattle.std.proofs.lemmas.List.{take_more, get_or-map}
use Rattle.vx_geom.specs.declared.dir.Dir.TheVariants.{East}
use Rattle.vx_geom.specs.declared.pos.Pos.{Pos}
use Rattle.vx_region.specs.Regions.{Regions}
use Rattle.vx_decide.specs.declared.rule.Rule.{Rule}
use Rattle.vx_power.specs.Levels.{has}
use Rattle.vx_piston.specs.Claims.{IsTable}
use Rattle.vx_piston.specs.Moves.{Moving}
use Rattle.vx_piston.proofs.Wanted.{Claimed, table_with_last}
use Rattle.vx_cause.specs.Judging.{denial}
use Rattle.vx_cause.specs.Laws.{permitted}

-- one element more, of which the test is known
filter_more : {X : Type 0} (test : X → Bool) (xs : List X) (x : X) (b : Bool) → test x ≡ b
    → filter test (xs ++ (x ∷ [])) ≡ cond b (filter test xs ++ (x ∷ [])) (filter test xs)
filter_more test [] x true passes = ap (λ c. cond c (x ∷ []) []) passes
filter_more test [] x false passes = ap (λ c. cond c (x ∷ []) []) passes
filter_more test (y ∷ ys) x true passes =
    ap (λ zs. cond (test y) (y ∷ zs) zs) (filter_more test ys x true passes) ∙ on (test y)
  where
    on : (c : Bool) → cond c (y ∷ (filter test ys ++ (x ∷ []))) (filter test ys ++ (x ∷ []))
        ≡ cond c (y ∷ filter test ys) (filter test ys) ++ (x ∷ [])
    on true = refl
    on false = refl
filter_more test (y ∷ ys) x false passes =
    ap (λ zs. cond (test y) (y ∷ zs) zs) (filter_more test ys x false passes)

-- a move of nothing, for positions past the end of a list
unmoved : Moving
unmoved = record { at = record { y = pos 0; z = pos 0; x = pos 0 }; facing = East; push = false; cells = [] }

is_none_as : {X : Type 0} (o : Option X) (b : Bool) → is_some o ≡ not b → is_none o ≡ b
is_none_as None true told = refl
is_none_as None false told = absurd (false≢true told)
is_none_as (Some x) true told = absurd (true≢false told)
is_none_as (Some x) false told = refl

module _ (rs : Regions) (moves : List Moving) (denials : List (Option (Pos × Rule))) (i : ℕ)
    (inside : i < length moves) (known : denials ≡ map (denial rs) moves) where
  -- what denies a move stands at its index
  pub denial_at : (m : Moving) → get_or denials i None ≡ denial rs (get_or moves i m)
  denial_at m =
      ap (λ all. get_or all i None) known ∙ get_or-map (denial rs) moves i m None inside

  permitted_as : (m : Moving) (b : Bool) → is_some (get_or denials i None) ≡ not b
      → permitted rs (take (i + 1) moves)
      ≡ cond b (permitted rs (take i moves) ++ (get_or moves i m ∷ [])) (permitted rs (take i moves))
  permitted_as m b told =
      ap (permitted rs) (take_more moves i m inside)
      ∙ filter_more (λ x. is_none (denial rs x)) (take i moves) (get_or moves i m) b
      (is_none_as _ b (ap (λ o. is_some o) (sym (denial_at m)) ∙ told))

  -- a permitted move claims
  pub table_claimed : (m : Moving) (old new : List (Pos × Pos)) → m ≡ get_or moves i m
      → is_some (get_or denials i None) ≡ not true → IsTable (permitted rs (take i moves)) old
      → Claimed (has m.cells) m.at old new → IsTable (permitted rs (take (i + 1) moves)) new
  table_claimed m old new item told before now =
      subst (λ claims. IsTable claims new)
      (sym (permitted_as m true told ∙ ap (λ last. permitted rs (take i moves) ++ (last ∷ [])) (sym item)))
      (table_with_last (permitted rs (take i moves)) m old new before now)

  -- and one that is denied does not
  pub table_stays : (table : List (Pos × Pos)) → is_some (get_or denials i None) ≡ not false
      → IsTable (permitted rs (take i moves)) table
      → IsTable (permitted rs (take (i + 1) moves)) table
  table_stays table told before =
      subst (λ claims. IsTable claims table) (sym (permitted_as unmoved false told)) before
