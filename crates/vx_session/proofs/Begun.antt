-- What a session begins with.
use Rattle.std.proofs.Common.{◌≡◌, ℕ, ◌<◌, ◌≤◌, ◌⊎◌, List, [], get_or, replicate, ◌∙◌, ap, sym, inl, inr, arith}
use Rattle.std.specs.List.{All}
use Rattle.std.proofs.lemmas.Bool.{cases_lt}
use Rattle.std.proofs.lemmas.List.{get_or-replicate, get_or_past, length-replicate}
use Rattle.std.proofs.lemmas.Option.{get_or_from_slice_get, slice_get_within}
use Rattle.vx_geom.specs.Sizes.{Sizes}
use Rattle.vx_record.specs.declared.call.Call.{Call}
use Rattle.vx_session.specs.Sessions.{PassData, AreSaid}

-- of so many empty lists each is empty, and nothing is read past their end
none_at : (n k : ℕ) → get_or (replicate {A = List Call} n []) k [] ≡ []
none_at n k = of_place (cases_lt k n)
  where
    of_place : (k < n) ⊎ (n ≤ k) → get_or (replicate {A = List Call} n []) k [] ≡ []
    of_place (inl within) = get_or-replicate n k [] [] within
    of_place (inr past) =
        get_or_past (replicate n []) k [] (omega (arith, past, length-replicate {A = List Call} n []))

-- passes with empty lists have what no deed says
pub nothing_said : (sizes : Sizes) (sectors all : ℕ) (passes : List PassData)
    → All (λ (pass : PassData). pass.lists ≡ replicate all []) passes → AreSaid sizes sectors [] passes
nothing_said sizes sectors all passes empty seat k pass found below =
    let here : get_or passes seat pass ≡ pass = get_or_from_slice_get passes seat pass pass found in
    let lists : pass.lists ≡ replicate all [] =
    ap (λ (p : PassData). p.lists) (sym here) ∙ empty seat pass (slice_get_within passes seat pass found) in
    ap (λ ls. get_or ls k []) lists ∙ none_at all k
