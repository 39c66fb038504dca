-- Requests that are handed out to the players of their seats.
use Rattle.std.proofs.Common.{◌≡◌, ◌≢◌, ◌⊎◌, inl, inr, ℕ, ◌+◌, ◌<◌, true, false, eqb, List, [], ◌∷◌, ◌++◌, length, map, set, get_or, take, sym, ap, ◌∙◌, arith}
use Rattle.std.proofs.Math.Seq.{map-set_same}
use Rattle.std.proofs.lemmas.Bool.{cases_eq}
use Rattle.std.proofs.lemmas.Bool.Decides.{eqb_tells}
use Rattle.std.proofs.lemmas.Grind.{get_or-set_at}
use Rattle.std.proofs.lemmas.List.{get_or-set_other, get_or_default, length-map, length-set, map-set}
use Rattle.vx_session.specs.Blocks.{PlayerData, asked_of, AreAsked, HavePasses}
use Rattle.vx_session.specs.declared.request.Request.{Request}
use Rattle.vx_session.proofs.Requested.{asked_more, asked_still}
use Rattle.vx_session.proofs.Told.{pass_of, seen_there}

-- a player in whose place one stands with the same pass
pub passes_stay : {X : Type 0} (f : X → PlayerData) (old : List PlayerData) (players : List X) (seat : ℕ) (was is : X)
    → HavePasses old (map f players) → seat < length players → was ≡ get_or players seat was → (f is).pass ≡ (f was).pass
    → HavePasses old (map f (set players seat is))
passes_stay f old players seat was is have there here same =
    ap (map pass_of) (map-set f players seat is)
    ∙ map-set_same pass_of (map f players) seat (f is) (f was) (same ∙ ap pass_of (seen_there f players seat was there here)) ∙ have

-- of the player of each place before that one nothing is asked
abbrev pub AreIdle : ℕ → List PlayerData → Type 0
AreIdle n players = (k : ℕ) (d : PlayerData) → k < n → k < length players → (get_or players k d).asked ≡ []

-- nor of one more
pub one_idle : {X : Type 0} (f : X → PlayerData) (players : List X) (i : ℕ) (is : X)
    → AreIdle i (map f players) → i < length players → (f is).asked ≡ []
    → AreIdle (i + 1) (map f (set players i is))
one_idle f players i is idle there none k d below within =
    ap (λ (ps : List PlayerData). (get_or ps k d).asked) (map-set f players i is) ∙ by (cases_eq k i)
  where
    now : List PlayerData
    now = map f players

    in_now : k < length now
    in_now = omega (arith, within, length-map (set players i is) f, length-set players i is, length-map players f)

    by : (k ≡ i) ⊎ (k ≢ i) → (get_or (set now i (f is)) k d).asked ≡ []
    by (inl same) = ap (λ (p : PlayerData). p.asked) (get_or-set_at now i k (f is) d same (omega (arith, there, length-map players f))) ∙ none
    by (inr apart) = ap (λ (p : PlayerData). p.asked) (get_or-set_other now i k (f is) d apart) ∙ idle k d (omega (arith, below, apart)) in_now

-- one request more was handed out
pub one_asked : {X : Type 0} (f : X → PlayerData) (requests : List Request) (i : ℕ) (d : Request) (players : List X) (seat : ℕ) (was is : X)
    → i < length requests → seat ≡ (get_or requests i d).seat
    → AreAsked (take i requests) (map f players)
    → seat < length players → was ≡ get_or players seat was
    → (f is).asked ≡ (f (get_or players seat was)).asked ++ get_or requests i d ∷ []
    → AreAsked (take (i + 1) requests) (map f (set players seat is))
one_asked f requests i d players seat was is within own asked there here more k e below =
    ap (λ (ps : List PlayerData). (get_or ps k e).asked) (map-set f players seat is) ∙ by (eqb_tells seat k)
  where
    now : List PlayerData
    now = map f players

    in_now : k < length now
    in_now = omega (arith, below, length-map (set players seat is) f, length-set players seat is, length-map players f)

    in_seats : seat < length now
    in_seats = omega (arith, there, length-map players f)

    by : ((eqb seat k ≡ true) × (seat ≡ k)) ⊎ ((eqb seat k ≡ false) × (seat ≢ k))
        → (get_or (set now seat (f is)) k e).asked ≡ asked_of k (take (i + 1) requests)
    by (inl one) =
        let before : get_or now k e ≡ f was =
        get_or_default now k e (f was) in_now ∙ ap (λ n. get_or now n (f was)) (sym one.1) ∙ sym (seen_there f players seat was there here) in
        ap (λ (p : PlayerData). p.asked) (get_or-set_at now seat k (f is) e (sym one.1) in_seats) ∙ more
        ∙ ap (λ x. (f x).asked ++ get_or requests i d ∷ []) (sym here)
        ∙ ap (λ (p : PlayerData). p.asked ++ get_or requests i d ∷ []) (sym before)
        ∙ ap (λ qs. qs ++ get_or requests i d ∷ []) (asked k e in_now)
        ∙ sym (asked_more k i requests d within (sym own ∙ one.1))
    by (inr other) =
        ap (λ (p : PlayerData). p.asked) (get_or-set_other now seat k (f is) e (λ one. other.1 (sym one)))
        ∙ asked k e in_now ∙ sym (asked_still k i requests d within (λ one. other.1 (own ∙ one)))
