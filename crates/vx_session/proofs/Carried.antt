-- Requests that were carried out one after another, each with the pass of its seat.
use Rattle.std.proofs.Common.{◌≡◌, ◌≢◌, ◌⊎◌, inl, inr, ℕ, ◌+◌, ◌<◌, true, false, cond, eqb, List, [], ◌∷◌, ◌++◌, length, map, set, get_or, take, Result, refl, sym, ap, ◌∙◌, subst, arith, append-nil}
use Rattle.std.proofs.Math.Seq.{map-set_same}
use Rattle.std.proofs.lemmas.Bool.Decides.{eqb_tells}
use Rattle.std.proofs.lemmas.Grind.{get_or-set_at}
use Rattle.std.proofs.lemmas.List.{get_or-map, get_or-set_other, get_or_default, length-map, length-set, length-take-le, map-set}
use Rattle.vx_geom.specs.Sizes.{Sizes, sector_of}
use Rattle.vx_sector.specs.Commands.{place_of}
use Rattle.vx_sector.specs.declared.reply.Reply.{Reply}
use Rattle.vx_sector.specs.declared.refusal.Refusal.{Refusal}
use Rattle.vx_session.specs.Traces.{IsCalled}
use Rattle.vx_session.specs.Blocks.{asked_of, calls_of, answers_to, AreCalled, AreCarriedOut}
use Rattle.vx_session.specs.Sessions.{PassData}
use Rattle.vx_session.specs.declared.request.Request.{Request}
use Rattle.vx_session.proofs.Requested.{answers_next, as_many, asked_more, asked_still, calls_more, called_more}

-- before any was carried out each pass is as it was
pub none_carried : (sizes : Sizes) (passes : List PassData) → AreCarriedOut sizes [] [] passes passes
none_carried sizes passes = record { count = refl; called = λ k d within. refl }

-- at the next request, the pass of its seat has made the call that is asked for
one_carried : (sizes : Sizes) (requests : List Request) (i : ℕ) (d : Request) (answers : List (Result Reply Refusal)) (a : Result Reply Refusal)
    (old now : List PassData) (seat : ℕ) (was is : PassData)
    → i < length requests → seat ≡ (get_or requests i d).seat → length answers ≡ i
    → AreCarriedOut sizes (take i requests) answers old now
    → seat < length now → was ≡ get_or now seat was
    → IsCalled (sector_of sizes (place_of (get_or requests i d).cmd)) was.lists (record { cmd = (get_or requests i d).cmd; answer = a }) is.lists
    → AreCarriedOut sizes (take (i + 1) requests) (answers ++ a ∷ []) old (set now seat is)
one_carried sizes requests i d answers a old now seat was is within own many carried there here called = record {
  count = length-set now seat is ∙ carried.count;
  called = λ k e below. of_seat k e below (eqb_tells seat k);
}
  where
    r : Request
    r = get_or requests i d

    front : List Request
    front = take i requests

    even : length answers ≡ length front
    even = many ∙ sym (length-take-le i requests (omega (arith, within)))

    of_seat : (k : ℕ) (e : PassData) → k < length old
        → ((eqb seat k ≡ true) × (seat ≡ k)) ⊎ ((eqb seat k ≡ false) × (seat ≢ k))
        → AreCalled sizes (get_or old k e).lists
        (calls_of (asked_of k (take (i + 1) requests)) (answers_to k (take (i + 1) requests) (answers ++ a ∷ [])))
        (get_or (set now seat is) k e).lists
    of_seat k e below (inl one) =
        let below_now : k < length now = omega (arith, below, carried.count) in
        let before : get_or now k e ≡ was = get_or_default now k e was below_now ∙ ap (λ n. get_or now n was) (sym one.1) ∙ sym here in
        let after : get_or (set now seat is) k e ≡ is = get_or-set_at now seat k is e (sym one.1) there in
        let asked = asked_more k i requests d within (sym own ∙ one.1) in
        let told : answers_to k (take (i + 1) requests) (answers ++ a ∷ []) ≡ answers_to k front answers ++ a ∷ [] =
        answers_next k i requests d answers a seat within own many ∙ ap (λ b. answers_to k front answers ++ cond b (a ∷ []) []) one.0 in
        let calls = (λ j. calls_of (asked j) (told j)) ∙ calls_more (asked_of k front) (answers_to k front answers) r a (as_many k front answers even) in
        let last = subst (λ (p : PassData). IsCalled (sector_of sizes (place_of r.cmd)) p.lists (record { cmd = r.cmd; answer = a }) is.lists) (sym before) called in
        subst (λ cs. AreCalled sizes (get_or old k e).lists cs (get_or (set now seat is) k e).lists) (sym calls)
        (subst (λ (p : PassData). AreCalled sizes (get_or old k e).lists
        (calls_of (asked_of k front) (answers_to k front answers) ++ record { cmd = r.cmd; answer = a } ∷ []) p.lists) (sym after)
        (called_more sizes (get_or old k e).lists (get_or now k e).lists is.lists (calls_of (asked_of k front) (answers_to k front answers))
        (record { cmd = r.cmd; answer = a }) (carried.called k e below) last))
    of_seat k e below (inr other) =
        let after : get_or (set now seat is) k e ≡ get_or now k e = get_or-set_other now seat k is e (λ one. other.1 (sym one)) in
        let asked = asked_still k i requests d within (λ one. other.1 (own ∙ one)) in
        let told : answers_to k (take (i + 1) requests) (answers ++ a ∷ []) ≡ answers_to k front answers =
        answers_next k i requests d answers a seat within own many
        ∙ ap (λ b. answers_to k front answers ++ cond b (a ∷ []) []) other.0 ∙ append-nil (answers_to k front answers) in
        subst (λ cs. AreCalled sizes (get_or old k e).lists cs (get_or (set now seat is) k e).lists) (sym (λ j. calls_of (asked j) (told j)))
        (subst (λ (p : PassData). AreCalled sizes (get_or old k e).lists (calls_of (asked_of k front) (answers_to k front answers)) p.lists) (sym after)
        (carried.called k e below))

-- the same of players who stand in a list of the program's, where f tells what the pass of each has
pub turn_carried : {X : Type 0} (f : X → PassData) (sizes : Sizes) (requests : List Request) (i : ℕ) (d : Request)
    (answers : List (Result Reply Refusal)) (a : Result Reply Refusal) (old : List PassData) (players : List X) (seat : ℕ) (was is : X)
    → i < length requests → seat ≡ (get_or requests i d).seat → length answers ≡ i
    → AreCarriedOut sizes (take i requests) answers old (map f players)
    → seat < length players → was ≡ get_or players seat was
    → IsCalled (sector_of sizes (place_of (get_or requests i d).cmd)) (f (get_or players seat was)).lists
    (record { cmd = (get_or requests i d).cmd; answer = a }) (f is).lists
    → AreCarriedOut sizes (take (i + 1) requests) (answers ++ a ∷ []) old (map f (set players seat is))
turn_carried f sizes requests i d answers a old players seat was is within own many carried there here called =
    subst (AreCarriedOut sizes (take (i + 1) requests) (answers ++ a ∷ []) old) (sym (map-set f players seat is))
    (one_carried sizes requests i d answers a old (map f players) seat (f was) (f is) within own many carried
    (omega (arith, there, length-map players f)) (ap f here ∙ sym (get_or-map f players seat was (f was) there))
    (subst (λ x. IsCalled (sector_of sizes (place_of (get_or requests i d).cmd)) (f x).lists
    (record { cmd = (get_or requests i d).cmd; answer = a }) (f is).lists) (sym here) called))

-- and each keeps his seat
pub seat_stays : {X Y : Type 0} (f : X → Y) (old : List Y) (players : List X) (seat : ℕ) (was is : X)
    → map f players ≡ old → was ≡ get_or players seat was → f is ≡ f was
    → map f (set players seat is) ≡ old
seat_stays f old players seat was is same here kept =
    map-set_same f players seat is was (kept ∙ ap f here) ∙ same
