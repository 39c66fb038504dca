-- Answers that players had, told one after another in the order of the requests.
use Rattle.std.proofs.Common.{◌≡◌, ◌≢◌, ◌⊎◌, ℕ, ◌+◌, ◌<◌, true, false, cond, eqb, List, [], ◌∷◌, ◌++◌, length, map, set, get_or, take, Result, refl, sym, ap, ◌∙◌, subst, inl, inr, arith, append-nil, append_assoc, length-append, suc}
use Rattle.std.specs.List.{All}
use Rattle.std.proofs.Math.Seq.{map-set_same}
use Rattle.std.proofs.lemmas.Bool.Decides.{eqb_tells}
use Rattle.std.proofs.lemmas.Grind.{get_or-set_at}
use Rattle.std.proofs.lemmas.List.{get_or-map, get_or-set_other, get_or_default, length-map, length-set, length-take-le, map-set, nil_from_length}
use Rattle.std.proofs.lemmas.Simd.{map-map}
use Rattle.vx_geom.specs.Sizes.{Sizes}
use Rattle.vx_sector.specs.declared.reply.Reply.{Reply}
use Rattle.vx_sector.specs.declared.refusal.Refusal.{Refusal}
use Rattle.vx_session.specs.Blocks.{PlayerData, asked_of, calls_of, answers_to, AreAsked, AreCalled, AreCarriedOut, AreTold, HasPlayed, HaveAllPlayed, HaveAnswers, HavePasses}
use Rattle.vx_session.specs.Sessions.{PassData}
use Rattle.vx_session.specs.declared.request.Request.{Request}
use Rattle.vx_session.proofs.Requested.{answers_next, as_many, asked_left}

-- the pass of a player
abbrev pub pass_of : PlayerData → PassData
pass_of player = player.pass

-- before any was told all are left
pub none_told : (players : List PlayerData) → AreTold [] [] players players
none_told players = record { count = refl; told = λ k d within. refl; passes = refl }

-- at the next request, the player of its seat has told the first answer that he had left
one_told : (requests : List Request) (i : ℕ) (d : Request) (answers : List (Result Reply Refusal)) (a : Result Reply Refusal)
    (old now : List PlayerData) (seat : ℕ) (was is : PlayerData)
    → i < length requests → seat ≡ (get_or requests i d).seat → length answers ≡ i
    → AreTold (take i requests) answers old now
    → seat < length now → was ≡ get_or now seat was
    → is.pass ≡ was.pass → was.answers ≡ a ∷ is.answers
    → AreTold (take (i + 1) requests) (answers ++ a ∷ []) old (set now seat is)
one_told requests i d answers a old now seat was is within own many told there here same first = record {
  count = length-set now seat is ∙ told.count;
  told = λ k e below. told.told k e below ∙ rest k e (omega (arith, below, told.count)) (eqb_tells seat k);
  passes = map-set_same pass_of now seat is was (same ∙ ap pass_of here) ∙ told.passes;
}
  where
    front : List Request
    front = take i requests

    all_told : (k : ℕ) → answers_to k (take (i + 1) requests) (answers ++ a ∷ [])
        ≡ answers_to k front answers ++ cond (eqb seat k) (a ∷ []) []
    all_told k = answers_next k i requests d answers a seat within own many

    rest : (k : ℕ) (e : PlayerData) → k < length now
        → ((eqb seat k ≡ true) × (seat ≡ k)) ⊎ ((eqb seat k ≡ false) × (seat ≢ k))
        → answers_to k front answers ++ (get_or now k e).answers
        ≡ answers_to k (take (i + 1) requests) (answers ++ a ∷ []) ++ (get_or (set now seat is) k e).answers
    rest k e below (inl one) =
        let before : get_or now k e ≡ was = get_or_default now k e was below ∙ ap (λ n. get_or now n was) (sym one.1) ∙ sym here in
        let after : get_or (set now seat is) k e ≡ is = get_or-set_at now seat k is e (sym one.1) there in
        ap (λ (p : PlayerData). answers_to k front answers ++ p.answers) before
        ∙ ap (λ xs. answers_to k front answers ++ xs) first
        ∙ sym (append_assoc (answers_to k front answers) (a ∷ []) is.answers)
        ∙ ap (λ b. (answers_to k front answers ++ cond b (a ∷ []) []) ++ is.answers) (sym one.0)
        ∙ ap (λ xs. xs ++ is.answers) (sym (all_told k))
        ∙ ap (λ (p : PlayerData). answers_to k (take (i + 1) requests) (answers ++ a ∷ []) ++ p.answers) (sym after)
    rest k e below (inr other) =
        let after : get_or (set now seat is) k e ≡ get_or now k e = get_or-set_other now seat k is e (λ one. other.1 (sym one)) in
        ap (λ xs. xs ++ (get_or now k e).answers)
        (sym (append-nil (answers_to k front answers))
        ∙ ap (λ b. answers_to k front answers ++ cond b (a ∷ []) []) (sym other.0) ∙ sym (all_told k))
        ∙ ap (λ (p : PlayerData). answers_to k (take (i + 1) requests) (answers ++ a ∷ []) ++ p.answers) (sym after)

-- the seat of each request is one of these
pub seat_there : (requests : List Request) (i : ℕ) (d : Request) (seat seats all : ℕ)
    → All (λ (r : Request). r.seat < seats) requests → all ≡ seats
    → i < length requests → seat ≡ (get_or requests i d).seat → seat < all
seat_there requests i d seat seats all named same within own = omega (arith, own, same, named i d within)

-- a player in a list of the program's, where f tells what is seen of each, is seen so in what is seen
pub seen_there : {X : Type 0} (f : X → PlayerData) (players : List X) (seat : ℕ) (was : X) → seat < length players
    → was ≡ get_or players seat was → f was ≡ get_or (map f players) seat (f was)
seen_there f players seat was there here = ap f here ∙ sym (get_or-map f players seat was (f was) there)

-- the same of players who stand in such a list
pub turn_told : {X : Type 0} (f : X → PlayerData) (requests : List Request) (i : ℕ) (d : Request) (answers : List (Result Reply Refusal))
    (a : Result Reply Refusal) (old : List PlayerData) (players : List X) (seat : ℕ) (was is : X)
    → i < length requests → seat ≡ (get_or requests i d).seat → length answers ≡ i
    → AreTold (take i requests) answers old (map f players)
    → seat < length players → was ≡ get_or players seat was
    → (f is).pass ≡ (f was).pass → (f was).answers ≡ a ∷ (f is).answers
    → AreTold (take (i + 1) requests) (answers ++ a ∷ []) old (map f (set players seat is))
turn_told f requests i d answers a old players seat was is within own many told there here same first =
    subst (AreTold (take (i + 1) requests) (answers ++ a ∷ []) old) (sym (map-set f players seat is))
    (one_told requests i d answers a old (map f players) seat (f was) (f is) within own many told
    (omega (arith, there, length-map players f)) (seen_there f players seat was there here) same first)

-- he has one left, where there were as many of each seat as requests
pub one_left : {X : Type 0} (f : X → PlayerData) (requests : List Request) (i : ℕ) (d : Request) (answers : List (Result Reply Refusal))
    (old : List PlayerData) (players : List X) (seat : ℕ) (was : X)
    → i < length requests → seat ≡ (get_or requests i d).seat → length answers ≡ i
    → HaveAnswers requests old → AreTold (take i requests) answers old (map f players)
    → seat < length players → was ≡ get_or players seat was
    → 0 < length (f was).answers
one_left f requests i d answers old players seat was within own many all told there here =
    let front = take i requests in
    let below : seat < length old = omega (arith, there, length-map players f, told.count) in
    let even : length answers ≡ length front = many ∙ sym (length-take-le i requests (omega (arith, within))) in
    let left : (get_or old seat (f was)).answers ≡ answers_to seat front answers ++ (f was).answers =
    told.told seat (f was) below
    ∙ ap (λ (p : PlayerData). answers_to seat front answers ++ p.answers) (sym (seen_there f players seat was there here)) in
    let fewer : length (asked_of seat front) < length (asked_of seat requests) =
    subst (λ n. length (asked_of n front) < length (asked_of n requests)) (sym own) (asked_left i requests d within) in
    omega (
      arith,
      all seat (f was) below,
      ap length left,
      length-append (answers_to seat front answers) (f was).answers,
      as_many seat front answers even,
      fewer,
    )

-- in the end all was told: with each pass the requests of its seat were carried out, with these answers
pub carried_out : (sizes : Sizes) (requests : List Request) (answers : List (Result Reply Refusal)) (old now new : List PlayerData)
    → length answers ≡ length requests
    → HaveAllPlayed sizes requests old now → AreTold requests answers now new
    → AreCarriedOut sizes requests answers (map pass_of old) (map pass_of new)
carried_out sizes requests answers old now new even played told = record {
  count = length-map new pass_of ∙ told.count ∙ played.count ∙ sym (length-map old pass_of);
  called = called;
}
  where
    called : (k : ℕ) (d : PassData) → k < length (map pass_of old)
        → AreCalled sizes (get_or (map pass_of old) k d).lists (calls_of (asked_of k requests) (answers_to k requests answers))
        (get_or (map pass_of new) k d).lists
    called k d in_old =
        let p : PlayerData = record { pass = d; asked = []; answers = [] } in
        let below : k < length old = omega (arith, in_old, length-map old pass_of) in
        let below_now : k < length now = omega (arith, below, played.count) in
        let before : get_or (map pass_of old) k d ≡ (get_or old k p).pass = get_or-map pass_of old k p d below in
        let after : get_or (map pass_of new) k d ≡ (get_or now k p).pass =
        ap (λ ps. get_or ps k d) told.passes ∙ get_or-map pass_of now k p d below_now in
        let left = (get_or new k p).answers in
        let had : (get_or now k p).answers ≡ answers_to k requests answers ++ left = told.told k p below_now in
        let own = played.played k p below in
        let none : length left ≡ 0 =
        omega (
          arith,
          own.count,
          ap length had,
          length-append (answers_to k requests answers) left,
          as_many k requests answers even,
        ) in
        let all : (get_or now k p).answers ≡ answers_to k requests answers =
        had ∙ ap (λ xs. answers_to k requests answers ++ xs) (nil_from_length left none) ∙ append-nil (answers_to k requests answers) in
        subst (λ (q : PassData). AreCalled sizes q.lists (calls_of (asked_of k requests) (answers_to k requests answers)) (get_or (map pass_of new) k d).lists)
        (sym before)
        (subst (λ (q : PassData). AreCalled sizes (get_or old k p).pass.lists (calls_of (asked_of k requests) (answers_to k requests answers)) q.lists)
        (sym after)
        (subst (λ xs. AreCalled sizes (get_or old k p).pass.lists (calls_of (asked_of k requests) xs) (get_or now k p).pass.lists)
        all own.called))

-- an element of a list that has one at this place
some_of : {X : Type 0} (xs : List X) (k : ℕ) → k < length xs → X
some_of [] k within = absurd (omega (arith, within))
some_of (x ∷ xs) k within = x

-- players who stand in a list of the program's, where f tells what is seen of each
pub all_played : {X : Type 0} (f : X → PlayerData) (sizes : Sizes) (requests : List Request) (old new : List X)
    → length new ≡ length old → AreAsked requests (map f old)
    → ((k : ℕ) (d : X) → k < length old → HasPlayed sizes (f (get_or old k d)).asked (f (get_or old k d)) (f (get_or new k d)))
    → HaveAllPlayed sizes requests (map f old) (map f new)
all_played f sizes requests old new even asked each = record {
  count = length-map new f ∙ even ∙ sym (length-map old f);
  played = λ k d in_old.
      let below : k < length old = omega (arith, in_old, length-map old f) in
      let x = some_of old k below in
      let here = get_or-map f old k x d below in
      let own : (f (get_or old k x)).asked ≡ asked_of k requests = ap (λ (p : PlayerData). p.asked) (sym here) ∙ asked k d in_old in
      subst (λ p. HasPlayed sizes (asked_of k requests) p (get_or (map f new) k d)) (sym here)
      (subst (λ p. HasPlayed sizes (asked_of k requests) (f (get_or old k x)) p) (sym (get_or-map f new k x d (omega (arith, below, even))))
      (subst (λ qs. HasPlayed sizes qs (f (get_or old k x)) (f (get_or new k x))) own (each k x below)));
}

-- where all have played, there are as many answers of each seat as requests
pub have_answers : (sizes : Sizes) (requests : List Request) (old new : List PlayerData)
    → HaveAllPlayed sizes requests old new → HaveAnswers requests new
have_answers sizes requests old new played k d below = (played.played k d (omega (arith, below, played.count))).count

-- players who have their passes have their seats
pub seats_by_passes : {X : Type 0} (f : X → PlayerData) (old new : List X) → HavePasses (map f old) (map f new)
    → map (λ x. (f x).pass.seat) new ≡ map (λ x. (f x).pass.seat) old
seats_by_passes f old new same =
    let seat_in = λ (p : PassData). p.seat in
    sym (map-map (λ (p : PlayerData). p.pass.seat) f new) ∙ sym (map-map seat_in pass_of (map f new)) ∙ ap (map seat_in) same
    ∙ map-map seat_in pass_of (map f old) ∙ map-map (λ (p : PlayerData). p.pass.seat) f old

-- two lists whose elements are seen alike, place by place, are seen alike
pub seen_alike : {X Y : Type 0} (f : X → Y) (old new : List X) → length new ≡ length old
    → ((k : ℕ) (d : X) → k < length old → f (get_or new k d) ≡ f (get_or old k d)) → map f new ≡ map f old
seen_alike f [] [] even each = refl
seen_alike f [] (y ∷ new) even each = absurd (omega (arith, even))
seen_alike f (x ∷ old) [] even each = absurd (omega (arith, even))
seen_alike f (x ∷ old) (y ∷ new) even each =
    let first : f y ≡ f x = each 0 x (omega arith) in
    let rest = seen_alike f old new (omega (arith, even)) (λ k d below. each (suc k) d (omega (arith, below))) in
    λ i. first i ∷ rest i
