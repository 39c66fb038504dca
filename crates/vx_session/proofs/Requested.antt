-- What was done of a list of requests, request by request.
use Rattle.std.proofs.Common.{◌≡◌, ◌≢◌, ◌⊎◌, ℕ, ◌+◌, ◌<◌, Bool, true, false, cond, eqb, List, [], ◌∷◌, ◌++◌, length, get_or, take, drop, Result, refl, sym, ap, ◌∙◌, subst, inl, inr, arith, append-nil, length-append, suc}
use Rattle.std.specs.List.{filter}
use Rattle.std.proofs.lemmas.Bool.{eq-eqb}
use Rattle.std.proofs.lemmas.Bool.Decides.{eqb_tells}
use Rattle.std.proofs.lemmas.List.{length-take-le, take-append-drop, take_more}
use Rattle.std.proofs.lemmas.List.Elements.{filter-append, filter_more}
use Rattle.vx_geom.specs.Sizes.{Sizes, sector_of}
use Rattle.vx_sector.specs.Commands.{place_of}
use Rattle.vx_sector.specs.declared.reply.Reply.{Reply}
use Rattle.vx_sector.specs.declared.refusal.Refusal.{Refusal}
use Rattle.vx_record.specs.declared.call.Call.{Call}
use Rattle.vx_session.specs.Traces.{IsCalled}
use Rattle.vx_session.specs.Blocks.{asked_of, calls_of, answers_to, AreCalled}
use Rattle.vx_session.specs.declared.request.Request.{Request}

-- two numbers that differ are told apart
differ : (a b : ℕ) → a ≢ b → eqb a b ≡ false
differ a b apart = of_case (eqb_tells a b)
  where
    of_case : ((eqb a b ≡ true) × (a ≡ b)) ⊎ ((eqb a b ≡ false) × (a ≢ b)) → eqb a b ≡ false
    of_case (inl same) = absurd (apart same.1)
    of_case (inr other) = other.0

-- a request more of the seat is asked for from it
pub asked_more : (seat i : ℕ) (requests : List Request) (d : Request) → i < length requests → (get_or requests i d).seat ≡ seat
    → asked_of seat (take (i + 1) requests) ≡ asked_of seat (take i requests) ++ get_or requests i d ∷ []
asked_more seat i requests d within own =
    let r = get_or requests i d in
    filter_more (λ (q : Request). eqb q.seat seat) requests i d within
    ∙ ap (λ b. asked_of seat (take i requests) ++ cond b (r ∷ []) []) (eq-eqb r.seat seat own)

-- one of another seat is not
pub asked_still : (seat i : ℕ) (requests : List Request) (d : Request) → i < length requests → (get_or requests i d).seat ≢ seat
    → asked_of seat (take (i + 1) requests) ≡ asked_of seat (take i requests)
asked_still seat i requests d within other =
    let r = get_or requests i d in
    filter_more (λ (q : Request). eqb q.seat seat) requests i d within
    ∙ ap (λ b. asked_of seat (take i requests) ++ cond b (r ∷ []) []) (differ r.seat seat other)
    ∙ append-nil (asked_of seat (take i requests))

-- with an answer to one request more there is one call more
pub calls_more : (requests : List Request) (answers : List (Result Reply Refusal)) (r : Request) (a : Result Reply Refusal)
    → length answers ≡ length requests
    → calls_of (requests ++ r ∷ []) (answers ++ a ∷ []) ≡ calls_of requests answers ++ record { cmd = r.cmd; answer = a } ∷ []
calls_more [] [] r a even = refl
calls_more [] (b ∷ answers) r a even = absurd (omega (arith, even))
calls_more (q ∷ requests) [] r a even = absurd (omega (arith, even))
calls_more (q ∷ requests) (b ∷ answers) r a even =
    ap (λ cs. record { cmd = q.cmd; answer = b } ∷ cs) (calls_more requests answers r a (omega (arith, even)))

-- calls and then one more
pub called_more : (sizes : Sizes) (before now next : List (List Call)) (calls : List Call) (call : Call)
    → AreCalled sizes before calls now → IsCalled (sector_of sizes (place_of call.cmd)) now call next
    → AreCalled sizes before (calls ++ call ∷ []) next
called_more sizes before now next [] call same called =
    (next, subst (λ lists. IsCalled (sector_of sizes (place_of call.cmd)) lists call next) same called, refl)
called_more sizes before now next (c ∷ calls) call are called =
    (are.0, are.1, called_more sizes are.0 now next calls call are.2 called)

-- one more of the requests was carried out
pub carried_more : (sizes : Sizes) (asked : List Request) (i : ℕ) (d : Request) (answers next : List (Result Reply Refusal))
    (a : Result Reply Refusal) (before now after : List (List Call))
    → i < length asked → length answers ≡ i
    → AreCalled sizes before (calls_of (take i asked) answers) now
    → next ≡ answers ++ a ∷ []
    → IsCalled (sector_of sizes (place_of (get_or asked i d).cmd)) now (record { cmd = (get_or asked i d).cmd; answer = a }) after
    → (length next ≡ i + 1) × AreCalled sizes before (calls_of (take (i + 1) asked) next) after
carried_more sizes asked i d answers next a before now after within many was told called =
    let r = get_or asked i d in
    let front = take i asked in
    let more = take_more asked i d within in
    let even : length answers ≡ length front = many ∙ sym (length-take-le i asked (omega (arith, within))) in (
      omega (arith, many, ap length told, length-append answers (a ∷ [])),
      subst (λ calls. AreCalled sizes before calls after)
          (sym ((λ k. calls_of (more k) (told k)) ∙ calls_more front answers r a even))
          (called_more sizes before now after (calls_of front answers) (record { cmd = r.cmd; answer = a }) was called),
    )

-- of an answer more, a seat has it or has not
pub answers_more : (seat : ℕ) (requests : List Request) (answers : List (Result Reply Refusal)) (r : Request) (a : Result Reply Refusal)
    → length answers ≡ length requests
    → answers_to seat (requests ++ r ∷ []) (answers ++ a ∷ [])
    ≡ answers_to seat requests answers ++ cond (eqb r.seat seat) (a ∷ []) []
answers_more seat [] [] r a even = refl
answers_more seat [] (b ∷ answers) r a even = absurd (omega (arith, even))
answers_more seat (q ∷ requests) [] r a even = absurd (omega (arith, even))
answers_more seat (q ∷ requests) (b ∷ answers) r a even =
    of_seat (eqb q.seat seat) (answers_more seat requests answers r a (omega (arith, even)))
  where
    of_seat : (t : Bool) → answers_to seat (requests ++ r ∷ []) (answers ++ a ∷ [])
        ≡ answers_to seat requests answers ++ cond (eqb r.seat seat) (a ∷ []) []
        → cond t (b ∷ answers_to seat (requests ++ r ∷ []) (answers ++ a ∷ []))
        (answers_to seat (requests ++ r ∷ []) (answers ++ a ∷ []))
        ≡ cond t (b ∷ answers_to seat requests answers) (answers_to seat requests answers)
        ++ cond (eqb r.seat seat) (a ∷ []) []
    of_seat true rest = ap (λ xs. b ∷ xs) rest
    of_seat false rest = rest

-- a seat has as many answers as requests
pub as_many : (seat : ℕ) (requests : List Request) (answers : List (Result Reply Refusal))
    → length answers ≡ length requests
    → length (answers_to seat requests answers) ≡ length (asked_of seat requests)
as_many seat [] answers even = refl
as_many seat (q ∷ requests) [] even = absurd (omega (arith, even))
as_many seat (q ∷ requests) (b ∷ answers) even =
    of_seat (eqb q.seat seat) (as_many seat requests answers (omega (arith, even)))
  where
    of_seat : (t : Bool) → length (answers_to seat requests answers) ≡ length (asked_of seat requests)
        → length (cond t (b ∷ answers_to seat requests answers) (answers_to seat requests answers))
        ≡ length (cond t (q ∷ asked_of seat requests) (asked_of seat requests))
    of_seat true rest = ap (λ n. suc n) rest
    of_seat false rest = rest

-- so it is with the next request of a list, and the seat that it names
pub answers_next : (k i : ℕ) (requests : List Request) (d : Request) (answers : List (Result Reply Refusal)) (a : Result Reply Refusal) (seat : ℕ)
    → i < length requests → seat ≡ (get_or requests i d).seat → length answers ≡ i
    → answers_to k (take (i + 1) requests) (answers ++ a ∷ [])
    ≡ answers_to k (take i requests) answers ++ cond (eqb seat k) (a ∷ []) []
answers_next k i requests d answers a seat within own many =
    let front = take i requests in
    let even : length answers ≡ length front = many ∙ sym (length-take-le i requests (omega (arith, within))) in
    ap (λ qs. answers_to k qs (answers ++ a ∷ [])) (take_more requests i d within)
    ∙ answers_more k front answers (get_or requests i d) a even
    ∙ ap (λ n. answers_to k front answers ++ cond (eqb n k) (a ∷ []) []) (sym own)

-- where a request of the seat is left, those before it are fewer
pub asked_left : (i : ℕ) (requests : List Request) (d : Request) → i < length requests
    → length (asked_of (get_or requests i d).seat (take i requests)) < length (asked_of (get_or requests i d).seat requests)
asked_left i requests d within =
    let r = get_or requests i d in
    let p : Request → Bool = λ q. eqb q.seat r.seat in
    let whole = ap (filter p) (sym (take-append-drop (i + 1) requests))
    ∙ filter-append p (take (i + 1) requests) (drop (i + 1) requests) in
    omega (
      arith,
      ap length (asked_more r.seat i requests d within refl),
      length-append (asked_of r.seat (take i requests)) (r ∷ []),
      ap length whole,
      length-append (asked_of r.seat (take (i + 1) requests)) (asked_of r.seat (drop (i + 1) requests)),
    )
