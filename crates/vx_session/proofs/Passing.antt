-- A session whose passes stand in a list of the program's, where f tells what is seen of each.
use Rattle.std.proofs.Common.{◌≡◌, ℕ, zero, suc, ◌+◌, ◌<◌, List, [], ◌∷◌, ◌++◌, length, map, set, get_or, slice_get, Some, Result, Ok, Err, OnErr, refl, sym, ap, ◌∙◌, subst, arith}
use Rattle.std.proofs.Math.Seq.{map-set_same}
use Rattle.std.proofs.lemmas.List.{get_or-map, length-map, map-set}
use Rattle.std.proofs.lemmas.Option.{slice_get-get_or}
use Rattle.std.proofs.lemmas.Simd.{map-map}
use Rattle.vx_geom.specs.declared.pos.Pos.{Pos}
use Rattle.vx_geom.specs.Sizes.{Sizes, sector_of}
use Rattle.vx_policy.specs.Asked.{Asked}
use Rattle.vx_sector.specs.Commands.{place_of}
use Rattle.vx_sector.specs.SectorData.{SeatData, EntryData}
use Rattle.vx_sector.specs.declared.reply.Reply.{Reply}
use Rattle.vx_sector.specs.declared.refusal.Refusal.{Refusal}
use Rattle.vx_record.specs.Calls.{call_in}
use Rattle.vx_record.specs.Chronicles.{IsSeatOf}
use Rattle.vx_keeper.specs.Keepers.{KeeperData}
use Rattle.vx_audit.specs.Deeds.{Called, Edited, Together}
use Rattle.vx_audit.specs.Marks.{mark_of}
use Rattle.vx_audit.specs.declared.mark.Mark.{Mark}
use Rattle.vx_audit.specs.declared.mark.Mark.TheVariants as mark
use Rattle.vx_world.specs.Openings.{seats_from}
use Rattle.vx_session.specs.Blocks.{AreCarriedOut, AreMade, marks_asked}
use Rattle.vx_session.specs.Traces.{IsCalled}
use Rattle.vx_session.specs.declared.request.Request.{Request}
use Rattle.vx_session.specs.Sessions.{SessionData, PassData, IsSession, Does, names_of, session_data}
use Rattle.vx_session.proofs.AtOnce.{block_done}
use Rattle.vx_session.proofs.Doing.{call_done, edit_done}

-- what is so whatever was answered, is so at an error
pub on_error : {X E : Type 0} (P : Type 0) (result : Result X E) → P → OnErr result P
on_error P (Ok x) p = tt
on_error P (Err e) p = p

-- there are as many seats as names
pub length_seats : (n : ℕ) (names : List (List ℕ)) → length (seats_from n names) ≡ length names
length_seats n [] = refl
length_seats n (name ∷ names) = ap suc (length_seats (suc n) names)

-- each seat has the number of its place
pub number_at : (n i : ℕ) (names : List (List ℕ)) (d : SeatData) → i < length names
    → (get_or (seats_from n names) i d).number ≡ n + i
number_at n i [] d within = absurd (omega arith)
number_at n zero (name ∷ names) d within = omega arith
number_at n (suc i) (name ∷ names) d within =
    let rest = number_at (suc n) i names d (omega (arith, within)) in omega (arith, rest)

-- there are as many passes as names
pub as_many_passes : {X : Type 0} (f : X → PassData) (sizes : Sizes) (keeper : KeeperData) (xs : List X)
    (edits : List Asked) (marks : List Mark)
    → IsSession (session_data sizes keeper (map f xs) edits marks)
    → length xs ≡ length keeper.chronicle.opening.names
as_many_passes f sizes keeper xs edits marks is =
    sym (length-map xs f) ∙ sym (length-map (map f xs) (λ (pass : PassData). pass.seat))
    ∙ ap length is.seats ∙ length_seats 0 keeper.chronicle.opening.names

-- each name has a pass
pub pass_there : {X : Type 0} (f : X → PassData) (sizes : Sizes) (keeper : KeeperData) (xs : List X)
    (edits : List Asked) (marks : List Mark) (seat : ℕ)
    → IsSession (session_data sizes keeper (map f xs) edits marks)
    → seat < length keeper.chronicle.opening.names → seat < length xs
pass_there f sizes keeper xs edits marks seat is named =
    omega (arith, named, as_many_passes f sizes keeper xs edits marks is)

-- each pass is from the seat with the number of its place
numbered : {X : Type 0} (f : X → PassData) (sizes : Sizes) (keeper : KeeperData) (xs : List X)
    (edits : List Asked) (marks : List Mark)
    → IsSession (session_data sizes keeper (map f xs) edits marks) → (k : ℕ) (d : PassData) → k < length (map f xs)
    → (get_or (map f xs) k d).seat.number ≡ k
numbered f sizes keeper xs edits marks is k d within =
    let seat_in : PassData → SeatData = λ pass. pass.seat in
    let named : k < length keeper.chronicle.opening.names =
    omega (arith, within, length-map xs f, as_many_passes f sizes keeper xs edits marks is) in
    let whole : 0 + k ≡ k = omega arith in
    ap (λ (s : SeatData). s.number)
    (sym (get_or-map seat_in (map f xs) k d d.seat within) ∙ ap (λ seats. get_or seats k d.seat) is.seats)
    ∙ number_at 0 k keeper.chronicle.opening.names d.seat named ∙ whole

-- the pass at an index is as it is seen there
seen_at : {X : Type 0} (f : X → PassData) (xs : List X) (seat : ℕ) (was : X)
    → seat < length xs → was ≡ get_or xs seat was → get_or (map f xs) seat (f was) ≡ f was
seen_at f xs seat was within is = get_or-map f xs seat was (f was) within ∙ ap f (sym is)

-- its seat has the number of that index
pub number_is : {X : Type 0} (f : X → PassData) (sizes : Sizes) (keeper : KeeperData) (xs : List X)
    (edits : List Asked) (marks : List Mark) (seat : ℕ) (was : X)
    → IsSession (session_data sizes keeper (map f xs) edits marks)
    → seat < length keeper.chronicle.opening.names → was ≡ get_or xs seat was
    → (f was).seat.number ≡ seat
number_is f sizes keeper xs edits marks seat was is named at =
    let within = pass_there f sizes keeper xs edits marks seat is named in
    ap (λ (pass : PassData). pass.seat.number) (sym (seen_at f xs seat was within at))
    ∙ numbered f sizes keeper xs edits marks is seat (f was) (omega (arith, within, length-map xs f))

-- it stays a session with another pass of the same seat in the place of one
pub session_stays : {X : Type 0} (f : X → PassData) (sizes : Sizes) (keeper : KeeperData) (xs : List X)
    (edits : List Asked) (marks more : List Mark) (seat : ℕ) (was now : X)
    → IsSession (session_data sizes keeper (map f xs) edits marks)
    → seat < length keeper.chronicle.opening.names → was ≡ get_or xs seat was
    → (f now).seat ≡ (f was).seat
    → IsSession (session_data sizes keeper (map f (set xs seat now)) edits more)
session_stays f sizes keeper xs edits marks more seat was now is named at same =
    let seat_in : PassData → SeatData = λ pass. pass.seat in
    let within = pass_there f sizes keeper xs edits marks seat is named in
    record {
      sizes = is.sizes;
      seats = ap (map seat_in) (map-set f xs seat now)
          ∙ map-set_same seat_in (map f xs) seat (f now) (f was)
          (same ∙ ap seat_in (sym (seen_at f xs seat was within at)))
          ∙ is.seats;
      learnt = is.learnt;
    }

-- it stays one with other passes of the same seats
pub seats_stay : {X : Type 0} (f : X → PassData) (sizes : Sizes) (keeper : KeeperData) (xs ys : List X)
    (edits : List Asked) (marks more : List Mark)
    → IsSession (session_data sizes keeper (map f xs) edits marks)
    → map (λ x. (f x).seat) ys ≡ map (λ x. (f x).seat) xs
    → IsSession (session_data sizes keeper (map f ys) edits more)
seats_stay f sizes keeper xs ys edits marks more is same =
    let seat_in : PassData → SeatData = λ pass. pass.seat in
    record {
      sizes = is.sizes;
      seats = map-map seat_in f ys ∙ same ∙ sym (map-map seat_in f xs) ∙ is.seats;
      learnt = is.learnt;
    }

-- what is seen stays where another pass is seen as the one in whose place it is
pub unchanged : {X : Type 0} (f : X → PassData) (sizes : Sizes) (keeper : KeeperData) (xs : List X)
    (edits : List Asked) (marks again : List Mark) (seat : ℕ) (was now : X)
    → was ≡ get_or xs seat was → f now ≡ f was → again ≡ marks
    → session_data sizes keeper (map f (set xs seat now)) edits again
    ≡ session_data sizes keeper (map f xs) edits marks
unchanged f sizes keeper xs edits marks again seat was now at same kept =
    let passes = map-set_same f xs seat now was (same ∙ ap f at) in
    λ i. session_data sizes keeper (passes i) edits (kept i)

-- a call was done with a pass: it is on the list of that pass, and its mark behind the others
pub called_by : {X : Type 0} (f : X → PassData) (sizes : Sizes) (keeper : KeeperData) (xs : List X)
    (edits : List Asked) (marks roomy more : List Mark) (seat number : ℕ) (p : Pos) (m : Mark) (was now : X)
    (call : EntryData) (old : SessionData)
    → session_data sizes keeper (map f xs) edits marks ≡ old
    → IsSession (session_data sizes keeper (map f xs) edits marks)
    → seat < length keeper.chronicle.opening.names → was ≡ get_or xs seat was
    → call.seat.number ≡ seat → IsSeatOf (names_of old) call.seat
    → number ≡ (f was).seat.number → p ≡ place_of call.cmd → m ≡ mark.Call number (sector_of sizes p)
    → IsCalled (sector_of sizes (place_of call.cmd)) (f was).lists (call_in call) (f now).lists
    → roomy ≡ marks → more ≡ roomy ++ m ∷ []
    → Does old (Called call) (session_data sizes keeper (map f (set xs seat now)) edits more)
called_by f sizes keeper xs edits marks roomy more seat number p m was now call old view is named at numbered seated
    of_pass place mark_is called room marked =
    let s = session_data sizes keeper (map f xs) edits marks in
    let new = session_data sizes keeper (map f (set xs seat now)) edits more in
    let within = pass_there f sizes keeper xs edits marks seat is named in
    let within_seen : seat < length (map f xs) = omega (arith, within, length-map xs f) in
    let there : slice_get (map f xs) seat ≡ Some (f was) =
    slice_get-get_or (map f xs) seat (f was) within_seen ∙ ap Some (seen_at f xs seat was within at) in
    let passes : map f (set xs seat now) ≡ set (map f xs) call.seat.number (f now) =
    map-set f xs seat now ∙ ap (λ n. set (map f xs) n (f now)) (sym numbered) in
    subst (λ (o : SessionData). Does o (Called call) new) view
    (call_done s new call (f was) (f now)
    (subst (λ (o : SessionData). IsSeatOf (names_of o) call.seat) (sym view) seated)
    (ap (slice_get (map f xs)) numbered ∙ there)
    called
    (λ i. session_data sizes keeper (passes i) edits (marks_are i)))
  where
    own : number ≡ call.seat.number
    own = of_pass ∙ number_is f sizes keeper xs edits marks seat was is named at ∙ sym numbered

    mark_same : m ≡ mark_of sizes call
    mark_same = mark_is ∙ (λ i. mark.Call (own i) (sector_of sizes (place i)))

    marks_are : more ≡ marks ++ mark_of sizes call ∷ []
    marks_are = marked ∙ (λ i. room i ++ mark_same i ∷ [])

-- an edit was accepted: it is behind the others, and its mark behind theirs
pub edited_by : (sizes : Sizes) (keeper learnt : KeeperData) (passes : List PassData) (before edits front : List Asked)
    (marks roomy more : List Mark) (edit : Asked) (old : SessionData)
    → session_data sizes keeper passes edits marks ≡ old
    → learnt ≡ record keeper { seen = learnt.seen }
    → front ≡ before ++ edit ∷ [] → before ≡ edits
    → roomy ≡ marks → more ≡ roomy ++ mark.Edit ∷ []
    → Does old (Edited edit) (session_data sizes learnt passes front more)
    × (before ≡ old.edits) × (front ≡ old.edits ++ edit ∷ [])
edited_by sizes keeper learnt passes before edits front marks roomy more edit old view kept last all room marked = (
  subst (λ (o : SessionData). Does o (Edited edit) new) view
      (edit_done s new learnt.seen edit (λ i. session_data sizes (kept i) passes (fronts i) (marks_are i))),
  old_edits,
  last ∙ ap (λ es. es ++ edit ∷ []) old_edits,
)
  where
    s : SessionData
    s = session_data sizes keeper passes edits marks

    new : SessionData
    new = session_data sizes learnt passes front more

    fronts : front ≡ edits ++ edit ∷ []
    fronts = last ∙ ap (λ es. es ++ edit ∷ []) all

    marks_are : more ≡ marks ++ mark.Edit ∷ []
    marks_are = marked ∙ ap (λ ms. ms ++ mark.Edit ∷ []) room

    old_edits : before ≡ old.edits
    old_edits = all ∙ ap (λ (o : SessionData). o.edits) view

-- a block of calls was made with the passes: they are on their lists, and their marks behind the others
pub block_by : {X : Type 0} (f : X → PassData) (sizes : Sizes) (keeper : KeeperData) (xs ys : List X)
    (edits : List Asked) (marks roomy more : List Mark) (requests : List Request) (answers : List (Result Reply Refusal))
    (calls : List EntryData) (old : SessionData)
    → session_data sizes keeper (map f xs) edits marks ≡ old
    → IsSession (session_data sizes keeper (map f xs) edits marks)
    → AreCarriedOut sizes requests answers (map f xs) (map f ys)
    → roomy ≡ marks → more ≡ roomy ++ marks_asked sizes requests
    → AreMade (names_of old) requests answers calls
    → Does old (Together calls) (session_data sizes keeper (map f ys) edits more)
block_by f sizes keeper xs ys edits marks roomy more requests answers calls old view is out room marked made =
    let s = session_data sizes keeper (map f xs) edits marks in
    let new = session_data sizes keeper (map f ys) edits more in
    subst (λ (o : SessionData). Does o (Together calls) new) view
    (block_done s new requests answers (map f ys) calls
    (length-map xs f ∙ as_many_passes f sizes keeper xs edits marks is)
    (subst (λ (o : SessionData). AreMade (names_of o) requests answers calls) (sym view) made)
    out
    (ap (session_data sizes keeper (map f ys) edits) (marked ∙ ap (λ ms. ms ++ marks_asked sizes requests) room)))
