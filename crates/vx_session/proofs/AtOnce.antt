-- What a block of calls adds to what a session keeps.
use Rattle.std.proofs.Common.{◌≡◌, ◌≢◌, ◌⊎◌, ℕ, ◌<◌, Bool, true, false, ◌&&◌, cond, eqb, List, [], ◌∷◌, ◌++◌, length, map, get_or, Some, None, Result, Err, refl, sym, ap, ◌∙◌, subst, inl, inr, arith, append-nil, append_assoc}
use Rattle.std.specs.List.{All, filter}
use Rattle.std.proofs.lemmas.Bool.Decides.{eqb_tells}
use Rattle.std.proofs.lemmas.List.{get_or-map, length-map}
use Rattle.std.proofs.lemmas.List.Elements.{All-append, All-cons, All-head, All-nil, All-tail}
use Rattle.std.proofs.lemmas.Option.{get_or_from_slice_get, slice_get-get_or, slice_get_within}
use Rattle.std.proofs.lemmas.Simd.{map-map}
use Rattle.vx_geom.specs.Sizes.{Sizes, sector_of}
use Rattle.vx_sector.specs.Commands.{place_of}
use Rattle.vx_sector.specs.SectorData.{EntryData}
use Rattle.vx_sector.specs.declared.reply.Reply.{Reply}
use Rattle.vx_sector.specs.declared.refusal.Refusal.{Refusal}
use Rattle.vx_sector.specs.declared.refusal.Refusal.TheVariants.{OutOfWorld}
use Rattle.vx_record.specs.Calls.{call_in}
use Rattle.vx_record.specs.Chronicles.{IsSeatOf}
use Rattle.vx_record.specs.Said.{is_by}
use Rattle.vx_record.specs.declared.call.Call.{Call}
use Rattle.vx_audit.specs.Deeds.{DeedData, Together, is_from, same_number, edits_in}
use Rattle.vx_audit.specs.Marks.{mark_of, marks_of, calls_among, fates_among, said_by}
use Rattle.vx_audit.specs.declared.mark.Mark.{Mark}
use Rattle.vx_audit.specs.declared.mark.Mark.TheVariants as mark
use Rattle.vx_audit.proofs.Deeded.{marks_joined, calls_joined, said_joined, fates_joined, edits_joined}
use Rattle.vx_session.specs.Blocks.{request_of, asked_of, calls_of, answers_to, AreCalled, AreMade, AreCarriedOut, mark_asked, marks_asked}
use Rattle.vx_session.specs.Sessions.{SessionData, PassData, AreSaid, IsOf, Does, names_of, session_data}
use Rattle.vx_session.specs.declared.request.Request.{Request}
use Rattle.vx_session.proofs.Doing.{list_after, refused_outside}

-- by requests and their answers, the calls from a seat
own_calls : (seat : ℕ) (calls : List EntryData)
    → calls_of (asked_of seat (map request_of calls)) (answers_to seat (map request_of calls) (map (λ (c : EntryData). c.answer) calls))
    ≡ map call_in (filter (is_by seat) calls)
own_calls seat [] = refl
own_calls seat (call ∷ calls) = of_seat (eqb call.seat.number seat) (own_calls seat calls)
  where
    requests : List Request
    requests = asked_of seat (map request_of calls)

    answers : List (Result Reply Refusal)
    answers = answers_to seat (map request_of calls) (map (λ (c : EntryData). c.answer) calls)

    own : List EntryData
    own = filter (is_by seat) calls

    of_seat : (b : Bool) → calls_of requests answers ≡ map call_in own
        → calls_of (cond b (request_of call ∷ requests) requests) (cond b (call.answer ∷ answers) answers)
        ≡ map call_in (cond b (call ∷ own) own)
    of_seat true rest = ap (λ cs. call_in call ∷ cs) rest
    of_seat false rest = rest

-- the call speaks of sector k
abbrev in_sector : Sizes → ℕ → Call → Bool
in_sector sizes k call = same_number (sector_of sizes (place_of call.cmd)) (Some k)

-- those of them that speak of sector k are the calls from the seat and of that sector
own_in_sector : (sizes : Sizes) (seat k : ℕ) (calls : List EntryData)
    → filter (in_sector sizes k) (map call_in (filter (is_by seat) calls))
    ≡ map call_in (filter (is_from sizes seat (Some k)) calls)
own_in_sector sizes seat k [] = refl
own_in_sector sizes seat k (call ∷ calls) =
    of_seat (eqb call.seat.number seat) (own_in_sector sizes seat k calls)
  where
    own : List EntryData
    own = filter (is_by seat) calls

    there : List EntryData
    there = filter (is_from sizes seat (Some k)) calls

    here : Bool
    here = same_number (sector_of sizes (place_of call.cmd)) (Some k)

    of_sector : (b : Bool) → filter (in_sector sizes k) (map call_in own) ≡ map call_in there
        → cond b (call_in call ∷ filter (in_sector sizes k) (map call_in own)) (filter (in_sector sizes k) (map call_in own))
        ≡ map call_in (cond b (call ∷ there) there)
    of_sector true rest = ap (λ cs. call_in call ∷ cs) rest
    of_sector false rest = rest

    of_seat : (b : Bool) → filter (in_sector sizes k) (map call_in own) ≡ map call_in there
        → filter (in_sector sizes k) (map call_in (cond b (call ∷ own) own))
        ≡ map call_in (cond (b && here) (call ∷ there) there)
    of_seat true rest = of_sector here rest
    of_seat false rest = rest

-- after calls, one after another, it has those of them that speak of that sector
lists_after : (sizes : Sizes) (k : ℕ) (before after : List (List Call)) (calls : List Call) → AreCalled sizes before calls after
    → get_or after k [] ≡ get_or before k [] ++ filter (in_sector sizes k) calls
lists_after sizes k before after [] same = ap (λ ls. get_or ls k []) same ∙ sym (append-nil (get_or before k []))
lists_after sizes k before after (call ∷ calls) are =
    lists_after sizes k are.0 after calls are.2
    ∙ ap (λ cs. cs ++ rest) (list_after (sector_of sizes (place_of call.cmd)) k before are.0 call are.1)
    ∙ append_assoc (get_or before k []) (cond here (call ∷ []) []) rest
    ∙ ap (λ cs. get_or before k [] ++ cs) (whole here)
  where
    rest : List Call
    rest = filter (in_sector sizes k) calls

    here : Bool
    here = same_number (sector_of sizes (place_of call.cmd)) (Some k)

    whole : (b : Bool) → cond b (call ∷ []) [] ++ rest ≡ cond b (call ∷ rest) rest
    whole true = refl
    whole false = refl

-- those out of the world were refused so
out_of_world : (sizes : Sizes) (before after : List (List Call)) (calls : List Call) → AreCalled sizes before calls after
    → All (λ (call : Call). sector_of sizes (place_of call.cmd) ≡ None → call.answer ≡ Err OutOfWorld) calls
out_of_world sizes before after [] are = All-nil (λ (call : Call). sector_of sizes (place_of call.cmd) ≡ None → call.answer ≡ Err OutOfWorld)
out_of_world sizes before after (call ∷ calls) are =
    All-cons (λ (c : Call). sector_of sizes (place_of c.cmd) ≡ None → c.answer ≡ Err OutOfWorld) call calls
    (refused_outside (sector_of sizes (place_of call.cmd)) before are.0 call are.1)
    (out_of_world sizes are.0 after calls are.2)

-- what holds of the calls from each seat holds of all
from_each_seat : (P : EntryData → Type 0) (seats : ℕ) (calls : List EntryData)
    → ((seat : ℕ) → seat < seats → All P (filter (is_by seat) calls))
    → All (λ (call : EntryData). call.seat.number < seats) calls → All P calls
from_each_seat P seats [] own below = All-nil P
from_each_seat P seats (call ∷ calls) own below =
    All-cons P call calls
    (of_own (eqb_tells number number) (own number (All-head Within call calls below)))
    (from_each_seat P seats calls (λ seat within. of_rest seat (eqb call.seat.number seat) (own seat within)) (All-tail Within call calls below))
  where
    number : ℕ
    number = call.seat.number

    Within : EntryData → Type 0
    Within c = c.seat.number < seats

    of_own : ((eqb number number ≡ true) × (number ≡ number)) ⊎ ((eqb number number ≡ false) × (number ≢ number))
        → All P (cond (eqb number number) (call ∷ filter (is_by number) calls) (filter (is_by number) calls)) → P call
    of_own (inl same) all =
        All-head P call (filter (is_by number) calls)
        (subst (λ b. All P (cond b (call ∷ filter (is_by number) calls) (filter (is_by number) calls))) same.0 all)
    of_own (inr other) all = absurd (other.1 refl)

    of_rest : (seat : ℕ) (b : Bool) → All P (cond b (call ∷ filter (is_by seat) calls) (filter (is_by seat) calls))
        → All P (filter (is_by seat) calls)
    of_rest seat true all = All-tail P call (filter (is_by seat) calls) all
    of_rest seat false all = all

-- what holds of the calls that entries record holds of the entries
of_entries : (P : Call → Type 0) (entries : List EntryData) → All P (map call_in entries)
    → All (λ (entry : EntryData). P (call_in entry)) entries
of_entries P entries all i d within =
    subst P (get_or-map call_in entries i d (call_in d) within)
    (all i (call_in d) (omega (arith, within, length-map entries call_in)))

-- the marks of what is asked for are those of the calls
marks_made : (sizes : Sizes) (requests : List Request) (calls : List EntryData) → map request_of calls ≡ requests
    → marks_asked sizes requests ≡ mark.Begin ∷ (map (mark_of sizes) calls ++ mark.End ∷ [])
marks_made sizes requests calls asked =
    ap (marks_asked sizes) (sym asked)
    ∙ ap (λ ms. mark.Begin ∷ (ms ++ mark.End ∷ [])) (map-map (mark_asked sizes) request_of calls)

-- a block of calls was made: their marks stand behind the others, and the pass of each seat has its own
pub block_done : (old new : SessionData) (requests : List Request) (answers : List (Result Reply Refusal))
    (passes : List PassData) (calls : List EntryData)
    → length old.passes ≡ length (names_of old)
    → AreMade (names_of old) requests answers calls
    → AreCarriedOut old.sizes requests answers old.passes passes
    → new ≡ session_data old.sizes old.keeper passes old.edits (old.marks ++ marks_asked old.sizes requests)
    → Does old (Together calls) new
block_done old new requests answers passes calls many made out is deeds was =
    subst (IsOf more) (sym is) (record {
      marks = ap (λ ms. ms ++ marks_asked old.sizes requests) was.marks
          ∙ ap (λ ms. marks_of_deeds ++ ms) (marks_made old.sizes requests calls made.asked)
          ∙ sym (marks_joined old.sizes deeds (Together calls ∷ []));
      said = said_so;
      seated = among IsSeated was.seated made.seated;
      outside = among IsOutside was.outside (from_each_seat IsOutside (length old.passes) calls outside_of below);
      fates = fates_joined deeds (Together calls ∷ []) ∙ append-nil (fates_among deeds) ∙ was.fates;
      edits = was.edits ∙ sym (edits_joined deeds (Together calls ∷ []) ∙ append-nil (edits_in deeds));
    })
  where
    more : List DeedData
    more = deeds ++ Together calls ∷ []

    marks_of_deeds : List Mark
    marks_of_deeds = marks_of old.sizes deeds

    IsSeated : EntryData → Type 0
    IsSeated c = IsSeatOf (names_of old) c.seat

    IsOutside : EntryData → Type 0
    IsOutside c = sector_of old.sizes (place_of c.cmd) ≡ None → c.answer ≡ Err OutOfWorld

    those : calls_among more ≡ calls_among deeds ++ calls
    those = calls_joined deeds (Together calls ∷ []) ∙ ap (λ cs. calls_among deeds ++ cs) (append-nil calls)

    among : (P : EntryData → Type 0) → All P (calls_among deeds) → All P calls → All P (calls_among more)
    among P before all = subst (All P) (sym those) (All-append P (calls_among deeds) calls before all)

    own : (seat : ℕ) → calls_of (asked_of seat requests) (answers_to seat requests answers) ≡ map call_in (filter (is_by seat) calls)
    own seat =
        sym (λ i. calls_of (asked_of seat (made.asked i)) (answers_to seat (made.asked i) (made.answered i)))
        ∙ own_calls seat calls

    called : (seat : ℕ) (d : PassData) → seat < length old.passes
        → AreCalled old.sizes (get_or old.passes seat d).lists (map call_in (filter (is_by seat) calls)) (get_or passes seat d).lists
    called seat d within =
        subst (λ cs. AreCalled old.sizes (get_or old.passes seat d).lists cs (get_or passes seat d).lists) (own seat)
        (out.called seat d within)

    none : PassData
    none = record { seat = record { number = 0; name = [] }; lists = [] }

    outside_of : (seat : ℕ) → seat < length old.passes → All IsOutside (filter (is_by seat) calls)
    outside_of seat within =
        of_entries (λ (c : Call). sector_of old.sizes (place_of c.cmd) ≡ None → c.answer ≡ Err OutOfWorld)
        (filter (is_by seat) calls)
        (out_of_world old.sizes (get_or old.passes seat none).lists (get_or passes seat none).lists
        (map call_in (filter (is_by seat) calls)) (called seat none within))

    below : All (λ (c : EntryData). c.seat.number < length old.passes) calls
    below = λ i d within. omega (arith, many, slice_get_within (names_of old) (get_or calls i d).seat.number (get_or calls i d).seat.name (made.seated i d within))

    sectors : ℕ
    sectors = length old.keeper.chronicle.opening.terrain.sectors

    said_so : AreSaid old.sizes sectors more passes
    said_so seat k pass found in_world =
        let within : seat < length old.passes = omega (arith, slice_get_within passes seat pass found, out.count) in
        let before = get_or old.passes seat pass in
        let said : get_or before.lists k [] ≡ said_by old.sizes seat k deeds =
        was.said seat k before (slice_get-get_or old.passes seat pass within) in_world in
        let new_calls = map call_in (filter (is_from old.sizes seat (Some k)) calls) in
        ap (λ (p : PassData). get_or p.lists k []) (sym (get_or_from_slice_get passes seat pass pass found))
        ∙ lists_after old.sizes k before.lists (get_or passes seat pass).lists (map call_in (filter (is_by seat) calls)) (called seat pass within)
        ∙ ap (λ cs. get_or before.lists k [] ++ cs) (own_in_sector old.sizes seat k calls)
        ∙ ap (λ cs. cs ++ new_calls) said
        ∙ ap (λ cs. said_by old.sizes seat k deeds ++ map call_in (filter (is_from old.sizes seat (Some k)) cs)) (sym (append-nil calls))
        ∙ sym (said_joined old.sizes seat k deeds (Together calls ∷ []))
