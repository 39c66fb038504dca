-- What one deed more adds to what a session keeps.
use Rattle.std.proofs.Common.{◌≡◌, ◌≢◌, ◌⊎◌, ℕ, ◌<◌, Bool, true, false, ◌&&◌, cond, List, [], ◌∷◌, ◌++◌, length, map, set, get_or, slice_get, nat_eq, Option, Some, None, Err, refl, sym, ap, ◌∙◌, subst, inl, inr, arith, append-nil}
use Rattle.std.specs.List.{All, filter}
use Rattle.std.proofs.lemmas.Bool.{eq-eqb}
use Rattle.std.proofs.lemmas.Bool.Decides.{eqb_tells}
use Rattle.std.proofs.lemmas.Grind.{get_or-set_at}
use Rattle.std.proofs.lemmas.List.{length-set, get_or-set_other}
use Rattle.std.proofs.lemmas.List.Elements.{All-append, All-cons, All-nil}
use Rattle.std.proofs.lemmas.Option.{get_or_from_slice_get, slice_get-get_or, slice_get_within}
use Rattle.vx_geom.specs.Sizes.{Sizes, sector_of}
use Rattle.vx_policy.specs.Asked.{Asked}
use Rattle.vx_sector.specs.Commands.{place_of}
use Rattle.vx_sector.specs.SectorData.{EntryData}
use Rattle.vx_sector.specs.declared.refusal.Refusal.TheVariants.{OutOfWorld}
use Rattle.vx_record.specs.Calls.{call_in}
use Rattle.vx_record.specs.declared.call.Call.{Call}
use Rattle.vx_record.specs.Chronicles.{IsSeatOf}
use Rattle.vx_audit.specs.Deeds.{DeedData, Called, Edited, is_from, same_number, edits_in}
use Rattle.vx_audit.specs.Marks.{mark_of, calls_among, fates_among, said_by}
use Rattle.vx_audit.specs.declared.mark.Mark.TheVariants as mark
use Rattle.vx_audit.proofs.Deeded.{marks_joined, calls_joined, said_joined, fates_joined, edits_joined}
use Rattle.vx_session.specs.Traces.{IsCalled}
use Rattle.vx_session.specs.Sessions.{SessionData, PassData, AreSaid, IsOf, Does, names_of, session_data}

-- what a call says of a seat in a sector: itself, where it is from there, and else nothing
said_one : (sizes : Sizes) (seat k : ℕ) (call : EntryData)
    → said_by sizes seat k (Called call ∷ []) ≡ cond (is_from sizes seat (Some k) call) (call_in call ∷ []) []
said_one sizes seat k call = of_test (is_from sizes seat (Some k) call)
  where
    of_test : (b : Bool) → map call_in (cond b (call ∷ []) []) ≡ cond b (call_in call ∷ []) []
    of_test true = refl
    of_test false = refl

nothing_more : (sizes : Sizes) (seat k : ℕ) (deeds : List DeedData) (call : EntryData)
    → is_from sizes seat (Some k) call ≡ false
    → said_by sizes seat k (deeds ++ Called call ∷ []) ≡ said_by sizes seat k deeds
nothing_more sizes seat k deeds call no_ =
    said_joined sizes seat k deeds (Called call ∷ [])
    ∙ ap (λ rest. said_by sizes seat k deeds ++ rest) (said_one sizes seat k call ∙ ap (λ b. cond b (call_in call ∷ []) []) no_)
    ∙ append-nil (said_by sizes seat k deeds)

not_by : (sizes : Sizes) (seat i k : ℕ) (call : EntryData) → call.seat.number ≡ seat → i ≢ seat
    → is_from sizes i (Some k) call ≡ false
not_by sizes seat i k call by other =
    ap (λ b. b && same_number (sector_of sizes (place_of call.cmd)) (Some k)) (apart (eqb_tells call.seat.number i))
  where
    apart : ((nat_eq call.seat.number i ≡ true) × (call.seat.number ≡ i))
        ⊎ ((nat_eq call.seat.number i ≡ false) × (call.seat.number ≢ i))
        → nat_eq call.seat.number i ≡ false
    apart (inl same) = absurd (other (sym same.1 ∙ by))
    apart (inr differ) = differ.0

-- after another pass was put in its place, a pass is that one or one of the others
put_back : (passes : List PassData) (seat i : ℕ) (after pass : PassData) → seat < length passes
    → slice_get (set passes seat after) i ≡ Some pass
    → ((i ≡ seat) × (pass ≡ after)) ⊎ ((i ≢ seat) × (slice_get passes i ≡ Some pass))
put_back passes seat i after pass there found = of_seat (eqb_tells i seat)
  where
    here : pass ≡ get_or (set passes seat after) i pass
    here = sym (get_or_from_slice_get (set passes seat after) i pass pass found)

    of_seat : ((nat_eq i seat ≡ true) × (i ≡ seat)) ⊎ ((nat_eq i seat ≡ false) × (i ≢ seat))
        → ((i ≡ seat) × (pass ≡ after)) ⊎ ((i ≢ seat) × (slice_get passes i ≡ Some pass))
    of_seat (inl same) = inl (same.1, here ∙ get_or-set_at passes seat i after pass same.1 there)
    of_seat (inr other) =
        let within : i < length passes =
        omega (arith, slice_get_within (set passes seat after) i pass found, length-set passes seat after) in
        inr (
          other.1,
          slice_get-get_or passes i pass within
              ∙ ap Some (sym (here ∙ get_or-set_other passes seat i after pass other.1)),
        )

-- after a call the list of a sector has it, if it speaks of that sector
pub list_after : (at : Option ℕ) (k : ℕ) (before after : List (List Call)) (call : Call) → IsCalled at before call after
    → get_or after k [] ≡ get_or before k [] ++ cond (same_number at (Some k)) (call ∷ []) []
list_after None k before after call called =
    ap (λ ls. get_or ls k []) called.1 ∙ sym (append-nil (get_or before k []))
list_after (Some at) k before after call called =
    ap (λ ls. get_or ls k []) called.1 ∙ of_place (eqb_tells at k)
  where
    more : List Call
    more = get_or before at [] ++ call ∷ []

    of_place : ((nat_eq at k ≡ true) × (at ≡ k)) ⊎ ((nat_eq at k ≡ false) × (at ≢ k))
        → get_or (set before at more) k [] ≡ get_or before k [] ++ cond (nat_eq at k) (call ∷ []) []
    of_place (inl same) =
        get_or-set_at before at k more [] (sym same.1) called.0
        ∙ ap (λ n. get_or before n [] ++ call ∷ []) same.1
        ∙ ap (λ b. get_or before k [] ++ cond b (call ∷ []) []) (sym same.0)
    of_place (inr other) =
        get_or-set_other before at k more [] (λ same. other.1 (sym same))
        ∙ sym (append-nil (get_or before k []))
        ∙ ap (λ b. get_or before k [] ++ cond b (call ∷ []) []) (sym other.0)

-- passes have what deeds say that make no call
pub said_still : (sizes : Sizes) (sectors : ℕ) (deeds more : List DeedData) (passes : List PassData)
    → calls_among more ≡ [] → AreSaid sizes sectors deeds passes
    → AreSaid sizes sectors (deeds ++ more) passes
said_still sizes sectors deeds more passes none said i k pass found below =
    said i k pass found below
    ∙ sym (ap (λ calls. map call_in (filter (is_from sizes i (Some k)) calls))
    (calls_joined deeds more ∙ ap (λ rest. calls_among deeds ++ rest) none ∙ append-nil (calls_among deeds)))

-- out of the world a call was refused so
pub refused_outside : (at : Option ℕ) (before after : List (List Call)) (call : Call)
    → IsCalled at before call after → at ≡ None → call.answer ≡ Err OutOfWorld
refused_outside None before after call called outside = called.0
refused_outside (Some at) before after call called outside = cc

-- where the pass of its seat has what a call leaves on its lists, all passes have what the deeds say
said_called : (at : Option ℕ) (sizes : Sizes) (sectors : ℕ) (deeds : List DeedData) (call : EntryData)
    (before after : PassData) (passes : List PassData)
    → sector_of sizes (place_of call.cmd) ≡ at
    → IsCalled at before.lists (call_in call) after.lists
    → slice_get passes call.seat.number ≡ Some before
    → AreSaid sizes sectors deeds passes
    → AreSaid sizes sectors (deeds ++ Called call ∷ []) (set passes call.seat.number after)
said_called at sizes sectors deeds call before after passes is called there said i k pass found below =
    of_pass (put_back passes seat i after pass (slice_get_within passes seat before there) found)
  where
    seat : ℕ
    seat = call.seat.number

    c : Call
    c = call_in call

    own : i ≡ seat → is_from sizes i (Some k) call ≡ same_number at (Some k)
    own here = (λ n. eq-eqb seat i (sym here) n && same_number (is n) (Some k))

    of_pass : ((i ≡ seat) × (pass ≡ after)) ⊎ ((i ≢ seat) × (slice_get passes i ≡ Some pass))
        → get_or pass.lists k [] ≡ said_by sizes i k (deeds ++ Called call ∷ [])
    of_pass (inl here) =
        ap (λ (p : PassData). get_or p.lists k []) here.1
        ∙ list_after at k before.lists after.lists c called
        ∙ ap (λ cs. cs ++ cond (same_number at (Some k)) (c ∷ []) []) (said i k before (ap (slice_get passes) here.0 ∙ there) below)
        ∙ ap (λ b. said_by sizes i k deeds ++ cond b (c ∷ []) []) (sym (own here.0))
        ∙ ap (λ cs. said_by sizes i k deeds ++ cs) (sym (said_one sizes i k call))
        ∙ sym (said_joined sizes i k deeds (Called call ∷ []))
    of_pass (inr other) =
        said i k pass other.1 below
        ∙ sym (nothing_more sizes i k deeds call (not_by sizes seat i k call refl other.0))

-- a call was done: its mark stands behind the others, and the pass of its seat has it
pub call_done : (old new : SessionData) (call : EntryData) (before after : PassData)
    → IsSeatOf (names_of old) call.seat
    → slice_get old.passes call.seat.number ≡ Some before
    → IsCalled (sector_of old.sizes (place_of call.cmd)) before.lists (call_in call) after.lists
    → new ≡ session_data old.sizes old.keeper (set old.passes call.seat.number after) old.edits
    (old.marks ++ mark_of old.sizes call ∷ [])
    → Does old (Called call) new
call_done old new call before after seated there called is deeds was =
    subst (IsOf more) (sym is) (record {
      marks = ap (λ marks. marks ++ mark_of old.sizes call ∷ []) was.marks
          ∙ sym (marks_joined old.sizes deeds (Called call ∷ []));
      said = said_called (sector_of old.sizes (place_of call.cmd)) old.sizes
          (length old.keeper.chronicle.opening.terrain.sectors) deeds call before after old.passes
          refl called there was.said;
      seated = among IsSeated was.seated seated;
      outside = among IsOutside was.outside
          (refused_outside (sector_of old.sizes (place_of call.cmd)) before.lists after.lists (call_in call) called);
      fates = fates_joined deeds (Called call ∷ []) ∙ append-nil (fates_among deeds) ∙ was.fates;
      edits = was.edits ∙ sym (edits_joined deeds (Called call ∷ []) ∙ append-nil (edits_in deeds));
    })
  where
    more : List DeedData
    more = deeds ++ Called call ∷ []

    IsSeated : EntryData → Type 0
    IsSeated c = IsSeatOf (names_of old) c.seat

    IsOutside : EntryData → Type 0
    IsOutside c = sector_of old.sizes (place_of c.cmd) ≡ None → c.answer ≡ Err OutOfWorld

    among : (P : EntryData → Type 0) → All P (calls_among deeds) → P call → All P (calls_among more)
    among P all one =
        subst (All P) (sym (calls_joined deeds (Called call ∷ [])))
        (All-append P (calls_among deeds) (call ∷ []) all (All-cons P call [] one (All-nil P)))

-- an edit was accepted: it and its mark stand behind the others
pub edit_done : (old new : SessionData) (seen : List Asked) (edit : Asked)
    → new ≡ session_data old.sizes (record old.keeper { seen = seen }) old.passes
    (old.edits ++ edit ∷ []) (old.marks ++ mark.Edit ∷ [])
    → Does old (Edited edit) new
edit_done old new seen edit is deeds was =
    subst (IsOf (deeds ++ Edited edit ∷ [])) (sym is) (record {
      marks = ap (λ marks. marks ++ mark.Edit ∷ []) was.marks
          ∙ sym (marks_joined old.sizes deeds (Edited edit ∷ []));
      said = said_still old.sizes (length old.keeper.chronicle.opening.terrain.sectors) deeds
          (Edited edit ∷ []) old.passes refl was.said;
      seated = same_calls IsSeated was.seated;
      outside = same_calls IsOutside was.outside;
      fates = fates_joined deeds (Edited edit ∷ []) ∙ append-nil (fates_among deeds) ∙ was.fates;
      edits = ap (λ edits. edits ++ edit ∷ []) was.edits ∙ sym (edits_joined deeds (Edited edit ∷ []));
    })
  where
    IsSeated : EntryData → Type 0
    IsSeated c = IsSeatOf (names_of old) c.seat

    IsOutside : EntryData → Type 0
    IsOutside c = sector_of old.sizes (place_of c.cmd) ≡ None → c.answer ≡ Err OutOfWorld

    same_calls : (P : EntryData → Type 0) → All P (calls_among deeds)
        → All P (calls_among (deeds ++ Edited edit ∷ []))
    same_calls P all =
        subst (All P) (sym (calls_joined deeds (Edited edit ∷ []) ∙ append-nil (calls_among deeds))) all
