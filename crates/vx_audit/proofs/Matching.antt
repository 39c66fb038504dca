-- Where the players' own lists equal the record, the marks of deeds are enough.
use Rattle.std.proofs.Common.{◌≡◌, ℕ, zero, suc, ◌+◌, ◌<◌, true, false, ◌&&◌, List, [], ◌∷◌, ◌++◌, length, map, set, slice_get, get_or, cond, nat_eq, Option, Some, None, refl, sym, ap, ◌∙◌, subst, inl, inr, arith, append_assoc, append-nil, get_or-set_same, get_or-set_other}
use Rattle.std.specs.List.{AllByRecursion, filter}
use Rattle.std.proofs.lemmas.Bool.{cases_Bool, eqb-true, eq-eqb, false≢true}
use Rattle.std.proofs.lemmas.List.Elements.{recursion_from_All}
use Rattle.std.proofs.lemmas.Option.{same_Some, get_or_from_slice_get, slice_get_within, unwrap_or-slice_get}
use Rattle.vx_geom.specs.declared.pos.Pos.{Pos}
use Rattle.vx_geom.specs.Sizes.{sector_count, sector_of}
use Rattle.vx_sector.specs.Commands.{place_of}
use Rattle.vx_sector.specs.SectorData.{SeatData, EntryData}
use Rattle.vx_tick.specs.declared.fate.Fate.{Fate}
use Rattle.vx_windows.specs.Sectors.{cells_of}
use Rattle.vx_record.specs.Calls.{call_in}
use Rattle.vx_record.specs.Chronicles.{TickData, IsSeatOf}
use Rattle.vx_record.specs.Said.{is_by, calls_of, window_at, closed_at, said_of}
use Rattle.vx_record.specs.declared.call.Call.{Call}
use Rattle.vx_record.proofs.Fronts.{calls_joined}
use Rattle.vx_play.specs.Plays.{PlayData, map_of}
use Rattle.vx_audit.specs.Deeds.{DeedData, Called, Ticked, is_from, same_number}
use Rattle.vx_audit.specs.Marks.{calls_among, fates_among, said_by}
use Rattle.vx_audit.specs.Walks.{WalkData, FollowsCall, FollowsTick, version_in, windows_in}
use Rattle.vx_audit.proofs.Filtered.{and_no, and_yes}
use Rattle.vx_audit.proofs.Standing.{Whole, Stands, ticks_left, open_left, first_windows}
use Rattle.vx_audit.proofs.Stepping.{ticks_whole, open_whole}
use Rattle.vx_audit.proofs.Taken.{TakesCallIn, TakesCall, TakesTick, IsToldOut}
use Rattle.vx_audit.proofs.Taking.{sector_there}

set_same : {X : Type 0} (xs : List X) (k : ℕ) (x y d : X) → slice_get xs k ≡ Some x → get_or (set xs k y) k d ≡ y
set_same xs k x y d found = get_or-set_same xs k y d (slice_get_within xs k x found)

-- what is left of a record, of a seat in sector k: the window at hand, and then the rest
abbrev pub later : ℕ → ℕ → List TickData → List (List EntryData) → List Call
later seat k [] pending = []
later seat k (t ∷ ts) pending = said_of seat k ts (get_or pending k [])

said_split : (seat k : ℕ) (ts : List TickData) (lefts pending : List (List EntryData))
    → said_of seat k (ticks_left ts lefts) (get_or (open_left ts lefts pending) k []) ≡ calls_of seat (get_or lefts k []) ++ later seat k ts pending
said_split seat k [] lefts pending = sym (append-nil (calls_of seat (get_or lefts k [])))
said_split seat k (t ∷ ts) lefts pending =
    let tick : TickData = record t { windows = lefts } in
    ap (calls_of seat) (append_assoc (window_at k tick) (closed_at k ts) (get_or pending k []))
    ∙ calls_joined seat (window_at k tick) (closed_at k ts ++ get_or pending k [])
    ∙ ap (λ es. calls_of seat es ++ said_of seat k ts (get_or pending k [])) (unwrap_or-slice_get lefts k [])

pub said_whole : (seat k : ℕ) (ts : List TickData) (pending : List (List EntryData))
    → said_of seat k ts (get_or pending k []) ≡ calls_of seat (get_or (windows_in ts pending) k []) ++ later seat k ts pending
said_whole seat k ts pending =
    (λ i. said_of seat k (sym (ticks_whole ts pending) i) (get_or (sym (open_whole ts pending) i) k []))
    ∙ said_split seat k ts (windows_in ts pending) pending

-- of the deeds that are left, the record that is left says the calls
pub record Rest (g : Whole) (w : WalkData) (deeds : List DeedData) : Type 0 where
  pub said : (seat k : ℕ) → seat < length g.names → k < sector_count g.sizes
      → said_by g.sizes seat k deeds ≡ calls_of seat (get_or w.lefts k []) ++ later seat k w.ticks w.pending
  pub seated : AllByRecursion (λ (call : EntryData). IsSeatOf g.names call.seat) (calls_among deeds)
  pub outside : AllByRecursion (IsToldOut g.sizes) (calls_among deeds)
  pub fates : fates_among deeds ≡ map (λ (tick : TickData). tick.fates) w.ticks

-- seats of one number are one
pub same_seat : (names : List (List ℕ)) (a b : SeatData) → IsSeatOf names a → IsSeatOf names b → a.number ≡ b.number → a ≡ b
same_seat names a b of_a of_b number =
    let name : a.name ≡ b.name = same_Some _ _ (sym of_a ∙ ap (slice_get names) number ∙ of_b) in
    λ i. record { number = number i; name = name i }

pub same_entry : (a b : EntryData) → a.seat ≡ b.seat → call_in a ≡ call_in b → a ≡ b
same_entry a b seat call = λ i. record { seat = seat i; cmd = (call i).cmd; answer = (call i).answer }

module _ (g : Whole) (w : WalkData) (call : EntryData) (deeds : List DeedData) (rest_is : Rest g w (Called call ∷ deeds)) where
  -- what the other deeds say, where the call is not of that seat in that sector
  not_said : (seat k : ℕ) → is_from g.sizes seat (Some k) call ≡ false → said_by g.sizes seat k deeds ≡ said_by g.sizes seat k (Called call ∷ deeds)
  not_said seat k other =
      sym (ap (λ b. map call_in (cond b (call ∷ filter (is_from g.sizes seat (Some k)) (calls_among deeds)) (filter (is_from g.sizes seat (Some k)) (calls_among deeds)))) other)

  -- a call out of the world
  passed_over : sector_of g.sizes (place_of call.cmd) ≡ None → Rest g w deeds
  passed_over none = record {
    said = λ seat k few within.
        not_said seat k (ap (λ o. is_by seat call && same_number o (Some k)) none ∙ and_no (is_by seat call)) ∙ rest_is.said seat k few within;
    seated = rest_is.seated.1;
    outside = rest_is.outside.1;
    fates = rest_is.fates;
  }

  module _ (j : ℕ) (at : sector_of g.sizes (place_of call.cmd) ≡ Some j) (e : EntryData) (rest : List EntryData) (found : slice_get w.lefts j ≡ Some (e ∷ rest))
      (number : e.seat.number ≡ call.seat.number) (sits : IsSeatOf g.names e.seat) (inside : j < sector_count g.sizes) where
    here : get_or w.lefts j [] ≡ e ∷ rest
    here = get_or_from_slice_get w.lefts j (e ∷ rest) [] found

    mine : is_from g.sizes call.seat.number (Some j) call ≡ true
    mine =
        ap (λ o. is_by call.seat.number call && same_number o (Some j)) at
        ∙ ap (λ b. is_by call.seat.number call && b) (eq-eqb j j refl) ∙ and_yes (is_by call.seat.number call)
        ∙ eq-eqb call.seat.number call.seat.number refl

    both : call_in call ∷ said_by g.sizes call.seat.number j deeds
        ≡ call_in e ∷ (calls_of call.seat.number rest ++ later call.seat.number j w.ticks w.pending)
    both =
        sym (ap (λ b. map call_in (cond b (call ∷ filter (is_from g.sizes call.seat.number (Some j)) (calls_among deeds)) (filter (is_from g.sizes call.seat.number (Some j)) (calls_among deeds)))) mine)
        ∙ rest_is.said call.seat.number j (slice_get_within g.names call.seat.number call.seat.name rest_is.seated.0) inside
        ∙ ap (λ es. calls_of call.seat.number es ++ later call.seat.number j w.ticks w.pending) here
        ∙ ap (λ b. map call_in (cond b (e ∷ filter (is_by call.seat.number) rest) (filter (is_by call.seat.number) rest)) ++ later call.seat.number j w.ticks w.pending)
        (eq-eqb e.seat.number call.seat.number number)

    -- the entry is the call
    pub is_it : e ≡ call
    is_it =
        let same : call_in call ≡ call_in e = let h = both in cc in
        same_entry e call (same_seat g.names e.seat call.seat sits rest_is.seated.0 number) (sym same)

    tails : said_by g.sizes call.seat.number j deeds ≡ calls_of call.seat.number rest ++ later call.seat.number j w.ticks w.pending
    tails = let h = both in cc

    said_next : (seat k : ℕ) → seat < length g.names → k < sector_count g.sizes → said_by g.sizes seat k deeds ≡ calls_of seat (get_or (set w.lefts j rest) k []) ++ later seat k w.ticks w.pending
    said_next seat k few within = elim (cases_Bool (nat_eq j k)) [
      | inr unlike ↦
          not_said seat k (ap (λ o. is_by seat call && same_number o (Some k)) at ∙ ap (λ b. is_by seat call && b) unlike ∙ and_no (is_by seat call))
          ∙ rest_is.said seat k few within
          ∙ ap (λ es. calls_of seat es ++ later seat k w.ticks w.pending)
          (sym (get_or-set_other w.lefts j k rest [] (λ same. false≢true (sym unlike ∙ eq-eqb j k (sym same)))))
      | inl alike ↦ in_sector seat k few (eqb-true j k alike)
    ]
      where
        in_sector : (seat k : ℕ) → seat < length g.names → j ≡ k → said_by g.sizes seat k deeds ≡ calls_of seat (get_or (set w.lefts j rest) k []) ++ later seat k w.ticks w.pending
        in_sector seat k few same = subst (λ n. said_by g.sizes seat n deeds ≡ calls_of seat (get_or (set w.lefts j rest) n []) ++ later seat n w.ticks w.pending) same (elim (cases_Bool (is_by seat call)) [
          | inl by ↦
              subst (λ s. said_by g.sizes s j deeds ≡ calls_of s (get_or (set w.lefts j rest) j []) ++ later s j w.ticks w.pending) (eqb-true call.seat.number seat by)
              (tails ∙ ap (λ es. calls_of call.seat.number es ++ later call.seat.number j w.ticks w.pending) (sym (set_same w.lefts j (e ∷ rest) rest [] found)))
          | inr other ↦
              not_said seat j (ap (λ b. b && same_number (sector_of g.sizes (place_of call.cmd)) (Some j)) other)
              ∙ rest_is.said seat j few inside
              ∙ ap (λ es. calls_of seat es ++ later seat j w.ticks w.pending) here
              ∙ ap (λ b. map call_in (cond b (e ∷ filter (is_by seat) rest) (filter (is_by seat) rest)) ++ later seat j w.ticks w.pending)
              (ap (λ n. nat_eq n seat) number ∙ other)
              ∙ ap (λ es. calls_of seat es ++ later seat j w.ticks w.pending) (sym (set_same w.lefts j (e ∷ rest) rest [] found))
        ])

    pub rest_next : Rest g (record w { lefts = set w.lefts j rest }) deeds
    rest_next = record { said = said_next; seated = rest_is.seated.1; outside = rest_is.outside.1; fates = rest_is.fates }

-- a call
pub call_follows : (g : Whole) (play : PlayData) (w : WalkData) (call : EntryData) (deeds : List DeedData) (next : WalkData) → Stands g play w
    → Rest g w (Called call ∷ deeds) → FollowsCall w call.seat.number next (sector_of g.sizes (place_of call.cmd))
    → TakesCall g.sizes w call next × Rest g next deeds
call_follows g play w call deeds next st rest_is follows = by (sector_of g.sizes (place_of call.cmd)) refl follows
  where
    by : (o : Option ℕ) → sector_of g.sizes (place_of call.cmd) ≡ o → FollowsCall w call.seat.number next o
        → TakesCallIn w call next (sector_of g.sizes (place_of call.cmd)) × Rest g next deeds
    by None none is = (
      subst (TakesCallIn w call next) (sym none) (rest_is.outside.0 none, is),
      subst (λ v. Rest g v deeds) (sym is) (passed_over g w call deeds rest_is none),
    )
    by (Some j) at is =
        let are = first_windows g.names (map_of play) w.ticks (play.ticks + 1) w.lefts w.pending w.last st.ticks st.pending in
        let there = sector_there g.names (version_in w.ticks w.last).policy (map cells_of play.sectors) w.lefts j is.entry is.rest are is.found in
        let sits = there.3 in
        let inside : j < sector_count g.sizes =
        subst (λ sizes. j < sector_count sizes) st.sizes (omega (arith, st.world.all, slice_get_within (map cells_of play.sectors) j there.0 there.1)) in
        let same = is_it g w call deeds rest_is j at is.entry is.rest is.found is.by sits inside in (
          subst (TakesCallIn w call next) (sym at) (record {
            rest = is.rest;
            found = subst (λ e. slice_get w.lefts j ≡ Some (e ∷ is.rest)) same is.found;
            after = is.after;
          }),
          subst (λ v. Rest g v deeds) (sym is.after) (rest_next g w call deeds rest_is j at is.entry is.rest is.found is.by sits inside),
        )

-- where nothing is left, nothing is said of it
done_at : (lefts : List (List EntryData)) (k : ℕ) → AllByRecursion (λ left. left ≡ []) lefts → get_or lefts k [] ≡ []
done_at [] k done = refl
done_at (left ∷ lefts) zero done = done.0
done_at (left ∷ lefts) (suc k) done = done_at lefts k done.1

-- a tick
pub tick_follows : (g : Whole) (w : WalkData) (fates : List (Pos × Fate)) (deeds : List DeedData) (next : WalkData)
    → Rest g w (Ticked fates ∷ deeds) → FollowsTick w next
    → TakesTick w fates next × Rest g next deeds
tick_follows g w fates deeds next rest_is is =
    let told : fates ∷ fates_among deeds ≡ is.tick.fates ∷ map (λ (tick : TickData). tick.fates) is.ticks =
    rest_is.fates ∙ ap (map (λ (tick : TickData). tick.fates)) is.there in
    let first : is.tick.fates ≡ fates = cc in
    let back : fates_among deeds ≡ map (λ (tick : TickData). tick.fates) is.ticks = cc in
    let done = recursion_from_All (λ left. left ≡ []) w.lefts is.closed in (
      record { tick = is.tick; ticks = is.ticks; there = is.there; closed = is.closed; told = first; counted = is.counted; after = is.after },
      subst (λ v. Rest g v deeds) (sym is.after) (record {
        said = λ seat k few within.
            rest_is.said seat k few within
            ∙ (λ i. calls_of seat (done_at w.lefts k done i) ++ later seat k (is.there i) w.pending)
            ∙ said_whole seat k is.ticks w.pending;
        seated = rest_is.seated;
        outside = rest_is.outside;
        fates = back;
      }),
    )
