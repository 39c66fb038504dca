-- What is left of the calls of each seat behind entries, and the one caller of each seat.
use Rattle.std.proofs.Common.{◌≡◌, ◌≢◌, ℕ, zero, suc, ◌+◌, ◌<◌, ◌≤◌, Bool, List, [], ◌∷◌, ◌++◌, length, take, get_or, set, map, cond, nat_eq, Option, Some, None, MatchOption, refl, sym, ap, ◌∙◌, subst, inl, inr, arith, append-nil, get_or-set_same, get_or-set_other}
use Rattle.std.specs.List.{All, Contains}
use Rattle.std.proofs.lemmas.Bool.{cases_eq, eq-eqb, ne_eqb}
use Rattle.std.proofs.lemmas.List.{append_cancel_left, get_or-take, length-take-le}
use Rattle.std.proofs.lemmas.List.Elements.{All-contains, All-more}
use Rattle.std.proofs.lemmas.List.Sums.{sum_by-cons, get_or-le-sum_by}
use Rattle.vx_sector.specs.SectorData.{SectorData, EntryData}
use Rattle.vx_record.specs.Chronicles.{TickData}
use Rattle.vx_record.specs.Calls.{call_in}
use Rattle.vx_record.specs.Said.{calls_of, window_at, closed_at}
use Rattle.vx_record.specs.Settling.{CallerData, callers_at, IsEachOnce, sector_in, open_entries, Agrees, SomeDiffers}
use Rattle.vx_record.specs.Rests.{AreBehind, IsAstray, AreSaid, IsUnsaid}
use Rattle.vx_record.specs.declared.call.Call.{Call}
use Rattle.vx_record.proofs.Fronts.{calls_joined, closed_joined, goes_on, stops}

-- an entry of another seat has no call of this one
none_of : (seat : ℕ) (e : EntryData) → e.seat.number ≢ seat → calls_of seat (e ∷ []) ≡ []
none_of seat e other =
    ap (λ b. map call_in (cond b (e ∷ []) [])) (ne_eqb e.seat.number seat other)

-- so it takes nothing from the calls of these seats, where it is of none of them
pub passed_over : (seats : ℕ) (lists : List (List Call)) (e : EntryData) → seats ≤ e.seat.number
    → AreBehind seats lists (e ∷ []) lists
passed_over seats lists e out seat below =
    let other : e.seat.number ≢ seat = omega arith in
    ap (λ cs. cs ++ get_or lists seat []) (sym (none_of seat e other))

-- and where it is of one of them, it takes only from that seat's
pub one_taken : (seats : ℕ) (lists : List (List Call)) (e : EntryData) (rest : List Call)
    → e.seat.number < length lists
    → get_or lists e.seat.number [] ≡ calls_of e.seat.number (e ∷ []) ++ rest
    → AreBehind seats lists (e ∷ []) (set lists e.seat.number rest)
one_taken seats lists e rest within begun seat below = elim (cases_eq seat e.seat.number) [
  | inl same ↦
      subst (λ n. get_or lists n [] ≡ calls_of n (e ∷ []) ++ get_or (set lists e.seat.number rest) n []) (sym same)
      (begun ∙ ap (λ cs. calls_of e.seat.number (e ∷ []) ++ cs)
      (sym (get_or-set_same lists e.seat.number rest [] within)))
  | inr other ↦
      let apart : e.seat.number ≢ seat = λ same. other (sym same) in
      ap (λ cs. cs ++ get_or lists seat []) (sym (none_of seat e apart))
      ∙ ap (λ cs. calls_of seat (e ∷ []) ++ cs)
      (sym (get_or-set_other lists e.seat.number seat rest [] other))
]

-- behind further entries
pub behind_more : (seats : ℕ) (calls rests left : List (List Call)) (front next : List EntryData)
    → AreBehind seats calls front rests → AreBehind seats rests next left
    → AreBehind seats calls (front ++ next) left
behind_more seats calls rests left front next begun more seat below =
    goes_on seat front next (get_or calls seat []) (get_or rests seat []) (get_or left seat [])
    (begun seat below) (more seat below)

-- calls that don't go on with those in further entries don't begin with all of them
pub astray_more : (seats : ℕ) (calls rests : List (List Call)) (front next after : List EntryData)
    (seat : ℕ) → AreBehind seats calls front rests → IsAstray seats rests next seat
    → IsAstray seats calls (front ++ (next ++ after)) seat
astray_more seats calls rests front next after seat begun astray = record {
  below = astray.below;
  differs = λ more same.
      stops seat front next after (get_or calls seat []) (get_or rests seat []) more
      (begun seat astray.below) astray.differs same;
}

-- nor with those in the windows of ticks, where the further ones are a tick's window
pub astray_at : (seats : ℕ) (calls rests : List (List Call)) (k : ℕ) (before : List TickData)
    (tick : TickData) (after : List TickData) (seat : ℕ)
    → AreBehind seats calls (closed_at k before) rests → IsAstray seats rests (window_at k tick) seat
    → IsAstray seats calls (closed_at k (before ++ (tick ∷ after))) seat
astray_at seats calls rests k before tick after seat begun astray =
    subst (λ es. IsAstray seats calls es seat) (sym (closed_joined k before (tick ∷ after)))
    (astray_more seats calls rests (closed_at k before) (window_at k tick) (closed_at k after) seat
    begun astray)

-- so they are not those among the entries, whatever follows these
pub unsaid_front : (seats : ℕ) (calls : List (List Call)) (front next : List EntryData) (seat : ℕ)
    → IsAstray seats calls front seat → IsUnsaid seats calls (front ++ next) seat
unsaid_front seats calls front next seat astray = record {
  below = astray.below;
  differs = λ same.
      astray.differs (calls_of seat next) (same ∙ calls_joined seat front next);
}

-- nor where nothing does
pub unsaid_all : (seats : ℕ) (calls : List (List Call)) (entries : List EntryData) (seat : ℕ)
    → IsAstray seats calls entries seat → IsUnsaid seats calls entries seat
unsaid_all seats calls entries seat astray = record {
  below = astray.below;
  differs = λ same. astray.differs [] (same ∙ sym (append-nil (calls_of seat entries)));
}

-- what is left in the end tells whether they are
pub told_by_rests : (seats : ℕ) (calls left : List (List Call)) (entries : List EntryData)
    (found : Option ℕ) → AreBehind seats calls entries left
    → MatchOption found ((seat : ℕ) → seat < seats → get_or left seat [] ≡ [])
    (λ seat. (seat < seats) × (get_or left seat [] ≢ []))
    → MatchOption found (AreSaid seats calls entries) (λ seat. IsUnsaid seats calls entries seat)
told_by_rests seats calls left entries None begun none = λ seat below.
    begun seat below ∙ ap (λ cs. calls_of seat entries ++ cs) (none seat below)
    ∙ append-nil (calls_of seat entries)
told_by_rests seats calls left entries (Some seat) begun some = record {
  below = some.0;
  differs = λ same.
      some.1 (append_cancel_left (calls_of seat entries) (get_or left seat []) []
      (sym (begun seat some.0) ∙ same ∙ sym (append-nil (calls_of seat entries))));
}

-- calls behind some entries that are those among others are those among all of them
pub said_more : (seats : ℕ) (calls rests : List (List Call)) (front next : List EntryData)
    → AreBehind seats calls front rests → AreSaid seats rests next
    → AreSaid seats calls (front ++ next)
said_more seats calls rests front next begun said = λ seat below.
    begun seat below ∙ ap (λ cs. calls_of seat front ++ cs) (said seat below)
    ∙ sym (calls_joined seat front next)

-- and those that are not, are not
pub unsaid_more : (seats : ℕ) (calls rests : List (List Call)) (front next : List EntryData)
    (seat : ℕ) → AreBehind seats calls front rests → IsUnsaid seats rests next seat
    → IsUnsaid seats calls (front ++ next) seat
unsaid_more seats calls rests front next seat begun unsaid = record {
  below = unsaid.below;
  differs = λ same.
      unsaid.differs (append_cancel_left (calls_of seat front) (get_or rests seat [])
      (calls_of seat next)
      (sym (begun seat unsaid.below) ∙ same ∙ calls_joined seat front next));
}

-- how much a caller counts for a seat
abbrev count_for : ℕ → CallerData → ℕ
count_for seat c = cond (nat_eq c.seat seat) 1 0

abbrev count_if : Bool → ℕ
count_if there = cond there 1 0

one_there : (seat : ℕ) (c : CallerData) → c.seat ≡ seat → count_for seat c ≡ 1
one_there seat c same = ap count_if (eq-eqb c.seat seat same)

none_there : (seat : ℕ) (c : CallerData) → c.seat ≢ seat → count_for seat c ≡ 0
none_there seat c other = ap count_if (ne_eqb c.seat seat other)

-- where a seat has one caller, that caller stands in one place
only_at : (seat : ℕ) (cs : List CallerData) (j i : ℕ) (d e : CallerData) → j < length cs
    → i < length cs → (get_or cs j d).seat ≡ seat → (get_or cs i e).seat ≡ seat
    → callers_at seat cs ≡ 1 → j ≡ i
only_at seat [] j i d e j_in i_in here there one = absurd (omega (arith, j_in))
only_at seat (c ∷ cs) zero zero d e j_in i_in here there one = refl
only_at seat (c ∷ cs) zero (suc i) d e j_in i_in here there one =
    absurd (omega (
      arith,
      one,
      sum_by-cons (count_for seat) c cs,
      one_there seat c here,
      get_or-le-sum_by (count_for seat) cs i e (omega arith),
      one_there seat (get_or cs i e) there,
    ))
only_at seat (c ∷ cs) (suc j) zero d e j_in i_in here there one =
    absurd (omega (
      arith,
      one,
      sum_by-cons (count_for seat) c cs,
      one_there seat c there,
      get_or-le-sum_by (count_for seat) cs j d (omega arith),
      one_there seat (get_or cs j d) here,
    ))
only_at seat (c ∷ cs) (suc j) (suc i) d e j_in i_in here there one =
    let rest : callers_at seat cs ≡ 1 =
    omega (
      arith,
      one,
      sum_by-cons (count_for seat) c cs,
      get_or-le-sum_by (count_for seat) cs i e (omega arith),
      one_there seat (get_or cs i e) there,
    ) in
    ap suc (only_at seat cs j i d e (omega arith) (omega arith) here there rest)

-- a seat that has a caller
pub record HasCaller (seat : ℕ) (cs : List CallerData) : Type 0 where
  pub caller : CallerData
  pub place : ℕ
  pub within : place < length cs
  pub there : get_or cs place caller ≡ caller
  pub seated : caller.seat ≡ seat

pub caller_of : (seat : ℕ) (cs : List CallerData) → callers_at seat cs ≡ 1 → HasCaller seat cs
caller_of seat [] one = absurd (omega (arith, one))
caller_of seat (c ∷ cs) one = elim (cases_eq c.seat seat) [
  | inl same ↦ record { caller = c; place = 0; within = omega arith; there = refl; seated = same }
  | inr other ↦
      let has = caller_of seat cs
      (omega (arith, one, none_there seat c other, sum_by-cons (count_for seat) c cs)) in
      record {
        caller = has.caller;
        place = suc has.place;
        within = omega (arith, has.within);
        there = has.there;
        seated = has.seated;
      }
]

-- the list of a caller for sector k stands in the table at its seat
abbrev pub IsPut : List (List Call) → ℕ → CallerData → Type 0
IsPut table k c = get_or table c.seat [] ≡ get_or c.lists k []

-- with that of one caller more
pub put_more : (cs : List CallerData) (table : List (List Call)) (k i : ℕ) (c : CallerData)
    → i < length cs → c ≡ get_or cs i c → callers_at c.seat cs ≡ 1 → c.seat < length table
    → All (IsPut table k) (take i cs)
    → All (IsPut (set table c.seat (get_or c.lists k [])) k) (take (i + 1) cs)
put_more cs table k i c within here one room so_far =
    All-more (IsPut table' k) cs i c within earlier
    (subst (IsPut table' k) here (get_or-set_same table c.seat (get_or c.lists k []) [] room))
  where
    table' : List (List Call)
    table' = set table c.seat (get_or c.lists k [])

    long : length (take i cs) ≡ i
    long = length-take-le i cs (omega arith)

    other : (j : ℕ) (d : CallerData) → j < i → (get_or cs j d).seat ≢ c.seat
    other j d before same =
        let there : (get_or cs i c).seat ≡ c.seat = ap (λ (x : CallerData). x.seat) (sym here) in
        let both : j ≡ i = only_at c.seat cs j i d c (omega arith) within same there one in
        absurd (omega arith)

    earlier : All (IsPut table' k) (take i cs)
    earlier j d below =
        let before : j < i = omega (arith, below, long) in
        let same : get_or (take i cs) j d ≡ get_or cs j d = get_or-take i cs j d before in
        let apart : (get_or (take i cs) j d).seat ≢ c.seat =
        λ at. other j d before (ap (λ (x : CallerData). x.seat) (sym same) ∙ at) in
        get_or-set_other table c.seat (get_or (take i cs) j d).seat (get_or c.lists k []) [] apart
        ∙ so_far j d below

-- a table of the lists of all callers, whose calls are what the record says, tells that these are
pub all_told : (seats : ℕ) (cs : List CallerData) (table : List (List Call)) (k : ℕ)
    (ticks : List TickData) (places : List (Option SectorData)) → IsEachOnce seats cs
    → All (IsPut table k) cs
    → AreSaid seats table (closed_at k ticks ++ open_entries (sector_in places k))
    → All (λ (c : CallerData). Agrees ticks places c k) cs
all_told seats cs table k ticks places once put said = λ j d below.
    sym (put j d below) ∙ said (get_or cs j d).seat (once.only j d below)

-- and one in which the calls of a seat are not, that its caller's are not
pub one_told : (seats : ℕ) (cs : List CallerData) (table : List (List Call)) (k : ℕ)
    (ticks : List TickData) (places : List (Option SectorData)) (seat : ℕ) → IsEachOnce seats cs
    → All (IsPut table k) cs → k < length places
    → IsUnsaid seats table (closed_at k ticks ++ open_entries (sector_in places k)) seat
    → SomeDiffers ticks places cs seat k
one_told seats cs table k ticks places seat once put within unsaid =
    let has = caller_of seat cs (once.once seat unsaid.below) in
    let among : Contains cs has.caller = (has.place, has.within, has.there) in
    record {
      caller = has.caller;
      among = among;
      seated = has.seated;
      there = within;
      differs = λ agrees.
          unsaid.differs (subst (λ n. get_or table n []
          ≡ calls_of n (closed_at k ticks ++ open_entries (sector_in places k))) has.seated
          (All-contains (IsPut table k) cs has.caller put among ∙ agrees));
    }
