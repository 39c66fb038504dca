-- How many calls of each seat come next, where a block has so many.
use Rattle.std.proofs.Common.{◌≡◌, ℕ, zero, suc, ◌+◌, ◌<◌, ◌≤◌, Bool, true, false, List, [], ◌∷◌, ◌++◌, length, map, filter, get_or, set, slice_get, cond, nat_eq, if◌then◌else◌, Some, refl, sym, ap, ◌∙◌, subst, inl, inr, arith, append_assoc, length-append, get_or-set_same, get_or-set_other}
use Rattle.std.proofs.lemmas.Bool.{cases_lt}
use Rattle.std.proofs.lemmas.List.{get_or_past, map-append}
use Rattle.std.proofs.lemmas.List.Elements.{filter-append}
use Rattle.std.proofs.lemmas.Option.{get_or_from_slice_get, slice_get_within}
use Rattle.vx_sector.specs.SectorData.{EntryData}
use Rattle.vx_record.specs.Said.{is_by}
use Rattle.vx_audit.specs.Counts.{SpotData, call_mark, is_spot, count_at, AreCounted, IsOneMore, IsOneLess, AreNone, IsCounted, IsAfter, AreAfter}
use Rattle.vx_audit.specs.Walks.{WalkData, AreParts, FollowsBlock}
use Rattle.vx_audit.specs.declared.mark.Mark.{Mark}
use Rattle.vx_audit.specs.declared.mark.Mark.TheVariants as mark

-- of one element more, one more passes or none
pub one_passes : {X : Type 0} (p : X → Bool) (xs : List X) (x : X)
    → length (filter p (xs ++ x ∷ [])) ≡ (if p x then 1 else 0) + length (filter p xs)
one_passes p xs x = ap length (filter-append p xs (x ∷ [])) ∙ length-append (filter p xs) (filter p (x ∷ [])) ∙ by (p x)
  where
    by : (b : Bool) → length (filter p xs) + length (cond b (x ∷ []) []) ≡ (if b then 1 else 0) + length (filter p xs)
    by true = omega arith
    by false = omega arith

-- the marks begin with calls that are counted in the table
pub record IsBegun (marks : List Mark) (counts : List (List ℕ)) (left : List Mark) : Type 0 where
  pub spots : List SpotData
  pub parts : marks ≡ map call_mark spots ++ left
  pub counted : AreCounted spots counts

pub none_begun : (marks : List Mark) (counts : List (List ℕ)) → ((k seat : ℕ) → count_at counts k seat ≡ 0) → IsBegun marks counts marks
none_begun marks counts none = record { spots = []; parts = refl; counted = λ seat k. none k seat }

pub one_begun : (marks : List Mark) (counts : List (List ℕ)) (left others : List Mark) (spot : SpotData) (more : List (List ℕ))
    → IsBegun marks counts left → left ≡ call_mark spot ∷ others → IsOneMore counts spot more → IsBegun marks more others
one_begun marks counts left others spot more is next one = record {
  spots = is.spots ++ spot ∷ [];
  parts = is.parts ∙ ap (λ ms. map call_mark is.spots ++ ms) next
      ∙ sym (append_assoc (map call_mark is.spots) (call_mark spot ∷ []) others)
      ∙ ap (λ ms. ms ++ others) (sym (map-append call_mark is.spots (spot ∷ [])));
  counted = λ seat k.
      one seat k ∙ ap (λ n. (if is_spot seat k spot then 1 else 0) + n) (is.counted seat k)
      ∙ sym (one_passes (is_spot seat k) is.spots spot);
}

pub all_begun : (marks : List Mark) (counts : List (List ℕ)) (left others : List Mark) → IsBegun marks counts left → left ≡ mark.End ∷ others
    → IsCounted marks counts others
all_begun marks counts left others is next =
    record { spots = is.spots; parts = is.parts ∙ ap (λ ms. map call_mark is.spots ++ ms) next; counted = is.counted }

-- of each seat, this front and what is due have as many entries as the row
pub record IsTakenBy (row : List ℕ) (left : List EntryData) (due : List ℕ) (rest : List EntryData) : Type 0 where
  pub front : List EntryData
  pub parts : left ≡ front ++ rest
  pub counts : (seat : ℕ) → get_or row seat 0 ≡ length (filter (is_by seat) front) + get_or due seat 0

pub none_by : (row : List ℕ) (left : List EntryData) → IsTakenBy row left row left
none_by row left = record { front = []; parts = refl; counts = λ seat. omega arith }

pub one_by : (row : List ℕ) (left : List EntryData) (due : List ℕ) (rest : List EntryData) (entry : EntryData) (fewer : List ℕ) (others : List EntryData)
    → IsTakenBy row left due rest → rest ≡ entry ∷ others → IsOneLess due entry.seat.number fewer → IsTakenBy row left fewer others
one_by row left due rest entry fewer others is next less = record {
  front = is.front ++ entry ∷ [];
  parts = is.parts ∙ ap (λ es. is.front ++ es) next ∙ sym (append_assoc is.front (entry ∷ []) others);
  counts = λ seat.
      let longer : length (filter (is_by seat) (is.front ++ entry ∷ [])) ≡ (if nat_eq entry.seat.number seat then 1 else 0) + length (filter (is_by seat) is.front) =
      one_passes (is_by seat) is.front entry in
      let mine = is.counts seat in
      let fell = less seat in
      omega (arith, longer, mine, fell);
}

pub all_by : (row : List ℕ) (left : List EntryData) (due : List ℕ) (rest : List EntryData) → IsTakenBy row left due rest → AreNone due
    → IsAfter row left rest
all_by row left due rest is none = record {
  front = is.front;
  parts = is.parts;
  counts = λ seat. let mine = is.counts seat in let no_more = none seat in omega (arith, mine, no_more);
}

-- of the first k sectors' windows the fronts are taken, and the others are as they were
pub record AreTaken (k : ℕ) (counts : List (List ℕ)) (old now : List (List EntryData)) : Type 0 where
  pub done : (j : ℕ) → j < k → IsAfter (get_or counts j []) (get_or old j []) (get_or now j [])
  pub same : (j : ℕ) → k ≤ j → get_or now j [] ≡ get_or old j []

pub none_taken : (counts : List (List ℕ)) (lefts : List (List EntryData)) → AreTaken 0 counts lefts lefts
none_taken counts lefts = record { done = λ j below. absurd (omega arith); same = λ j past. refl }

pub taken_more : (k : ℕ) (counts : List (List ℕ)) (old now : List (List EntryData)) (due : List ℕ) (left rest : List EntryData)
    → AreTaken k counts old now → get_or counts k [] ≡ due → slice_get now k ≡ Some left → IsAfter due left rest
    → AreTaken (k + 1) counts old (set now k rest)
taken_more k counts old now due left rest are row found is = record {
  done = λ j below. elim (cases_lt j k) [
    | inl earlier ↦
        subst (λ es. IsAfter (get_or counts j []) (get_or old j []) es)
        (sym (get_or-set_other now k j rest [] (λ same. omega (arith, same, earlier)))) (are.done j earlier)
    | inr later ↦
        let here : k ≡ j = omega (arith, below, later) in
        subst (λ i. IsAfter (get_or counts i []) (get_or old i []) (get_or (set now k rest) i [])) here
        (subst (λ es. IsAfter (get_or counts k []) (get_or old k []) es) (sym (get_or-set_same now k rest [] (slice_get_within now k left found)))
        (subst (λ es. IsAfter (get_or counts k []) es rest) (sym (get_or_from_slice_get now k left [] found) ∙ are.same k (omega arith))
        (subst (λ r. IsAfter r left rest) (sym row) is)))
  ];
  same = λ j past. get_or-set_other now k j rest [] (λ same. omega (arith, same, past)) ∙ are.same j (omega (arith, past));
}

pub taken_all : (k : ℕ) (counts : List (List ℕ)) (old now : List (List EntryData)) → AreTaken k counts old now → length counts ≤ k
    → AreAfter counts old now
taken_all k counts old now are long j = elim (cases_lt j k) [
  | inl below ↦ are.done j below
  | inr past ↦
      subst (λ row. IsAfter row (get_or old j []) (get_or now j [])) (sym (get_or_past counts j [] (omega (arith, past, long))))
      (subst (λ es. IsAfter [] es (get_or now j [])) (are.same j past) (record { front = []; parts = refl; counts = λ seat. refl }))
]

-- where nothing is left, nothing comes before it
no_front : {X : Type 0} (xs ys : List X) → [] ≡ xs ++ ys → xs ≡ []
no_front [] ys parts = refl
no_front (x ∷ xs) ys parts = cc

-- the fronts of all windows
fronts_of : (due : ℕ → List ℕ) (lefts rests : List (List EntryData)) → length lefts ≡ length rests
    → ((k : ℕ) → IsAfter (due k) (get_or lefts k []) (get_or rests k []))
    → (fronts : List (List EntryData)) × AreParts lefts fronts rests
    × ((seat k : ℕ) → length (filter (is_by seat) (get_or fronts k [])) ≡ get_or (due k) seat 0)
fronts_of due [] [] long each =
    ([], tt, λ seat k. ap (λ es. length (filter (is_by seat) es)) (sym (no_front (each k).front [] (each k).parts)) ∙ (each k).counts seat)
fronts_of due [] (rest ∷ rests) long each = absurd (omega (arith, long))
fronts_of due (left ∷ lefts) [] long each = absurd (omega (arith, long))
fronts_of due (left ∷ lefts) (rest ∷ rests) long each =
    let others = fronts_of (λ k. due (suc k)) lefts rests (omega (arith, long)) (λ k. each (suc k)) in
    ((each 0).front ∷ others.0, ((each 0).parts, others.1), λ seat k. at others.0 others.2 seat k)
  where
    at : (fronts : List (List EntryData)) → ((seat k : ℕ) → length (filter (is_by seat) (get_or fronts k [])) ≡ get_or (due (suc k)) seat 0)
        → (seat k : ℕ) → length (filter (is_by seat) (get_or ((each 0).front ∷ fronts) k [])) ≡ get_or (due k) seat 0
    at fronts those seat zero = (each 0).counts seat
    at fronts those seat (suc k) = those seat k

-- the whole block
pub block_by : (w : WalkData) (spots : List SpotData) (counts : List (List ℕ)) (rests : List (List EntryData)) → length w.lefts ≡ length rests
    → AreCounted spots counts → AreAfter counts w.lefts rests → FollowsBlock w spots (record w { lefts = rests })
block_by w spots counts rests long counted are =
    let fronts = fronts_of (λ k. get_or counts k []) w.lefts rests long are in record {
      fronts = fronts.0;
      rests = rests;
      parts = fronts.1;
      counts = λ seat k. fronts.2 seat k ∙ counted seat k;
      after = refl;
    }
