-- Calls that begin with those of a seat, window after window.
use Rattle.std.proofs.Common.{◌≡◌, ◌≢◌, ℕ, ◌+◌, ◌<◌, List, [], ◌∷◌, ◌++◌, length, take, drop, get_or, map, refl, sym, ap, ◌∙◌, append_assoc}
use Rattle.std.specs.List.{filter}
use Rattle.std.proofs.lemmas.List.{append_cancel_left, append-nil, map-append, map_more, take-append-drop}
use Rattle.std.proofs.lemmas.List.Elements.{filter-append}
use Rattle.std.proofs.lemmas.Option.{slice_get_read}
use Rattle.vx_base.proofs.Lists.{drop_at}
use Rattle.vx_sector.specs.SectorData.{EntryData}
use Rattle.vx_record.specs.Chronicles.{TickData}
use Rattle.vx_record.specs.Calls.{call_in}
use Rattle.vx_record.specs.Said.{is_by, calls_of, window_at, closed_at, said_of}
use Rattle.vx_record.specs.declared.call.Call.{Call}

-- a list in two parts, before an item and from it on
pub cut_at : {X Y : Type 0} (f : X → Y) (xs : List X) (i : ℕ) (x : X) → i < length xs
    → x ≡ get_or xs i x → map f xs ≡ map f (take i xs) ++ (f x ∷ map f (drop (i + 1) xs))
cut_at f xs i x within here =
    sym (ap (map f) (take-append-drop i xs)) ∙ map-append f (take i xs) (drop i xs)
    ∙ ap (λ rest. map f (take i xs) ++ map f rest)
    (drop_at xs i x (slice_get_read xs (length xs) i x refl within here))

-- the part before the next item
pub taken_to : {X Y : Type 0} (f : X → Y) (xs : List X) (i : ℕ) (x : X) → i < length xs
    → x ≡ get_or xs i x → map f (take (i + 1) xs) ≡ map f (take i xs) ++ f x ∷ []
taken_to f xs i x within here =
    map_more f xs i x within ∙ ap (λ y. map f (take i xs) ++ f y ∷ []) (sym here)

-- the calls in two lists of entries, one after the other
pub calls_joined : (seat : ℕ) (xs ys : List EntryData)
    → calls_of seat (xs ++ ys) ≡ calls_of seat xs ++ calls_of seat ys
calls_joined seat xs ys =
    ap (map call_in) (filter-append (is_by seat) xs ys)
    ∙ map-append call_in (filter (is_by seat) xs) (filter (is_by seat) ys)

-- the windows of ticks, one after the other
pub closed_joined : (k : ℕ) (xs ys : List TickData)
    → closed_at k (xs ++ ys) ≡ closed_at k xs ++ closed_at k ys
closed_joined k [] ys = refl
closed_joined k (tick ∷ xs) ys =
    ap (λ entries. window_at k tick ++ entries) (closed_joined k xs ys)
    ∙ sym (append_assoc (window_at k tick) (closed_at k xs) (closed_at k ys))

-- the windows of one tick more
pub closed_more : (k : ℕ) (ticks : List TickData) (tick : TickData)
    → closed_at k (ticks ++ tick ∷ []) ≡ closed_at k ticks ++ window_at k tick
closed_more k ticks tick =
    closed_joined k ticks (tick ∷ [])
    ∙ ap (λ entries. closed_at k ticks ++ entries) (append-nil (window_at k tick))

-- calls that begin with those in some entries, and go on with those in others
pub goes_on : (seat : ℕ) (front next : List EntryData) (calls rest left : List Call)
    → calls ≡ calls_of seat front ++ rest → rest ≡ calls_of seat next ++ left
    → calls ≡ calls_of seat (front ++ next) ++ left
goes_on seat front next calls rest left begun more =
    begun ∙ ap (λ r. calls_of seat front ++ r) more
    ∙ sym (append_assoc (calls_of seat front) (calls_of seat next) left)
    ∙ ap (λ cs. cs ++ left) (sym (calls_joined seat front next))

-- calls that don't go on with those in others don't begin with all of them
pub stops : (seat : ℕ) (front next after : List EntryData) (calls rest more : List Call)
    → calls ≡ calls_of seat front ++ rest
    → ((m : List Call) → rest ≢ calls_of seat next ++ m)
    → calls ≢ calls_of seat (front ++ (next ++ after)) ++ more
stops seat front next after calls rest more begun fails same =
    let parts : calls_of seat (front ++ (next ++ after)) ++ more
    ≡ calls_of seat front ++ (calls_of seat next ++ (calls_of seat after ++ more)) =
    ap (λ cs. cs ++ more) (calls_joined seat front (next ++ after)
    ∙ ap (λ cs. calls_of seat front ++ cs) (calls_joined seat next after))
    ∙ append_assoc (calls_of seat front) (calls_of seat next ++ calls_of seat after) more
    ∙ ap (λ cs. calls_of seat front ++ cs)
    (append_assoc (calls_of seat next) (calls_of seat after) more) in
    fails (calls_of seat after ++ more)
    (append_cancel_left (calls_of seat front) rest _ (sym begun ∙ same ∙ parts))

-- so they are not all that the record says, where the others are a tick's window
pub stops_at : (seat k : ℕ) (before : List TickData) (tick : TickData) (after : List TickData)
    (window : List EntryData) (calls rest : List Call)
    → calls ≡ calls_of seat (closed_at k before) ++ rest
    → ((m : List Call) → rest ≢ calls_of seat (window_at k tick) ++ m)
    → calls ≢ said_of seat k (before ++ (tick ∷ after)) window
stops_at seat k before tick after window calls rest begun fails same =
    let there : closed_at k (before ++ (tick ∷ after)) ++ window
    ≡ closed_at k before ++ (window_at k tick ++ (closed_at k after ++ window)) =
    ap (λ entries. entries ++ window) (closed_joined k before (tick ∷ after))
    ∙ append_assoc (closed_at k before) (window_at k tick ++ closed_at k after) window
    ∙ ap (λ entries. closed_at k before ++ entries)
    (append_assoc (window_at k tick) (closed_at k after) window) in
    stops seat (closed_at k before) (window_at k tick) (closed_at k after ++ window) calls rest []
    begun fails (same ∙ ap (calls_of seat) there ∙ sym (append-nil _))

-- nor where they are the open window
pub stops_last : (seat : ℕ) (closed window : List EntryData) (calls rest : List Call)
    → calls ≡ calls_of seat closed ++ rest
    → ((m : List Call) → rest ≢ calls_of seat window ++ m)
    → calls ≢ calls_of seat (closed ++ window)
stops_last seat closed window calls rest begun fails same =
    stops seat closed window [] calls rest [] begun fails
    (same ∙ ap (λ entries. calls_of seat (closed ++ entries)) (sym (append-nil window))
    ∙ sym (append-nil _))
