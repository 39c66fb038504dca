-- Lines written one after another.
use Rattle.std.proofs.Common.{◌≡◌, ℕ, suc, ◌+◌, ◌<◌, ◌≤◌, Option, List, [], ◌∷◌, ◌++◌, length, map, take, get_or, append_assoc, append-nil, refl, sym, ap, ◌∙◌, subst, arith}
use Rattle.std.specs.Io.KnownBytes.{Appends}
use Rattle.std.specs.List.{flat_map}
use Rattle.std.proofs.KnownBytes.{Appends-trans}
use Rattle.std.proofs.lemmas.List.{length-map, length-take-le, take_all, take_more}
use Rattle.std.proofs.lemmas.List.Concat.{flat_map-append}
use Rattle.vx_record.proofs.Fronts.{taken_to}
use Rattle.vx_sector.specs.SectorData.{EntryData}
use Rattle.vx_record.specs.Chronicles.{TickData}
use Rattle.vx_json.specs.Records.{call_line, calls_text, tick_text}

-- the lines of one more
pub one_more : {X Y : Type 0} (line : Y → List ℕ) (view : X → Y) (xs : List X) (i : ℕ) (x : X) → i < length xs → x ≡ get_or xs i x
    → flat_map line (map view (take (i + 1) xs)) ≡ flat_map line (map view (take i xs)) ++ line (view x)
one_more line view xs i x low is =
    ap (flat_map line) (taken_to view xs i x low is)
    ∙ flat_map-append line (map view (take i xs)) (view x ∷ [])
    ∙ ap (λ text. flat_map line (map view (take i xs)) ++ text) (append-nil (line (view x)))

-- the line of one more, at an index
pub next_more : {X : Type 0} (line : X → List ℕ) (xs : List X) (i : ℕ) (d : X) → i < length xs
    → flat_map line (take (i + 1) xs) ≡ flat_map line (take i xs) ++ line (get_or xs i d)
next_more line xs i d low =
    ap (flat_map line) (take_more xs i d low)
    ∙ flat_map-append line (take i xs) (get_or xs i d ∷ [])
    ∙ ap (λ text. flat_map line (take i xs) ++ text) (append-nil (line (get_or xs i d)))

-- the calls of one more window behind others
window_behind : (tick n : ℕ) (windows : List (List EntryData)) (window : List EntryData)
    → calls_text tick n (windows ++ window ∷ []) ≡ calls_text tick n windows ++ flat_map (call_line tick (n + length windows)) window
window_behind tick n [] window =
    append-nil (flat_map (call_line tick n) window) ∙ ap (λ m. flat_map (call_line tick m) window) (let e : n ≡ n + 0 = omega arith in e)
window_behind tick n (first ∷ windows) window =
    ap (λ text. flat_map (call_line tick n) first ++ text)
    (window_behind tick (n + 1) windows window
    ∙ ap (λ m. calls_text tick (n + 1) windows ++ flat_map (call_line tick m) window) (let e : (n + 1) + length windows ≡ n + suc (length windows) = omega arith in e))
    ∙ sym (append_assoc (flat_map (call_line tick n) first) (calls_text tick (n + 1) windows) (flat_map (call_line tick (n + suc (length windows))) window))

-- the calls of one more window that a tick closed
pub closed_more : (tick : ℕ) (windows : List (List EntryData)) (i : ℕ) → i < length windows
    → calls_text tick 0 (take (i + 1) windows) ≡ calls_text tick 0 (take i windows) ++ flat_map (call_line tick i) (get_or windows i [])
closed_more tick windows i low =
    ap (calls_text tick 0) (take_more windows i [] low)
    ∙ window_behind tick 0 (take i windows) (get_or windows i [])
    ∙ ap (λ m. calls_text tick 0 (take i windows) ++ flat_map (call_line tick m) (get_or windows i [])) long
  where
    long : 0 + length (take i windows) ≡ i
    long = omega (arith, length-take-le i windows (omega arith))

-- the calls of one more window
pub window_more : {X : Type 0} (tick : ℕ) (view : X → List EntryData) (xs : List X) (i : ℕ) (x : X) → i < length xs → x ≡ get_or xs i x
    → calls_text tick 0 (map view (take (i + 1) xs)) ≡ calls_text tick 0 (map view (take i xs)) ++ flat_map (call_line tick i) (view x)
window_more tick view xs i x low is =
    ap (calls_text tick 0) (taken_to view xs i x low is)
    ∙ window_behind tick 0 (map view (take i xs)) (view x)
    ∙ ap (λ m. calls_text tick 0 (map view (take i xs)) ++ flat_map (call_line tick m) (view x)) long
  where
    long : 0 + length (map view (take i xs)) ≡ i
    long = omega (arith, length-map (take i xs) view, length-take-le i xs (omega arith))

-- what was written behind a text
pub written_on : (a b c : Option (List ℕ)) (text last all : List ℕ) → all ≡ text ++ last → Appends a b text → Appends b c last → Appends a c all
written_on a b c text last all is first then = subst (Appends a c) (sym is) (Appends-trans a b c text last first then)

-- all ticks are told, and then the open windows
pub record_whole : {X : Type 0} (view : X → TickData) (ticks all : List X) (i : ℕ) (windows : List (List EntryData)) → length ticks ≤ i → ticks ≡ all
    → flat_map tick_text (map view all) ++ calls_text (length (map view all) + 1) 0 windows
    ≡ flat_map tick_text (map view (take i ticks)) ++ calls_text (length ticks + 1) 0 windows
record_whole view ticks all i windows over same = rw (take_all i ticks over, same, length-map all view) refl
