-- Tables of the calls of the seats, one for each of several sectors from a number on.
use Rattle.std.proofs.Common.{◌≡◌, ℕ, ◌+◌, ◌-◌, ◌<◌, ◌≤◌, List, [], ◌∷◌, ◌++◌, length, take, get_or, set, Option, inl, inr, sym, ap, subst, ◌∙◌, arith}
use Rattle.std.specs.List.{All}
use Rattle.std.proofs.lemmas.Bool.{cases_eq}
use Rattle.std.proofs.lemmas.List.{get_or-set_same, get_or-set_other, take_more}
use Rattle.vx_sector.specs.SectorData.{SectorData, EntryData}
use Rattle.vx_windows.specs.Sectors.{entries_in}
use Rattle.vx_record.specs.Chronicles.{TickData}
use Rattle.vx_record.specs.Kept.{windows_kept, AreInOrder}
use Rattle.vx_record.specs.Said.{calls_of, closed_at, window_at}
use Rattle.vx_record.specs.Settling.{CallerData, IsEachOnce, sector_in, open_entries, Agrees, SomeDiffers}
use Rattle.vx_record.specs.Rests.{AreBehind, IsAstray, AreAllBehind, IsAstrayAt, AreAllSaid, IsUnsaidAt}
use Rattle.vx_record.specs.declared.call.Call.{Call}
use Rattle.vx_record.specs.declared.kept_window.KeptWindow.{KeptWindow}
use Rattle.vx_record.proofs.Behind.{IsPut, behind_more, unsaid_front, unsaid_more, said_more, all_told, one_told, astray_at}
use Rattle.vx_record.proofs.Fronts.{closed_more}
use Rattle.vx_record.proofs.Keeping.{as_many, empty_at, is_below, kept_at, kept_before, later_than, put_last}

-- entries that are the same of each of these sectors
pub behind_alike : (seats first : ℕ) (tables rests : List (List (List Call)))
    (entries others : ℕ → List EntryData) → ((k : ℕ) → first ≤ k → others k ≡ entries k)
    → AreAllBehind seats first tables entries rests → AreAllBehind seats first tables others rests
behind_alike seats first tables rests entries others same begun = λ at within.
    subst (λ es. AreBehind seats (get_or tables at []) es (get_or rests at []))
    (sym (same (first + at) (omega arith))) (begun at within)

pub astray_alike : (seats first : ℕ) (tables : List (List (List Call)))
    (entries others : ℕ → List EntryData) (seat at : ℕ)
    → ((k : ℕ) → first ≤ k → others k ≡ entries k)
    → IsAstrayAt seats first tables entries seat at → IsAstrayAt seats first tables others seat at
astray_alike seats first tables entries others seat at same astray = record {
  there = astray.there;
  astray =
      subst (λ es. IsAstray seats (get_or tables at []) es seat)
      (sym (same (first + at) (omega arith))) astray.astray;
}

-- behind a tick more
pub tick_more : (seats first : ℕ) (tables rests left : List (List (List Call)))
    (before : List TickData) (tick : TickData) → length rests ≡ length tables
    → AreAllBehind seats first tables (λ k. closed_at k before) rests
    → AreAllBehind seats first rests (λ k. window_at k tick) left
    → AreAllBehind seats first tables (λ k. closed_at k (before ++ tick ∷ [])) left
tick_more seats first tables rests left before tick long begun more = λ at within.
    subst (λ es. AreBehind seats (get_or tables at []) es (get_or left at []))
    (sym (closed_more (first + at) before tick))
    (behind_more seats (get_or tables at []) (get_or rests at []) (get_or left at [])
    (closed_at (first + at) before) (window_at (first + at) tick) (begun at within)
    (more at (omega (arith, within, long))))

-- calls that don't go on with those in a tick's windows don't begin with those of all ticks
pub tick_astray : (seats first : ℕ) (tables rests : List (List (List Call)))
    (before : List TickData) (tick : TickData) (after : List TickData) (seat at : ℕ)
    → length rests ≡ length tables
    → AreAllBehind seats first tables (λ k. closed_at k before) rests
    → IsAstrayAt seats first rests (λ k. window_at k tick) seat at
    → IsAstrayAt seats first tables (λ k. closed_at k (before ++ (tick ∷ after))) seat at
tick_astray seats first tables rests before tick after seat at long begun astray =
    let there : at < length tables = omega (arith, astray.there, long) in
    record {
      there = there;
      astray =
          astray_at seats (get_or tables at []) (get_or rests at []) (first + at) before tick after
          seat (begun at there) astray.astray;
    }

-- a window that is kept, at its turn: none of its sector was kept before
none_before : (sectors : ℕ) (kept : List KeptWindow) (i : ℕ) (window : KeptWindow)
    → AreInOrder sectors kept → i < length kept → window ≡ get_or kept i window
    → get_or (windows_kept sectors (take i kept)) window.sector [] ≡ []
none_before sectors kept i window order within here =
    empty_at sectors (take i kept) window.sector
    (λ j d near. let early = later_than sectors kept i window order within here j d near in
    λ same. absurd (omega (arith, early, same)))

-- those before it, and it
with_window : (sectors : ℕ) (kept : List KeptWindow) (i : ℕ) (window : KeptWindow)
    → AreInOrder sectors kept → i < length kept → window ≡ get_or kept i window
    → windows_kept sectors (take (i + 1) kept)
    ≡ set (windows_kept sectors (take i kept)) window.sector (entries_in window.entries)
with_window sectors kept i window order within here =
    ap (windows_kept sectors) (take_more kept i window within
    ∙ ap (λ w. take i kept ++ w ∷ []) (sym here))
    ∙ put_last sectors (take i kept) window (later_than sectors kept i window order within here)

-- behind a window more, whose calls are taken in its table
pub window_more : (seats first sectors : ℕ) (tables rests : List (List (List Call)))
    (kept : List KeptWindow) (i : ℕ) (window : KeptWindow) (left : List (List Call)) (at : ℕ)
    → AreInOrder sectors kept → i < length kept → window ≡ get_or kept i window
    → first + at ≡ window.sector → at < length rests
    → AreAllBehind seats first tables
    (λ k. get_or (windows_kept sectors (take i kept)) k []) rests
    → AreBehind seats (get_or rests at []) (entries_in window.entries) left
    → AreAllBehind seats first tables
    (λ k. get_or (windows_kept sectors (take (i + 1) kept)) k []) (set rests at left)
window_more seats first sectors tables rests kept i window left at order within here numbered room
    begun taken = λ j below.
    let before = windows_kept sectors (take i kept) in
    let entries = entries_in window.entries in
    let now = with_window sectors kept i window order within here in
    elim (cases_eq j at) [
      | inl same ↦
          let sector : first + j ≡ window.sector = omega (arith, same, numbered) in
          let long : window.sector < length before =
          omega (arith, as_many sectors (take i kept), is_below sectors kept i window order within here) in
          let none : get_or before (first + j) [] ≡ [] =
          ap (λ n. get_or before n []) sector ∙ none_before sectors kept i window order within here in
          let all : get_or (windows_kept sectors (take (i + 1) kept)) (first + j) []
          ≡ get_or before (first + j) [] ++ entries =
          ap (λ ws. get_or ws (first + j) []) now
          ∙ ap (λ n. get_or (set before window.sector entries) n []) sector
          ∙ get_or-set_same before window.sector entries [] long
          ∙ ap (λ es. es ++ entries) (sym none) in
          let put : get_or (set rests at left) j [] ≡ left =
          ap (λ n. get_or (set rests at left) n []) same ∙ get_or-set_same rests at left [] room in
          let next : AreBehind seats (get_or rests j []) entries left =
          subst (λ n. AreBehind seats (get_or rests n []) entries left) (sym same) taken in
          subst (λ es. AreBehind seats (get_or tables j []) es (get_or (set rests at left) j []))
          (sym all)
          (subst (λ cs. AreBehind seats (get_or tables j []) (get_or before (first + j) [] ++ entries) cs)
          (sym put)
          (behind_more seats (get_or tables j []) (get_or rests j []) left
          (get_or before (first + j) []) entries (begun j below) next))
      | inr other ↦
          let same : get_or (windows_kept sectors (take (i + 1) kept)) (first + j) []
          ≡ get_or before (first + j) [] =
          ap (λ ws. get_or ws (first + j) []) now
          ∙ get_or-set_other before window.sector (first + j) entries [] (omega (arith, other, numbered)) in
          let still : get_or (set rests at left) j [] ≡ get_or rests j [] =
          get_or-set_other rests at j left [] (omega (arith, other)) in
          subst (λ es. AreBehind seats (get_or tables j []) es (get_or (set rests at left) j []))
          (sym same)
          (subst (λ cs. AreBehind seats (get_or tables j []) (get_or before (first + j) []) cs)
          (sym still) (begun j below))
    ]

-- calls that don't go on with those in a window that is kept
pub window_astray : (seats first sectors : ℕ) (tables rests : List (List (List Call)))
    (kept : List KeptWindow) (i : ℕ) (window : KeptWindow) (seat at : ℕ)
    → AreInOrder sectors kept → i < length kept → window ≡ get_or kept i window
    → first + at ≡ window.sector → at < length tables
    → AreAllBehind seats first tables
    (λ k. get_or (windows_kept sectors (take i kept)) k []) rests
    → IsAstray seats (get_or rests at []) (entries_in window.entries) seat
    → IsAstrayAt seats first tables (λ k. get_or (windows_kept sectors kept) k []) seat at
window_astray seats first sectors tables rests kept i window seat at order within here numbered
    there begun astray =
    let before = windows_kept sectors (take i kept) in
    let none : get_or before (first + at) [] ≡ [] =
    ap (λ n. get_or before n []) numbered ∙ none_before sectors kept i window order within here in
    let found : get_or (windows_kept sectors kept) (first + at) [] ≡ entries_in window.entries =
    ap (λ n. get_or (windows_kept sectors kept) n []) numbered
    ∙ kept_at sectors kept i window order within here in
    let still : AreBehind seats (get_or tables at []) [] (get_or rests at []) =
    subst (λ es. AreBehind seats (get_or tables at []) es (get_or rests at [])) none (begun at there) in
    let gone : IsAstray seats (get_or tables at []) (entries_in window.entries) seat = record {
      below = astray.below;
      differs = λ more same. astray.differs more (sym (still seat astray.below) ∙ same);
    } in
    record {
      there = there;
      astray = subst (λ es. IsAstray seats (get_or tables at []) es seat) (sym found) gone;
    }

-- behind all windows, where those from a number on are of sectors that have no table
pub windows_ended : (seats first sectors : ℕ) (tables rests : List (List (List Call)))
    (kept : List KeptWindow) (i : ℕ)
    → ((j : ℕ) (d : KeptWindow) → i ≤ j → j < length kept → first + length tables ≤ (get_or kept j d).sector)
    → AreAllBehind seats first tables
    (λ k. get_or (windows_kept sectors (take i kept)) k []) rests
    → AreAllBehind seats first tables (λ k. get_or (windows_kept sectors kept) k []) rests
windows_ended seats first sectors tables rests kept i far begun = λ at within.
    subst (λ es. AreBehind seats (get_or tables at []) es (get_or rests at []))
    (sym (kept_before sectors kept i (first + at)
    (λ j d after near. let out = far j d after near in λ same. absurd (omega (arith, out, same, within)))))
    (begun at within)

-- what tables of the lists of all callers tell, whose calls are those in the closed windows and then
-- those in the open ones
pub all_agree : (seats first end : ℕ) (cs : List CallerData) (tables rests : List (List (List Call)))
    (looked ticks : List TickData) (places : List (Option SectorData)) → IsEachOnce seats cs
    → end ≡ first + length tables → length rests ≡ length tables
    → ((at : ℕ) → at < length tables → All (IsPut (get_or tables at []) (first + at)) cs)
    → ((k : ℕ) → first ≤ k → k < end → closed_at k looked ≡ closed_at k ticks)
    → AreAllBehind seats first tables (λ k. closed_at k looked) rests
    → AreAllSaid seats first rests (λ k. open_entries (sector_in places k))
    → (k : ℕ) → first ≤ k → k < end → All (λ (c : CallerData). Agrees ticks places c k) cs
all_agree seats first end cs tables rests looked ticks places once ends long put same begun said =
    λ k from below.
    let at : ℕ = k - first in
    let number : first + at ≡ k = omega arith in
    let there : at < length tables = omega (arith, number, ends, below) in
    let window = open_entries (sector_in places (first + at)) in
    subst (λ n. All (λ (c : CallerData). Agrees ticks places c n) cs) number
    (all_told seats cs (get_or tables at []) (first + at) ticks places once (put at there)
    (subst (λ es. (seat : ℕ) → seat < seats → get_or (get_or tables at []) seat [] ≡ calls_of seat (es ++ window))
    (same (first + at) (omega arith) (omega (arith, number, below)))
    (said_more seats (get_or tables at []) (get_or rests at []) (closed_at (first + at) looked) window
    (begun at there) (said at (omega (arith, there, long))))))

-- one of them, where a seat's calls don't begin with those in the closed windows
pub differs_closed : (seats first end : ℕ) (cs : List CallerData) (tables : List (List (List Call)))
    (looked ticks : List TickData) (places : List (Option SectorData)) (seat at : ℕ)
    → IsEachOnce seats cs → end ≡ first + length tables → end ≤ length places
    → ((at : ℕ) → at < length tables → All (IsPut (get_or tables at []) (first + at)) cs)
    → ((k : ℕ) → first ≤ k → k < end → closed_at k looked ≡ closed_at k ticks)
    → IsAstrayAt seats first tables (λ k. closed_at k looked) seat at
    → SomeDiffers ticks places cs seat (first + at)
differs_closed seats first end cs tables looked ticks places seat at once ends within put same astray =
    let here : first + at < end = omega (arith, astray.there, ends) in
    one_told seats cs (get_or tables at []) (first + at) ticks places seat once (put at astray.there)
    (omega (arith, here, within))
    (unsaid_front seats (get_or tables at []) (closed_at (first + at) ticks)
    (open_entries (sector_in places (first + at))) seat
    (subst (λ es. IsAstray seats (get_or tables at []) es seat) (same (first + at) (omega arith) here)
    astray.astray))

-- or don't go on with those in the open one, and end there
pub differs_open : (seats first end : ℕ) (cs : List CallerData)
    (tables rests : List (List (List Call))) (looked ticks : List TickData)
    (places : List (Option SectorData)) (seat at : ℕ) → IsEachOnce seats cs
    → end ≡ first + length tables → end ≤ length places → length rests ≡ length tables
    → ((at : ℕ) → at < length tables → All (IsPut (get_or tables at []) (first + at)) cs)
    → ((k : ℕ) → first ≤ k → k < end → closed_at k looked ≡ closed_at k ticks)
    → AreAllBehind seats first tables (λ k. closed_at k looked) rests
    → IsUnsaidAt seats first rests (λ k. open_entries (sector_in places k)) seat at
    → SomeDiffers ticks places cs seat (first + at)
differs_open seats first end cs tables rests looked ticks places seat at once ends within long put same
    begun unsaid =
    let there : at < length tables = omega (arith, unsaid.there, long) in
    let here : first + at < end = omega (arith, there, ends) in
    one_told seats cs (get_or tables at []) (first + at) ticks places seat once (put at there)
    (omega (arith, here, within))
    (unsaid_more seats (get_or tables at []) (get_or rests at []) (closed_at (first + at) ticks)
    (open_entries (sector_in places (first + at))) seat
    (subst (λ es. AreBehind seats (get_or tables at []) es (get_or rests at []))
    (same (first + at) (omega arith) here) (begun at there))
    unsaid.unsaid)
