-- Counts of the entries of each sector, with one tick more.
use Rattle.std.proofs.Common.{◌≡◌, ℕ, zero, suc, ◌+◌, ◌≤◌, ◌<◌, List, [], ◌∷◌, ◌++◌, length, map, get_or, replicate, refl, sym, ap, ◌∙◌, arith, length-append, add_comm, subst}
use Rattle.std.proofs.Math.ListN.{set}
use Rattle.std.specs.List.{All, sum, sum_by}
use Rattle.std.proofs.lemmas.List.Sums.{sum_by-cons}
use Rattle.std.proofs.lemmas.Option.{unwrap_or-slice_get}
use Rattle.std.proofs.lemmas.List.Elements.{All-same, All-map}
use Rattle.vx_sector.specs.SectorData.{SectorData, EntryData}
use Rattle.vx_sector.specs.Windows.{count_of, most_entries, renewed}
use Rattle.vx_windows.specs.Sectors.{entries_of}
use Rattle.vx_record.specs.Chronicles.{TickData, ChronicleData, IsTickOn, map_after}
use Rattle.vx_record.proofs.Growing.{ticks_one_more, begins_one_more}
use Rattle.vx_record.specs.Said.{window_at, closed_at}
use Rattle.vx_record.specs.Archives.{closed_of, IsCounted, IsArchive, IsNextTick, calls_on, next_counts, CountsGoOn, CountsAgreeAgain}
use Rattle.vx_record.proofs.Fronts.{closed_more}

-- windows without entries leave the counts as they were
pub next_empty : (counts : List ℕ) → next_counts counts (replicate (length counts) []) ≡ counts
next_empty [] = refl
next_empty (n ∷ counts) = λ i. n_more i ∷ next_empty counts i
  where
    n_more : n + 0 ≡ n
    n_more = omega arith

-- the entries of one window in the place of none
pub next_set : (counts : List ℕ) (windows : List (List EntryData)) (k : ℕ) (window : List EntryData)
    → k < length counts → k < length windows → get_or windows k [] ≡ []
    → next_counts counts (set windows k window)
    ≡ set (next_counts counts windows) k (get_or (next_counts counts windows) k 0 + length window)
next_set [] windows k window within near empty = absurd (omega (arith, within))
next_set (n ∷ counts) [] k window within near empty = absurd (omega (arith, near))
next_set (n ∷ counts) (first ∷ windows) zero window within near empty =
    ap (λ m. m ∷ next_counts counts windows) (omega (arith, ap length empty))
next_set (n ∷ counts) (first ∷ windows) (suc k) window within near empty =
    ap (λ rest. (n + length first) ∷ rest)
    (next_set counts windows k window (omega (arith, within)) (omega (arith, near)) empty)

-- there are as many counts as before
pub length_next : (counts : List ℕ) (windows : List (List EntryData))
    → length (next_counts counts windows) ≡ length counts
length_next [] windows = refl
length_next (n ∷ counts) [] = refl
length_next (n ∷ counts) (window ∷ windows) = ap suc (length_next counts windows)

-- each is the count before and the entries of the window
pub next_at : (counts : List ℕ) (windows : List (List EntryData)) (k : ℕ) → k < length counts
    → get_or (next_counts counts windows) k 0 ≡ get_or counts k 0 + length (get_or windows k [])
next_at [] windows k within = absurd (omega arith)
next_at (n ∷ counts) [] k within = omega arith
next_at (n ∷ counts) (window ∷ windows) zero within = refl
next_at (n ∷ counts) (window ∷ windows) (suc k) within = next_at counts windows k (omega arith)

-- with one tick more, each count is still the number of that sector's entries
pub counted_more : (counts : List ℕ) (ticks : List TickData) (tick : TickData)
    → IsCounted counts ticks → IsCounted (next_counts counts tick.windows) (ticks ++ tick ∷ [])
counted_more counts ticks tick counted k within =
    let here : k < length counts = omega (arith, length_next counts tick.windows) in
    next_at counts tick.windows k here
    ∙ ap (λ n. n + length (get_or tick.windows k [])) (counted k here)
    ∙ ap (λ w. length (closed_at k ticks) + length w) (sym (unwrap_or-slice_get tick.windows k []))
    ∙ sym (length-append (closed_at k ticks) (window_at k tick))
    ∙ ap length (sym (closed_more k ticks tick))

-- as many entries more are counted as the windows have
total_next : (counts : List ℕ) (windows : List (List EntryData)) → length windows ≡ length counts
    → sum (next_counts counts windows) ≡ sum counts + sum_by length windows
total_next [] [] many = refl
total_next [] (window ∷ windows) many = absurd (omega (arith, many))
total_next (n ∷ counts) [] many = absurd (omega (arith, many))
total_next (n ∷ counts) (window ∷ windows) many =
    omega (
      arith,
      sum_by-cons (λ x. x) (n + length window) (next_counts counts windows),
      sum_by-cons (λ x. x) n counts,
      sum_by-cons length window windows,
      total_next counts windows (omega (arith, many)),
    )

-- and so many are on record
pub calls_more : (ticks : List TickData) (tick : TickData) (windows : List (List EntryData))
    → calls_on (ticks ++ tick ∷ []) windows
    ≡ calls_on ticks [] + sum_by length tick.windows + sum_by length windows
calls_more [] tick windows = omega arith
calls_more (t ∷ ticks) tick windows = omega (arith, calls_more ticks tick windows)

total_more : (counts : List ℕ) (ticks : List TickData) (tick : TickData)
    → length tick.windows ≡ length counts → sum counts ≡ calls_on ticks []
    → sum (next_counts counts tick.windows) ≡ calls_on (ticks ++ tick ∷ []) []
total_more counts ticks tick many total =
    omega (arith, total_next counts tick.windows many, total, calls_more ticks tick [])

-- counts of nothing sum up to nothing
pub zeros_total : (n : ℕ) → sum (replicate n 0) ≡ 0
zeros_total zero = refl
zeros_total (suc n) = omega (arith, sum_by-cons (λ x. x) 0 (replicate n 0), zeros_total n)

-- the calls of open windows stand beside those of the ticks
pub calls_apart : (ticks : List TickData) (windows : List (List EntryData))
    → calls_on ticks windows ≡ calls_on ticks [] + sum_by length windows
calls_apart [] windows = omega arith
calls_apart (t ∷ ticks) windows = omega (arith, calls_apart ticks windows)

counts_apart : (sectors : List SectorData)
    → sum_by count_of sectors ≡ sum (map closed_of sectors) + sum_by length (map entries_of sectors)
counts_apart [] = refl
counts_apart (s ∷ sectors) =
    omega (
      arith,
      sum_by-cons count_of s sectors,
      sum_by-cons (λ x. x) s.closed (map closed_of sectors),
      sum_by-cons length s.entries (map entries_of sectors),
      counts_apart sectors,
    )

-- where the counts are those of the ticks, and the sectors' own, the sectors count all on record
pub all_counted : (ticks : List TickData) (counts : List ℕ) (sectors : List SectorData)
    → sum counts ≡ calls_on ticks [] → counts ≡ map closed_of sectors
    → sum_by count_of sectors ≡ calls_on ticks (map entries_of sectors)
all_counted ticks counts sectors total same =
    omega (arith, counts_apart sectors, ap sum same, total, calls_apart ticks (map entries_of sectors))

-- an archive with its next tick is one
pub archive_grown : (c : ChronicleData) (counts : List ℕ) (tick : TickData) → IsArchive c counts
    → IsNextTick c tick → length tick.windows ≡ length counts
    → IsArchive (record c { ticks = c.ticks ++ tick ∷ [] }) (next_counts counts tick.windows)
archive_grown c counts tick archive next many =
    let names = c.opening.names in
    let here : IsTickOn names (map_after c.opening.terrain c.ticks) (1 + length c.ticks) tick =
    subst (λ n. IsTickOn names (map_after c.opening.terrain c.ticks) n tick) (add_comm (length c.ticks) 1) next.on in
    record {
      run = record {
        ticks = ticks_one_more names c.opening.terrain 1 c.ticks tick archive.run.ticks here;
        first = begins_one_more c.opening.policy c.ticks tick archive.run.first next.first;
      };
      each = length_next counts tick.windows ∙ archive.each;
      counted = counted_more counts c.ticks tick archive.counted;
      total = total_more counts c.ticks tick many archive.total;
    }

pub counts_go_on : CountsGoOn
counts_go_on [] = refl
counts_go_on (s ∷ sectors) = λ i. add_comm s.closed (length s.entries) i ∷ counts_go_on sectors i

pub counts_agree_again : CountsAgreeAgain
unfolding renewed
counts_agree_again version [] cells = refl
counts_agree_again version (s ∷ sectors) [] =
    ap (λ ns. count_of s ∷ ns) (counts_agree_again version sectors [])
counts_agree_again version (s ∷ sectors) (c ∷ cells) =
    ap (λ ns. count_of s ∷ ns) (counts_agree_again version sectors cells)

-- the counts after sectors' windows fit where each sector's count does
pub counts_fit : (sectors : List SectorData) → All (λ (s : SectorData). count_of s ≤ most_entries) sectors
    → All (λ n. n ≤ most_entries) (next_counts (map closed_of sectors) (map entries_of sectors))
counts_fit sectors all =
    All-same (λ n. n ≤ most_entries) _ _ (counts_go_on sectors)
    (All-map (λ n. n ≤ most_entries) count_of sectors all)
