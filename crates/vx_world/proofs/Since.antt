-- Ticks of a keeper that knows what it knew, and of a world that rests but for some sectors.
use Rattle.std.proofs.Common.{◌≡◌, ℕ, ◌+◌, List, [], ◌++◌, Result, Ok, Err, IfOk, length, map, Some, append_assoc, append-nil, sym, ap, subst, ◌∙◌}
use mathlib.Core.List.{IsPrefix}
use Rattle.vx_geom.specs.declared.pos.Pos.{Pos}
use Rattle.vx_region.specs.Regions.{Regions}
use Rattle.vx_sector.specs.SectorData.{SectorData}
use Rattle.vx_sector.specs.Windows.{count_of}
use Rattle.vx_tick.specs.declared.fate.Fate.{Fate}
use Rattle.vx_record.specs.Chronicles.{version_by}
use Rattle.vx_record.specs.Settling.{AreKnown}
use Rattle.vx_keeper.specs.Busy.{AreBusyOf, resting_but}
use Rattle.vx_keeper.specs.Keepers.{IsKeeper, KeeperData, KnowsAsBefore, chronicle_next, fates_next, known, map_next, resting, version_next}
use Rattle.vx_keeper.specs.Marks.{WorldData}
use Rattle.vx_keeper.proofs.Among.{but_each, but_known}
use Rattle.vx_keeper.proofs.Resting.{rest_counts, rest_each, rest_known}
use Rattle.vx_world.specs.Ticks.{HasTicked}

-- a list that begins one which begins a third begins that
begins_on : {X : Type 0} (xs ys zs : List X) → IsPrefix xs ys → IsPrefix ys zs → IsPrefix xs zs
begins_on xs ys zs before after =
    (before.0 ++ after.0, sym (append_assoc xs before.0 after.0) ∙ ap (λ vs. vs ++ after.0) before.1 ∙ after.1)

-- what follows from what is said of the value in an `Ok`
pub if_ok : {T E : Type 0} (r : Result T E) {P Q : T → Type 0} → IfOk r P → ((x : T) → P x → Q x) → IfOk r Q
if_ok (Ok x) said follows = follows x said
if_ok (Err e) said follows = tt

-- the keeper still knows what it knew
pub knew : (a b c : KeeperData) → KnowsAsBefore a b → KnowsAsBefore b c → KnowsAsBefore a c
knew a b c first then = record {
  chronicle = then.chronicle ∙ first.chronicle;
  counts = then.counts ∙ first.counts;
  world = then.world ∙ first.world;
  seen = begins_on a.seen b.seen c.seen first.seen then.seen;
}

-- what the keeper was, with what it has seen since
as_before : (a b : KeeperData) → KnowsAsBefore a b → b ≡ record a { seen = b.seen; is_roomy = b.is_roomy }
as_before a b same = λ i. record {
  chronicle = same.chronicle i;
  counts = same.counts i;
  world = same.world i;
  seen = b.seen;
  is_roomy = b.is_roomy;
}

-- a tick of a keeper is one of what it was before it saw more edits
pub ticked_since : (first : Regions) (all : ℕ) (a b c : KeeperData) (fates : List (Pos × Fate)) → KnowsAsBefore a b
    → HasTicked first all b fates c → HasTicked first all a fates c
ticked_since first all a b c fates same ticked =
    let done = subst (λ k. HasTicked first all k fates c) (as_before a b same) ticked in (
      done.0,
      record {
        each = done.1.each;
        known = done.1.known;
        chronicle = done.1.chronicle;
        counts = done.1.counts;
        map = done.1.map;
        version = done.1.version;
        seen = begins_on a.seen b.seen c.seen same.seen done.1.seen;
      },
      done.2,
    )

-- sectors that are what the keeper had of them are what it has of them
pub still_busy : (a b : KeeperData) (busy : List SectorData) → KnowsAsBefore a b → AreBusyOf a busy → AreBusyOf b busy
still_busy a b busy same are = subst (λ k. AreBusyOf k busy) (sym (as_before a b same)) are

-- a keeper that goes on to what the rules give for these sectors has made their tick
ticked_by : (first : Regions) (all : ℕ) (k next : KeeperData) (sectors : List SectorData) (fates : List (Pos × Fate))
    → length sectors ≡ all → AreKnown (known k) (map Some sectors)
    → next.chronicle ≡ chronicle_next k sectors → next.counts ≡ map count_of sectors
    → next.world ≡ record { map = map_next k sectors; version = version_next first k } → next.seen ≡ k.seen
    → fates ≡ fates_next k sectors → HasTicked first all k fates next
ticked_by first all k next sectors fates each are chronicle counts world seen told = (
  sectors,
  record {
    each = each;
    known = are;
    chronicle = chronicle;
    counts = counts;
    map = ap (λ (w : WorldData). w.map) world;
    version =
        ap (λ (w : WorldData). w.version) world
        ∙ (λ i. version_by first (sym seen i) (length (sym seen i)) (length k.chronicle.ticks + 2));
    seen = ([], append-nil k.seen ∙ sym seen);
  },
  told,
)

-- a tick of sectors that all rest is one of the world
pub rested_ticked : (first : Regions) (all : ℕ) (k next : KeeperData) (fates : List (Pos × Fate)) → IsKeeper first all k
    → next.chronicle ≡ chronicle_next k (resting k) → next.counts ≡ k.counts
    → next.world ≡ record { map = map_next k (resting k); version = version_next first k } → next.seen ≡ k.seen
    → fates ≡ fates_next k (resting k) → HasTicked first all k fates next
rested_ticked first all k next fates keeper chronicle counts world seen told =
    ticked_by first all k next (resting k) fates (rest_each first all k keeper) (rest_known first all k keeper) chronicle
    (counts ∙ sym (rest_counts first all k keeper)) world seen told

-- and so is one of sectors that rest but for some, which are what the keeper has of them
pub but_ticked : (first : Regions) (all : ℕ) (k next : KeeperData) (busy : List SectorData) (fates : List (Pos × Fate))
    → IsKeeper first all k → AreBusyOf k busy
    → next.chronicle ≡ chronicle_next k (resting_but k busy) → next.counts ≡ map count_of (resting_but k busy)
    → next.world ≡ record { map = map_next k (resting_but k busy); version = version_next first k } → next.seen ≡ k.seen
    → fates ≡ fates_next k (resting_but k busy) → HasTicked first all k fates next
but_ticked first all k next busy fates keeper are chronicle counts world seen told =
    ticked_by first all k next (resting_but k busy) fates (but_each first all k keeper busy are)
    (but_known first all k keeper busy are) chronicle counts world seen told
