-- What is kept of verdicts that were given.
use Rattle.std.specs.Prelude.{◌≡◌, ◌≤◌, length, List, [], Contains, Option, Box}
use Rattle.std.specs.declared.alloc.Global.{Global}
use Rattle.std.specs.Option.{option_map_or}
use Rattle.vx_region.specs.Regions.{Regions}
use Rattle.vx_region.specs.Subjects.{Named}
use Rattle.vx_decide.specs.declared.verdict.Verdict.{Verdict}
use Rattle.vx_decide.specs.Verdict.{verdict}
use Rattle.vx_index.specs.declared.asked.Asked.{Asked}
use Rattle.vx_index.specs.declared.kept.TheConstants.{MAX_KEPT}
use Rattle.lru.specs.LruCache.{LruCache}

-- questions with their verdicts
abbrev pub Verdicts : Type 0
Verdicts = List (Asked × Verdict)

-- those that are kept
abbrev pub kept_verdicts : Option (Box (LruCache Asked Verdict) Global) → Verdicts
kept_verdicts kept = option_map_or (λ cache. cache.value.entries) kept []

-- there is room for MAX_KEPT verdicts, and there are no more
pub record KeepsFew (cache : LruCache Asked Verdict) : Type 0 where
  pub room : cache.cap ≡ MAX_KEPT
  pub few : length cache.entries ≤ MAX_KEPT

-- what the policy says to the player who asked
abbrev pub verdict_on : Regions → Asked → Verdict
verdict_on rs asked = verdict rs (Named asked.name.text.bytes) asked.action asked.place

-- each of these verdicts is the one by these regions
abbrev pub AreVerdicts : Regions → Verdicts → Type 0
AreVerdicts rs vs = (e : Asked × Verdict) → Contains vs e → e.1 ≡ verdict_on rs e.0
