-- What a world hands out is a record, in the words in which its settlement and its keeper tell of it.
use Rattle.std.proofs.Common.{◌≡◌, ◌+◌, List, [], length, sym, subst}
use Rattle.vx_policy.specs.Asked.{Asked}
use Rattle.vx_policy.specs.declared.version.Version.{Version}
use Rattle.vx_region.specs.Regions.{Regions}
use Rattle.vx_windows.specs.Sectors.{first_version}
use Rattle.vx_record.specs.Chronicles.{ChronicleData, IsRun, AreWindows, AreGrown, map_after, version_by}
use Rattle.vx_audit.specs.Records.{RecordData, IsRecord, IsByEdits}

-- the chronicle is a run, and the open windows are told of by the chronicle and the version of the keeper
pub is_record : (r : RecordData) (c : ChronicleData) (v : Version) → r.chronicle ≡ c → r.version ≡ v → IsRun r.chronicle
    → AreWindows c.opening.names v.policy (map_after c.opening.terrain c.ticks).sectors r.windows → IsRecord r
is_record r c v chronicle version run are = record {
  run = run;
  pending = subst (λ (d : ChronicleData). AreWindows d.opening.names r.version.policy (map_after d.opening.terrain d.ticks).sectors r.windows) (sym chronicle)
      (subst (λ (u : Version). AreWindows c.opening.names u.policy (map_after c.opening.terrain c.ticks).sectors r.windows) (sym version) are);
}

-- the versions are by these edits on the first policy, with which the world opened
pub by_edits : (first : Regions) (edits : List Asked) (r : RecordData) → r.chronicle.opening.policy ≡ first
    → (r.chronicle.ticks ≡ [] → r.version ≡ first_version first)
    → AreGrown first edits 0 r.chronicle.ticks r.version.edits
    → r.version ≡ version_by first edits r.version.edits (length r.chronicle.ticks + 1)
    → IsByEdits edits r
by_edits first edits r opens begins grown last = record {
  begins = λ none. subst (λ (policy : Regions). r.version ≡ first_version policy) (sym opens) (begins none);
  grown = subst (λ (policy : Regions). AreGrown policy edits 0 r.chronicle.ticks r.version.edits) (sym opens) grown;
  last = subst (λ (policy : Regions). r.version ≡ version_by policy edits r.version.edits (length r.chronicle.ticks + 1)) (sym opens) last;
}
