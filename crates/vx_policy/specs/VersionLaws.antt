-- The test of two versions answers yes exactly where they are one, and so meets the laws of `==`.
use Rattle.std.specs.Prelude.{◌≡◌}
use Rattle.std.specs.Bool.{Decides}
use Rattle.std.specs.Cmp.{IsEquivalence, decided}
use Rattle.std.proofs.Common.{ap}
use Rattle.std.proofs.lemmas.Bool.Decides.{Decides-eqb, Decides-and, Decides-like}
use Rattle.vx_region.specs.RegionsLaws.{regions_decided}
use Rattle.vx_policy.specs.SameVersions.{same_version}
use Rattle.vx_policy.specs.declared.version.Version.{Version}

pub version_decided : (a b : Version) → Decides (same_version a b) (a ≡ b)
unfolding same_version
version_decided a b =
    Decides-like _
    (λ h i. record { tick = h.0.0 i; edits = h.0.1 i; policy = h.1 i })
    (λ e. ((ap (λ v. v.tick) e, ap (λ v. v.edits) e), ap (λ v. v.policy) e))
    (Decides-and _ _
    (Decides-and _ _ (Decides-eqb a.tick b.tick) (Decides-eqb a.edits b.edits))
    (regions_decided a.policy b.policy))

pub version_equiv : IsEquivalence same_version
version_equiv = decided same_version version_decided
