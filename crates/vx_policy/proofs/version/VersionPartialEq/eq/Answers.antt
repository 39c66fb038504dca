use Rattle.std.proofs.lemmas.Bool.Decides.{Decides-at}
use Rattle.vx_policy.specs.VersionLaws.{version_decided}
use Rattle.vx_policy.proofs.version.VersionPartialEq.eq.Goals as goal

pub returns-clause-decides : goal.returns-clause-decides
returns-clause-decides c = Decides-at _ _ c.same_parts.ensures (version_decided _ _)
