use Rattle.std.specs.Prelude.{Bool, ◌&&◌, nat_eq}
use Rattle.vx_region.specs.SameRegions.{same_regions}
use Rattle.vx_policy.specs.declared.version.Version.{Version}

-- the same number, the same count of edits and the same policy
unfoldable pub same_version : Version → Version → Bool
same_version a b =
    nat_eq a.tick b.tick && nat_eq a.edits b.edits && same_regions a.policy b.policy
