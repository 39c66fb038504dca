-- What is looked at on the way to the domains that two regions share.
use Rattle.std.specs.Prelude.{ℕ, Bool, nat_lt, length}
use Rattle.std.specs.List.{list_any}
use Rattle.vx_region.specs.Regions.{Regions}
use Rattle.vx_region.specs.Ancestry.{ancestors}
use Rattle.vx_region.specs.Association.{domains_at, has_domain_along}

-- the region of the number lists some domain itself
unfoldable pub lists_domains : Regions → ℕ → Bool
lists_domains rs n = nat_lt 0 (length (domains_at rs n))

-- some region of its ancestry does
unfoldable pub lists_domains_along : Regions → ℕ → Bool
lists_domains_along rs n = list_any (lists_domains rs) (ancestors rs n)

-- the region of the second number lists a domain of the first itself
unfoldable pub lists_domain_of : Regions → ℕ → ℕ → Bool
lists_domain_of rs b a = list_any (λ name. has_domain_along rs name b) (domains_at rs a)
