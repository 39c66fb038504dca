-- What the greatest priority of the members says of each priority.
use Rattle.std.proofs.Common.{◌≡◌, ℤ, Bool, true, false, ◌&&◌, ◌||◌, not, if◌then◌else◌, int_le, List, [], ◌∷◌, ℕ, ◌+◌, drop, slice_get, Option, Some, None, refl, ap, sym, ◌∙◌, arith}
use Rattle.std.specs.Int.{int_max}
use Rattle.std.proofs.lemmas.Int.{ints}
use Rattle.std.proofs.Math.Bool.{and-true, or-true}
use Rattle.vx_base.proofs.Lists.{drop_at}
use Rattle.vx_region.specs.Regions.{Entry}
use Rattle.vx_decide.specs.RegionGroups.{Members, none_higher}
use Rattle.vx_decide.specs.Tops.{raised, top_from, top, is_at_most}

above_both : (a b z : ℤ) → int_le (int_max a b) z ≡ (int_le a z && int_le b z)
above_both a b z = grind (arith, ints)

raised_at_most : (best : Option ℤ) (p z : ℤ) → int_le (raised best p) z ≡ (is_at_most best z && int_le p z)
unfolding is_at_most
raised_at_most None p z = refl
raised_at_most (Some best) p z = above_both best p z

regroup : (a b c : Bool) → ((a && b) && c) ≡ (a && ((b || false) && c))
regroup true true c = refl
regroup true false c = refl
regroup false b c = refl

from_at_most : (members : Members) (best : Option ℤ) (es : List Entry) (z : ℤ) → is_at_most (top_from members best es) z ≡ (is_at_most best z && none_higher members es z)
unfolding none_higher is_at_most
from_at_most members best [] z = sym (and-true (is_at_most best z))
from_at_most members best (e ∷ es) z = by (members e) (λ o. from_at_most members o es z)
  where
    by : (b : Bool) → ((o : Option ℤ) → is_at_most (top_from members o es) z ≡ (is_at_most o z && none_higher members es z))
        → is_at_most (top_from members (if b then Some (raised best e.1.priority) else best) es) z
        ≡ (is_at_most best z && ((int_le e.1.priority z || not b) && none_higher members es z))
    by true rest =
        rest (Some (raised best e.1.priority))
        ∙ ap (λ b. b && none_higher members es z) (raised_at_most best e.1.priority z)
        ∙ regroup (is_at_most best z) (int_le e.1.priority z) (none_higher members es z)
    by false rest = rest best ∙ ap (λ b. is_at_most best z && (b && none_higher members es z)) (sym (or-true (int_le e.1.priority z)))

-- no member is above a priority exactly where the greatest is not
pub highest : (members : Members) (es : List Entry) (z : ℤ) → none_higher members es z ≡ is_at_most (top members es) z
unfolding top is_at_most
highest members es z = sym (from_at_most members None es z)

-- a step of a walk over the regions for the greatest priority
pub top_step : (members : Members) (best : Option ℤ) (es : List Entry) (i : ℕ) (e : Entry) → slice_get es i ≡ Some e
    → top_from members (if members e then Some (raised best e.1.priority) else best) (drop (i + 1) es) ≡ top_from members best (drop i es)
top_step members best es i e item = sym (ap (top_from members best) (drop_at es i e item))
