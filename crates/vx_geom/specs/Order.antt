use Rattle.std.specs.Prelude.{◌≡◌, ◌≢◌, Bool, true, false, ◌&&◌, ◌||◌, if◌then◌else◌, int_lt}
use Rattle.std.specs.Ordering.{int_eq}
use Rattle.std.specs.declared.cmp.Ordering.{Ordering}
use Rattle.std.specs.declared.cmp.Ordering.TheVariants.{Less, Equal, Greater}
use Rattle.vx_geom.specs.declared.pos.Pos.{Pos}

-- p comes before q: by y, where they have one y by z, and where they have one z too by x
unfoldable pub comes_before : Pos → Pos → Bool
comes_before p q =
    int_lt p.y q.y || (int_eq p.y q.y && (int_lt p.z q.z || (int_eq p.z q.z && int_lt p.x q.x)))

-- where p stands to q in that order
abbrev pub compared : Pos → Pos → Ordering
compared p q = if comes_before p q then Less else if comes_before q p then Greater else Equal

-- that order is a total one: no position comes before itself, what comes before a position comes
-- before all that come after that, and of two positions one comes before the other
pub record PositionsAreOrdered : Type 0 where
  pub irreflexive : (p : Pos) → comes_before p p ≡ false
  pub transitive : (p q r : Pos) → comes_before p q ≡ true → comes_before q r ≡ true
      → comes_before p r ≡ true
  pub total : (p q : Pos) → p ≢ q → (comes_before p q || comes_before q p) ≡ true
