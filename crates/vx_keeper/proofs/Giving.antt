-- Marks that are given to sectors, and what they say of these.
use Rattle.std.proofs.Common.{◌≡◌, ℕ, Bool, true, false, ◌||◌, if◌then◌else◌, nat_eq, List, [], ◌∷◌, ◌++◌, length, get_or, Option, None, Some, IfSome, refl, sym, ap, ◌∙◌, subst, inl, inr, arith}
use Rattle.std.proofs.Math.Bool.{or-true, or-false}
use Rattle.std.proofs.lemmas.Bool.{cases_lt, eq-eqb, eqb-true, false_from_ne_true}
use Rattle.std.proofs.lemmas.List.{get_or_past}
use Rattle.std.proofs.lemmas.List.Folds.{list_any-append}
use Rattle.vx_sector.specs.SectorData.{SectorData}
use Rattle.vx_policy.specs.declared.version.Version.{Version}
use Rattle.vx_keeper.specs.Marks.{AreAllGiven, AreGiven, AreLed, AreMarks, GoesOn, IsMarkOf, IsPartOf, IsSamePolicy, WorldData, is_given}
use Rattle.vx_keeper.specs.declared.next_window.NextWindow.{NextWindow}

-- the list has something for the sector that is added to it
pub given_last : (w : NextWindow) (next : List NextWindow) → is_given w.number (next ++ w ∷ []) ≡ true
given_last w next =
    list_any-append (λ (v : NextWindow). nat_eq v.number w.number) next (w ∷ [])
    ∙ ap (λ b. is_given w.number next || (b || false)) (eq-eqb w.number w.number refl)
    ∙ or-true (is_given w.number next)

-- and for others as before
pub given_beside : (n : ℕ) (w : NextWindow) (next : List NextWindow) → (w.number ≡ n → ⊥)
    → is_given n (next ++ w ∷ []) ≡ is_given n next
given_beside n w next other =
    list_any-append (λ (v : NextWindow). nat_eq v.number n) next (w ∷ [])
    ∙ ap (λ b. is_given n next || (b || false))
    (false_from_ne_true (nat_eq w.number n) (λ same. other (eqb-true w.number n same)))
    ∙ or-false (is_given n next)

-- a sector that goes on from one world to the next, and from that to a third, does from the first
goes_on : (a b c : WorldData) (n : ℕ) → GoesOn a b n → GoesOn b c n → GoesOn a c n
goes_on a b c n first next = (
  next.0 ∙ first.0,
  ap (λ (v : Version). record v { tick = c.version.tick }) first.1 ∙ next.1,
)

-- what began with its part of a world from which it goes on began with its part of the next
pub part_on : (before after : WorldData) (s : SectorData) → IsPartOf before s → GoesOn before after s.base.sector
    → IsPartOf after s
part_on before after s part on = (
  on.0 ∙ part.0,
  ap (λ (v : Version). record v { tick = after.version.tick }) part.1 ∙ on.1,
)

-- and the other way round
pub part_back : (before after : WorldData) (s : SectorData) → IsPartOf after s → GoesOn before after s.base.sector
    → IsPartOf before s
part_back before after s part on = (
  sym on.0 ∙ part.0,
  ap (λ (v : Version). record v { tick = before.version.tick }) (part.1 ∙ sym on.1),
)

-- the mark of a sector is one for whatever began with its part of the world
pub mark_fits : (marks : List (Option (Option WorldData))) (world : WorldData) (s : SectorData) (n : ℕ)
    (mark : Option (Option WorldData)) → AreMarks marks world → mark ≡ get_or marks n None → s.base.sector ≡ n
    → IsPartOf world s → IsMarkOf mark s
mark_fits marks world s n mark are is number part =
    go mark (subst (λ o. IfSome o (λ m. (before : WorldData) × (m ≡ Some before) × GoesOn before world n)) (sym is) (are.1 n))
  where
    go : (o : Option (Option WorldData)) → IfSome o (λ m. (before : WorldData) × (m ≡ Some before) × GoesOn before world n)
        → IsMarkOf o s
    go None from = tt
    go (Some m) from =
        (from.0, from.1, part_back from.0 world s part (subst (GoesOn from.0 world) (sym number) from.2))

-- a mark of a world is one from which each sector goes on to that
from_itself : (world : WorldData) (n : ℕ) (o : Option (Option WorldData)) → IfSome o (λ m. m ≡ Some world)
    → IfSome o (λ m. (before : WorldData) × (m ≡ Some before) × GoesOn before world n)
from_itself world n None is = tt
from_itself world n (Some m) is = (world, is, (refl, refl))

-- where all have the mark of the world they are marks of it
pub all_marked : (marks given : List (Option (Option WorldData))) (mark : Option (Option WorldData)) (world : WorldData)
    → length marks ≡ length world.map.sectors → AreAllGiven marks mark given → IfSome mark (λ m. m ≡ Some world)
    → AreMarks given world
all_marked marks given mark world each all is = (
  all.0 ∙ each,
  λ n. elim (cases_lt n (length marks)) [
    | inl within ↦ from_itself world n (get_or given n None) (subst (λ o. IfSome o (λ m. m ≡ Some world)) (sym (all.1 n within)) is)
    | inr past ↦ subst (λ o. IfSome o (λ m. (before : WorldData) × (m ≡ Some before) × GoesOn before world n))
        (sym (get_or_past given n None (omega (arith, past, all.0)))) tt
  ],
)

-- a mark of the world before, or one of the next where something is given, is one for the next
given_is : (before after : WorldData) (n : ℕ) (was mark : Option (Option WorldData)) (b : Bool)
    → IfSome was (λ m. (first : WorldData) × (m ≡ Some first) × GoesOn first before n)
    → IfSome mark (λ m. m ≡ Some after) → (b ≡ false → GoesOn before after n)
    → IfSome (if b then mark else was) (λ m. (first : WorldData) × (m ≡ Some first) × GoesOn first after n)
given_is before after n was mark true old is led = from_itself after n mark is
given_is before after n None mark false old is led = tt
given_is before after n (Some m) mark false old is led = (old.0, old.1, goes_on old.0 before after n old.2 (led refl))

-- marks of a world with those that are given as its sectors are led to the next, which the same
-- policy judges, are marks of that
led_marked : (marks given : List (Option (Option WorldData))) (next : List NextWindow)
    (mark : Option (Option WorldData)) (before after : WorldData) → AreMarks marks before
    → length after.map.sectors ≡ length before.map.sectors → AreLed (length before.map.sectors) before after next
    → IsSamePolicy before.version after.version → IfSome mark (λ m. m ≡ Some after) → AreGiven marks next mark given
    → AreMarks given after
led_marked marks given next mark before after are many led policy is done = (
  done.0 ∙ are.0 ∙ sym many,
  λ n. elim (cases_lt n (length marks)) [
    | inl within ↦ subst (λ o. IfSome o (λ m. (first : WorldData) × (m ≡ Some first) × GoesOn first after n)) (sym (done.1 n within))
        (given_is before after n (get_or marks n None) mark (is_given n next) (are.1 n) is
        (λ none. (led.1 n (omega (arith, within, are.0)) none, policy)))
    | inr past ↦ subst (λ o. IfSome o (λ m. (first : WorldData) × (m ≡ Some first) × GoesOn first after n))
        (sym (get_or_past given n None (omega (arith, past, done.0)))) tt
  ],
)

-- so are they where all are given one unless the policy stays
pub next_marked : (same : Bool) (marks given : List (Option (Option WorldData))) (next : List NextWindow)
    (mark : Option (Option WorldData)) (before after : WorldData) → AreMarks marks before
    → length after.map.sectors ≡ length before.map.sectors → AreLed (length before.map.sectors) before after next
    → (same ≡ true → IsSamePolicy before.version after.version) → IfSome mark (λ m. m ≡ Some after)
    → (same ≡ true → AreGiven marks next mark given) → (same ≡ false → AreAllGiven marks mark given)
    → AreMarks given after
next_marked true marks given next mark before after are many led policy is some all =
    led_marked marks given next mark before after are many led (policy refl) is (some refl)
next_marked false marks given next mark before after are many led policy is some all =
    all_marked marks given mark after (are.0 ∙ sym many) (all refl) is
