-- What the walks over the regions may leave out: regions elsewhere and of lower priority, and all of them where none has a say.
use Rattle.std.proofs.Common.{◌≡◌, pos, ◌-ℤ◌, Bool, true, false, ◌&&◌, None, refl, ap, sym, ◌∙◌, arith}
use Rattle.std.proofs.lemmas.Bool.{true≢false}
use Rattle.std.proofs.lemmas.Int.{ints}
use Rattle.vx_region.specs.Regions.{Entry}
use Rattle.vx_decide.specs.declared.question.Question.{Question}
use Rattle.vx_decide.specs.declared.question.Question.TheVariants.{OnBuilding}
use Rattle.vx_decide.specs.Cases.{Case}
use Rattle.vx_decide.specs.Build.{is_home, in_the_open, build}
use Rattle.vx_decide.specs.Query.{contains, counts, is_denying, decided}
use Rattle.vx_decide.specs.RegionGroups.{none_higher}
use Rattle.vx_decide.specs.Rulings.{NoneCounts}
use Rattle.vx_decide.specs.Tops.{top, is_at_most}
use Rattle.vx_decide.proofs.Highest.{highest}
use Rattle.vx_decide.proofs.Membership.{home_parts, top_contains}
use Rattle.vx_decide.proofs.Ranks.{none_higher_at}
use Rattle.vx_decide.proofs.Rulings.{none_decided, none_counts_taken, open_build}
use Rattle.vx_decide.proofs.Taken.{top_parts, speaks_parts, taken_parts, denying_parts, taken_contains}

-- a test that holds only where another does may be asked after it
asked_second : (a b : Bool) → (b ≡ true → a ≡ true) → b ≡ (a && b)
asked_second true b only = refl
asked_second false true only = absurd (true≢false (sym (only refl)))
asked_second false false only = refl

-- what denies contains the place
pub denying_there : (q : Question) (a : Case) (e : Entry) → is_denying q a e ≡ (contains a e && is_denying q a e)
denying_there q a e = asked_second (contains a e) (is_denying q a e) (λ is. taken_contains q a e (denying_parts q a e is).1)

-- and so does what is a home
pub home_there : (a : Case) (e : Entry) → is_home a e ≡ (contains a e && is_home a e)
home_there a e = asked_second (contains a e) (is_home a e) (λ is. top_contains a e (home_parts a e is).1)

-- none that counts is higher than what denies
pub denying_high : (q : Question) (a : Case) (e : Entry) → is_denying q a e ≡ (none_higher (counts q a) a.regions.entries e.1.priority && is_denying q a e)
denying_high q a e =
    asked_second (none_higher (counts q a) a.regions.entries e.1.priority) (is_denying q a e)
    (λ is. (top_parts q a e (speaks_parts q a e (taken_parts q a e (denying_parts q a e is).1).0).0).0)

-- nor than what is a home
pub home_high : (a : Case) (e : Entry) → is_home a e ≡ (none_higher (counts OnBuilding a) a.regions.entries e.1.priority && is_home a e)
home_high a e =
    asked_second (none_higher (counts OnBuilding a) a.regions.entries e.1.priority) (is_home a e)
    (λ is. (top_parts OnBuilding a e (home_parts a e is).1).0)

-- where there is no highest priority, no region counts
pub none_on_top : (q : Question) (a : Case) → top (counts q a) a.regions.entries ≡ None → NoneCounts q a
unfolding is_at_most
none_on_top q a none e is =
    let below = e.1.priority -ℤ pos 1 in
    let all = highest (counts q a) a.regions.entries below ∙ ap (λ best. is_at_most best below) none in
    let low = none_higher_at (counts q a) a.regions.entries below e all is in
    omega (arith, ints)

pub none_decides : (q : Question) (a : Case) → top (counts q a) a.regions.entries ≡ None → decided q a ≡ None
none_decides q a none = none_decided q a (none_counts_taken q a (none_on_top q a none))

pub none_builds : (a : Case) → top (counts OnBuilding a) a.regions.entries ≡ None → build a ≡ in_the_open a
none_builds a none = open_build a (none_on_top OnBuilding a none)
