-- Of the regions that speak one is lowest, since the regions are a forest.
use Rattle.std.proofs.Common.{◌≡◌, pos, ℤ, ap, true, ◌&&◌, length, Some, Contains, ◌∙◌, arith}
use Rattle.std.proofs.lemmas.Bool.{and_parts, and_from, not_from_false, false_from_ne_true}
use Rattle.std.proofs.lemmas.Int.{ints}
use Rattle.std.proofs.lemmas.Option.{slice_get-get_or}
use Rattle.vx_flag.specs.declared.flag.Flag.{Flag}
use Rattle.vx_flag.specs.declared.state.State.TheVariants.{Allow}
use Rattle.vx_flag.specs.Action.{flag_of_action}
use Rattle.vx_region.specs.Ancestry.{ancestors, is_above}
use Rattle.vx_region.specs.Forest.{IsForest, IsNumbered}
use Rattle.vx_region.specs.Regions.{Entry, Regions, region_at}
use Rattle.vx_region.proofs.Chains.{above_shorter}
use Rattle.vx_region.proofs.Lookups.{region_at_place}
use Rattle.vx_decide.specs.declared.question.Question.{Question}
use Rattle.vx_decide.specs.declared.question.Question.TheVariants.{OnFlag}
use Rattle.vx_decide.specs.declared.rule.Rule.TheVariants as rule
use Rattle.vx_decide.specs.Answers.{In, IsTaken, Counts}
use Rattle.vx_decide.specs.Cases.{Case}
use Rattle.vx_decide.specs.Laws.{ValuesAtThePlaceDecide, DefaultOnlyWhereNothingIsSaid}
use Rattle.vx_decide.specs.Query.{has_say, is_top, speaks, is_taken}
use Rattle.vx_decide.specs.RegionGroups.{is_above_one, is_lowest}
use Rattle.vx_decide.proofs.Answering.{decided_some}
use Rattle.vx_decide.proofs.Picks.{any_from, Greatest, greatest}
use Rattle.vx_decide.proofs.Ranks.{speaks_from}
use Rattle.vx_decide.proofs.Rulings.{rule_holds, some_on_top}
use Rattle.vx_decide.proofs.Taken.{counts_parts, top_parts}

-- a region among those of the set is the one of its number
entry_known : (rs : Regions) (e : Entry) → IsNumbered rs → Contains rs.entries e → region_at rs e.0 ≡ Some e.1
entry_known rs e numbered among =
    region_at_place rs among.0 e.0 e.1 numbered (slice_get-get_or rs.entries among.0 e among.1 ∙ ap Some among.2)

-- how long the ancestry of a region is
abbrev depth : Case → Entry → ℤ
depth a e = pos (length (ancestors a.regions e.0))

-- the deepest that speaks is above no other that does
deepest_is_lowest : (q : Question) (a : Case) → IsForest a.regions → (deep : Greatest (depth a) (speaks q a) a.regions.entries)
    → is_above_one (speaks q a) a.regions deep.entry.0 ≡ true → ⊥
unfolding is_above_one
deepest_is_lowest q a forest deep above =
    let found = any_from (λ d. is_above a.regions deep.entry.0 d.1 && speaks q a d) a.regions.entries above in
    let parts = and_parts (is_above a.regions deep.entry.0 found.0.1) (speaks q a found.0) found.2 in
    let low = deep.highest found.0 (record { among = found.1; passes = parts.1 }) in
    let known = entry_known a.regions found.0 forest.numbered found.1 in
    let high = above_shorter a.regions forest deep.entry.0 found.0.0 found.0.1 known parts.0 in
    omega (arith, ints)

-- where some speak, one is taken
pub some_is_taken : (q : Question) (a : Case) (e : Entry) → IsForest a.regions → In (speaks q a) a.regions.entries e
    → (t : Entry) × IsTaken q a t
unfolding is_taken is_lowest
some_is_taken q a e forest is =
    let deep = greatest (depth a) (speaks q a) a.regions.entries e is in
    let lowest = not_from_false _ (false_from_ne_true _ (deepest_is_lowest q a forest deep)) in
    (deep.entry, record { among = deep.member.among; passes = and_from _ _ deep.member.passes lowest })

-- what is of highest priority on a flag speaks
top_speaks : (f : Flag) (a : Case) (e : Entry) → is_top (OnFlag f) a e ≡ true → speaks (OnFlag f) a e ≡ true
unfolding has_say
top_speaks f a e top = speaks_from (OnFlag f) a e top (counts_parts (OnFlag f) a e (top_parts (OnFlag f) a e top).1).1

-- where some count on a flag, one is taken
pub some_count_some_taken : (f : Flag) (a : Case) (e : Entry) → IsForest a.regions → Counts (OnFlag f) a e
    → (t : Entry) × IsTaken (OnFlag f) a t
some_count_some_taken f a e forest is =
    let top = some_on_top (OnFlag f) a e is in
    some_is_taken (OnFlag f) a top.0 forest (record { among = top.1.among; passes = top_speaks f a top.0 top.1.passes })

pub values_at_the_place_decide : ValuesAtThePlaceDecide
values_at_the_place_decide f a e forest is = let taken = some_count_some_taken f a e forest is in decided_some (OnFlag f) a taken.0 taken.1

pub default_only_where_nothing_is_said : DefaultOnlyWhereNothingIsSaid
default_only_where_nothing_is_said rs s action p forest is =
    let a : Case = record { regions = rs; actor = s; place = p } in
    let f = flag_of_action action in
    let holds = rule_holds rs s action p Allow rule.Default is in
    let nobody = λ (e : Entry) (counted : Counts (OnFlag f) a e). let taken = some_count_some_taken f a e forest counted in
    holds.silent.regions taken.0 taken.1 in
    record { regions = nobody; at_large = holds.silent.at_large; building = holds.building; passing = holds.passing }
