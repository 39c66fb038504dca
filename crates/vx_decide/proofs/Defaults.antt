-- Where nothing is said, all is permitted.
use Rattle.std.proofs.Common.{◌≡◌, ℕ, nat_eq, List, [], ◌∷◌, find, None, Contains, option_map, ap, ◌∙◌, subst}
use Rattle.std.specs.Option.{option_or, option_and_then}
use Rattle.vx_flag.specs.declared.flag.Flag.{Flag}
use Rattle.vx_flag.specs.declared.flag.Flag.TheVariants.{Build, Passthrough}
use Rattle.vx_flag.specs.Action.{flag_of_action}
use Rattle.vx_flag.specs.Settings.{no_settings, setting_of}
use Rattle.vx_flag.proofs.SettingLemmas.{nothing_set}
use Rattle.vx_region.specs.Ancestry.{chain, from_parent, ancestors}
use Rattle.vx_region.specs.Association.{association}
use Rattle.vx_region.specs.Regions.{RegionData, Regions, Entry, parent_of, region_at, setting_at}
use Rattle.vx_region.specs.Subjects.{Actor}
use Rattle.vx_decide.specs.declared.question.Question.{Question}
use Rattle.vx_decide.specs.declared.question.Question.TheVariants.{OnFlag, OnBuilding}
use Rattle.vx_decide.specs.Answers.{Counts}
use Rattle.vx_decide.specs.Cases.{Case}
use Rattle.vx_decide.specs.Effective.{heard, value_at, first_of, effective}
use Rattle.vx_decide.specs.Laws.{NothingSaidPermits, EmptyWorldPermitsAll}
use Rattle.vx_decide.specs.Rulings.{IsClosedAtLarge}
use Rattle.vx_decide.specs.Verdict.{verdict}
use Rattle.vx_decide.proofs.Picks.{in_none}
use Rattle.vx_decide.proofs.Rulings.{none_counts_taken, silent_default}

pub nothing_said_permits : NothingSaidPermits
unfolding verdict
nothing_said_permits rs s action p none =
    let a : Case = record { regions = rs; actor = s; place = p } in
    let f = flag_of_action action in
    silent_default f a (record {
      silent = record { regions = none_counts_taken (OnFlag f) a none.regions; at_large = none.at_large };
      building = none.building;
      passing = none.passing;
    })

-- without regions there is no parent
no_parent : (rs : Regions) (n : ℕ) → rs.entries ≡ [] → parent_of rs n ≡ None
unfolding parent_of region_at
no_parent rs n none =
    let at = λ (es : List Entry). option_map (λ (e : Entry). e.1) (find (λ (e : Entry). nat_eq n e.0) es) in
    ap (λ es. option_and_then (λ (r : RegionData). r.parent) (at es)) none

-- no value at large where nothing is set
unset_everywhere : (rs : Regions) (s : Actor) (f : Flag) → rs.entries ≡ [] → rs.global ≡ no_settings → effective rs s f 0 ≡ None
unfolding effective value_at setting_at ancestors
unset_everywhere rs s f none unset =
    let a = association rs s 0 in
    ap (λ o. first_of (value_at rs f a) (0 ∷ from_parent (chain rs.last rs) o)) (no_parent rs 0 none)
    ∙ ap (λ g. option_or (heard 0 a (setting_of g f)) None) unset
    ∙ ap (λ o. option_or (heard 0 a o) None) (nothing_set f)

-- without regions none counts
nobody_counts : (q : Question) (a : Case) (e : Entry) → a.regions.entries ≡ [] → Counts q a e → ⊥
nobody_counts q a e none is = in_none e (subst (λ es. Contains es e) none is.among)

pub empty_world_permits_all : EmptyWorldPermitsAll
empty_world_permits_all rs s action p none unset =
    let a : Case = record { regions = rs; actor = s; place = p } in
    let open_to_all : IsClosedAtLarge a → ⊥ = λ closed. cc (unset_everywhere rs s Passthrough none unset) in
    nothing_said_permits rs s action p (record {
      regions = λ e is. nobody_counts (OnFlag (flag_of_action action)) a e none is;
      at_large = unset_everywhere rs s (flag_of_action action) none unset;
      building = record { regions = λ e is. nobody_counts OnBuilding a e none is; at_large = unset_everywhere rs s Build none unset };
      passing = open_to_all;
    })
