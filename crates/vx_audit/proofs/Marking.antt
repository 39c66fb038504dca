-- Where the marks of deeds follow the record, and the lists say the rest, the deeds are those of a game.
use Rattle.std.proofs.Common.{◌≡◌, ℕ, ◌≤◌, List, [], ◌∷◌, ◌++◌, map, Option, Some, None, refl, sym, ap, ◌∙◌, subst, append_assoc}
use Rattle.vx_geom.specs.Sizes.{sector_of}
use Rattle.vx_sector.specs.Commands.{place_of}
use Rattle.vx_sector.specs.Windows.{most_entries}
use Rattle.vx_play.specs.Plays.{PlayData, ticked}
use Rattle.vx_play.specs.Games.{Command, Accepted, after_step}
use Rattle.vx_audit.specs.Deeds.{DeedData, Called, Together, Edited, Ticked, edits_in}
use Rattle.vx_audit.specs.Recorded.{IsRecorded}
use Rattle.vx_audit.specs.Walks.{WalkData, TraceData, Follows, FollowsAll, FollowsCall}
use Rattle.vx_audit.proofs.Blocked.{block_follows}
use Rattle.vx_audit.proofs.Matching.{Rest, call_follows, tick_follows}
use Rattle.vx_audit.proofs.Ordering.{block, no_edit}
use Rattle.vx_audit.proofs.Standing.{Whole, Stands}
use Rattle.vx_audit.proofs.Stepping.{called, edited, passed}
use Rattle.vx_audit.proofs.Tracing.{trace_of}

-- one deed more
pub follows_more : (w : WalkData) (traces : List TraceData) (mid : WalkData) (trace : TraceData) (last : WalkData) → FollowsAll w traces mid
    → Follows mid trace last → FollowsAll w (traces ++ trace ∷ []) last
follows_more w [] mid trace last all one = (last, subst (λ v. Follows v trace last) all one, refl)
follows_more w (t ∷ traces) mid trace last all one = (all.0, all.1, follows_more all.0 traces mid trace last all.2 one)

-- what a walk is to the game beside it, and to the deeds that are left
pub record Walks (g : Whole) (game : PlayData) (w : WalkData) (deeds : List DeedData) : Type 0 where
  pub stands : Stands g game w
  pub edits : game.accepted ++ edits_in deeds ≡ g.edits
  pub rest : Rest g w deeds

-- a call takes no tick off the record
ticks_stay : (w : WalkData) (seat : ℕ) (next : WalkData) (o : Option ℕ) → FollowsCall w seat next o → w.ticks ≡ next.ticks
ticks_stay w seat next None follows = ap (λ v. v.ticks) (sym follows)
ticks_stay w seat next (Some k) follows = ap (λ v. v.ticks) (sym follows.after)

-- the deeds are those of a game, and it records the ticks that were left
pub followed : (g : Whole) (game : PlayData) (w : WalkData) (deeds : List DeedData) (last : WalkData) → g.calls ≤ most_entries → last.ticks ≡ []
    → Walks g game w deeds → FollowsAll w (map (trace_of g.sizes) deeds) last
    → (after : PlayData) × IsRecorded game deeds w.ticks after × Stands g after last
followed g game w [] last fits ends walks follows =
    (game, (ap (λ v. v.ticks) (sym follows) ∙ ends, refl), subst (Stands g game) (sym follows) walks.stands)
followed g game w (Called call ∷ deeds) last fits ends walks follows =
    let next = after_step game (Command call.seat call.cmd) in
    let taken = call_follows g game w call deeds follows.0 walks.stands walks.rest follows.1 in
    let step = called g game w call follows.0 walks.stands fits taken.0 in
    let ticks = ticks_stay w call.seat.number follows.0 (sector_of g.sizes (place_of call.cmd)) follows.1 in
    let rest = followed g next follows.0 deeds last fits ends (record { stands = step.1; edits = walks.edits; rest = taken.1 }) follows.2 in
    (rest.0, (next, follows.0.ticks, step.0, ticks, rest.1), rest.2)
followed g game w (Together calls ∷ deeds) last fits ends walks follows =
    let taken = block_follows g game w calls deeds follows.0 walks.stands walks.rest follows.1 in
    let step = block g game w calls follows.0 walks.stands fits taken.0 in
    let accepted = ap (λ es. es ++ edits_in deeds) (no_edit game step.1.order step.0 step.1.answered) ∙ walks.edits in
    let rest = followed g step.0 follows.0 deeds last fits ends (record { stands = step.2; edits = accepted; rest = taken.1 }) follows.2 in
    (rest.0, (step.0, follows.0.ticks, step.1, ap (λ v. v.ticks) (sym follows.1.after), rest.1), rest.2)
followed g game w (Edited edit ∷ deeds) last fits ends walks follows =
    let next = after_step game (Accepted edit) in
    let here = subst (Stands g next) (sym follows.1) (edited g game w edit walks.stands) in
    let accepted = append_assoc game.accepted (edit ∷ []) (edits_in deeds) ∙ walks.edits in
    let others = subst (λ v. Rest g v deeds) (sym follows.1)
    (record { said = walks.rest.said; seated = walks.rest.seated; outside = walks.rest.outside; fates = walks.rest.fates }) in
    let rest = followed g next follows.0 deeds last fits ends (record { stands = here; edits = accepted; rest = others }) follows.2 in
    (rest.0, (next, follows.0.ticks, refl, ap (λ v. v.ticks) (sym follows.1), rest.1), rest.2)
followed g game w (Ticked fates ∷ deeds) last fits ends walks follows =
    let taken = tick_follows g w fates deeds follows.0 walks.rest follows.1 in
    let step = passed g game (edits_in deeds) w fates follows.0 walks.stands walks.edits taken.0 in
    let rest = followed g (ticked game) follows.0 deeds last fits ends (record { stands = step.2; edits = walks.edits; rest = taken.1 }) follows.2 in
    (rest.0, (ticked game, follows.0.ticks, step.0, step.1, rest.1), rest.2)
