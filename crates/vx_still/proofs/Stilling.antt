-- Levels as dust stores them agree far from changes, and what rests by them.
use Rattle.std.proofs.Common.{◌≡◌, ℕ, suc, ◌-◌, true, false, if◌then◌else◌, nat_lt, inl, inr, List, ◌++◌, refl, sym, ap, ◌∙◌, subst}
use Rattle.std.specs.List.{list_any}
use Rattle.std.proofs.lemmas.Bool.{cases_Bool, false≢true, or_parts}
use Rattle.vx_geom.specs.declared.dir.Dir.{Dir}
use Rattle.vx_geom.specs.declared.dir.Dir.TheVariants as dir
use Rattle.vx_geom.specs.declared.pos.Pos.{Pos}
use Rattle.vx_geom.specs.Dirs.{all_dirs}
use Rattle.vx_geom.specs.Neighbor.{neighbor}
use Rattle.vx_block.specs.declared.cell.Cell.{Cell}
use Rattle.vx_block.specs.declared.cell.Cell.TheVariants.{Dust}
use Rattle.vx_block.specs.Components.{is_dust}
use Rattle.vx_block.specs.Conductors.{conducts}
use Rattle.vx_block.specs.States.{side_dir}
use Rattle.vx_cells.specs.Maps.{MapData, cell_on}
use Rattle.vx_levels.specs.Consistency.{greatest, pulled, IsConsistent}
use Rattle.vx_power.specs.Dust.{beside, over, under, links}
use Rattle.vx_power.specs.Laws.{dust_level}
use Rattle.vx_power.specs.Levels.{has, stored_level}
use Rattle.vx_power.specs.Local.{around, within_steps, sees, shown, AreAlike}
use Rattle.vx_power.specs.Signals.{is_fed}
use Rattle.vx_power.specs.Turning.{built, BuiltAlike, ShowHeeded, PowerHeeded}
use Rattle.vx_power.specs.Walks.{IsAmong}
use Rattle.vx_levels.proofs.Agreeing.{greatest_same, level_agrees, links_to_dust}
use Rattle.vx_power.proofs.Having.{has_joined, none_at, fewer}
use Rattle.vx_power.proofs.Linking.{Linked, links_at, among_left, among_right}
use Rattle.vx_power.proofs.Local.{among_around, one_of_six, dust_sees_shown, links_see_built, near_from, power_near}
use Rattle.vx_power.proofs.Showing.{built_conductor, built_dust}
use Rattle.vx_power.proofs.Turning.{beside_seen, feeding_sees_turned, through_seen, turned_feed_same}
use Rattle.vx_part.specs.Laws.{reads}
use Rattle.vx_part.proofs.Reading.{parts_heed}
use Rattle.vx_piston.specs.Moves.{is_restless}
use Rattle.vx_piston.proofs.Restless.{restless_heeds}
use Rattle.vx_still.specs.Stillness.{stored_on, Stays, LeavesStill, WritesKeepStill, TicksLeaveStill, StillRests, PartsReadPower, MirrorsAgree, TicksMirror}
use Rattle.vx_still.specs.Waking.{ReadsNone, SeesNone, WakingData}
use Rattle.vx_still.proofs.Heeding.{sees_reads, own_read, dust_next, dust_rests, no_store, no_dust_level}

-- what a step and so many more lead to, one more leads to
step_among : (n : ℕ) (p q : Pos) (d : Dir) → IsAmong (within_steps n (neighbor p d)) q → IsAmong (within_steps (suc n) p) q
step_among n p q d among =
    among_right (within_steps n p) (around (within_steps n) p all_dirs) q
    (among_around (within_steps n) p q all_dirs d (one_of_six d) among)

-- what dust links to is in sight
link_seen : (w : Pos → Cell) (p q : Pos) → IsAmong (links w p) q → IsAmong (sees p) q
unfolding Linked
link_seen w p q linked =
    let at = links_at w p q linked in
    let d = side_dir at.1.0 in
    elim at.1.1 [
      | inl level ↦ subst (IsAmong (sees p)) level.1 (step_among 1 p (beside p at.1.0) d (inl refl))
      | inr sloped ↦ elim sloped [
        | inl up ↦ subst (IsAmong (sees p)) up.1
            (step_among 1 p (over (beside p at.1.0)) d (step_among 0 (beside p at.1.0) (over (beside p at.1.0)) dir.Up (inl refl)))
        | inr down ↦ subst (IsAmong (sees p)) down.1
            (step_among 1 p (under (beside p at.1.0)) d (step_among 0 (beside p at.1.0) (under (beside p at.1.0)) dir.Down (inl refl)))
      ]
    ]

pub own_seen : (p : Pos) → IsAmong (sees p) p
own_seen p =
    among_left (within_steps 1 p) (around (within_steps 1) p all_dirs) p
    (among_left (within_steps 0 p) (around (within_steps 0) p all_dirs) p (inl refl))

-- dust that is fed and links alike on two maps, with levels that are the same in sight
carried : (w v : Pos → Cell) (a b : Pos → ℕ) (p : Pos) → is_fed w p ≡ is_fed v p → links w p ≡ links v p
    → AreAlike (sees p) a b → IsConsistent w a p → IsConsistent v b p
unfolding pulled
carried w v a b p fed linked levels right =
    sym (levels p (own_seen p)) ∙ right
    ∙ ap (λ x. if x then 15 else greatest a (links w p) - 1) fed
    ∙ ap (λ qs. if is_fed v p then 15 else greatest a qs - 1) linked
    ∙ ap (λ n. if is_fed v p then 15 else n - 1)
    (greatest_same a b (links v p) (λ q among. levels q (link_seen v p q among)))

-- a position that is seen is read
beside_read : (p : Pos) (d : Dir) → IsAmong (reads p) (neighbor p d)
beside_read p d = sees_reads p (neighbor p d) (beside_seen p d)

through_read : (p : Pos) (d e : Dir) → IsAmong (reads p) (neighbor (neighbor p d) e)
through_read p d e = sees_reads p (neighbor (neighbor p d) e) (through_seen p d e)

-- what stays on one map stays on another that is the same wherever it reads
module _ (w v : Pos → Cell) (p : Pos) (same : AreAlike (reads p) w v) where
  builds_same : BuiltAlike (reads p) w v
  builds_same q among = ap built (same q among)

  shows_same : ShowHeeded w v p
  shows_same = record {
    own = ap shown (same p (own_read p));
    beside = λ d. ap shown (same (neighbor p d) (beside_read p d));
    through = λ d e is. ap shown (same (neighbor (neighbor p d) e) (through_read p d e));
  }

  stored_same : PowerHeeded w (λ q. stored_level (w q)) (λ q. stored_level (v q)) p
  stored_same = record {
    own = ap (λ c. nat_lt 0 (stored_level c)) (same p (own_read p));
    beside = λ d. ap (λ c. nat_lt 0 (stored_level c)) (same (neighbor p d) (beside_read p d));
    through = λ d e is. ap (λ c. nat_lt 0 (stored_level c)) (same (neighbor (neighbor p d) e) (through_read p d e));
  }

stays_too : (m next : MapData) (p : Pos) → AreAlike (reads p) (cell_on m) (cell_on next) → Stays m p → Stays next p
stays_too m next p same old =
    let w = cell_on m in
    let v = cell_on next in
    let own = same p (own_read p) in
    record {
      part = sym (parts_heed w v _ _ p (builds_same w v p same) own (shows_same w v p same) (stored_same w v p same)
          (λ dust. ap stored_level own))
          ∙ old.part ∙ own;
      piston = sym (restless_heeds w v _ _ p (builds_same w v p same) own (shows_same w v p same) (stored_same w v p same)) ∙ old.piston;
    }

pub writes_keep_still : WritesKeepStill
writes_keep_still m next waking written still kept = record {
  levels = λ p dust none.
      let same = unwritten (sees p) none.rebuilt in
      let seen = dust_sees_shown (cell_on m) (cell_on next) p (λ q among. ap shown (same q among)) in
      carried (cell_on m) (cell_on next) _ _ p seen.0 seen.1 (λ q among. ap stored_level (same q among))
      (still.levels p (ap is_dust (same p (own_seen p)) ∙ dust) (record {
        rebuilt = unchanged (sees p) none.rebuilt;
        turned = turned_feed_same (cell_on m) (cell_on next) waking.turned p (λ q among. ap built (same q among)) ∙ none.turned;
      }));
  parts = λ p away none.
      let same = unwritten (reads p) none.rebuilt in
      stays_too m next p same
      (still.parts p away (record {
        rebuilt = unchanged (reads p) none.rebuilt;
        turned = record {
          own = none.turned.own;
          beside = none.turned.beside;
          through = λ d e is. none.turned.through d e (sym (ap conducts (same (neighbor p d) (beside_read p d))) ∙ is);
        };
      }));
}
  where
    apart : (q : Pos) → has (waking.rebuilt ++ written) q ≡ false → (has waking.rebuilt q ≡ false) × (has written q ≡ false)
    apart q none = or_parts (has waking.rebuilt q) (has written q) (sym (has_joined waking.rebuilt written q) ∙ none)

    unwritten : (ps : List Pos) → list_any (has (waking.rebuilt ++ written)) ps ≡ false → (q : Pos) → IsAmong ps q → cell_on m q ≡ cell_on next q
    unwritten ps none q among = sym (kept q (apart q (none_at (has (waking.rebuilt ++ written)) ps q none among)).1)

    unchanged : (ps : List Pos) → list_any (has (waking.rebuilt ++ written)) ps ≡ false → list_any (has waking.rebuilt) ps ≡ false
    unchanged ps none = fewer (has waking.rebuilt) (has (waking.rebuilt ++ written)) (λ q no. (apart q no).0) ps none

module _ (m next : MapData) (waking : WakingData) (left : LeavesStill m next waking) where
  abbrev w : Pos → Cell
  w = cell_on m

  abbrev v : Pos → Cell
  v = cell_on next

  -- what was not rebuilt stores the level that it had
  stores : (q : Pos) → has waking.rebuilt q ≡ false → dust_level w q ≡ stored_on next q
  stores q none = elim (cases_Bool (is_dust (w q))) [
    | inl dust ↦ sym (ap stored_level (left.parts q none ∙ dust_next w (dust_level w) q (w q) dust))
    | inr other ↦ no_dust_level w q other ∙ sym (no_store (v q) (built_dust (v q) (w q) (left.builds q none) ∙ other))
  ]

  same_built : (ps : List Pos) → list_any (has waking.rebuilt) ps ≡ false → BuiltAlike ps w v
  same_built ps none q among = sym (left.builds q (none_at (has waking.rebuilt) ps q none among))

  levels_after : (p : Pos) → SeesNone next waking p → IsConsistent v (stored_on next) p
  levels_after p none =
      let builds = same_built (sees p) none.rebuilt in
      let unbuilt : (q : Pos) → IsAmong (sees p) q → has waking.rebuilt q ≡ false =
      λ q among. none_at (has waking.rebuilt) (sees p) q none.rebuilt among in
      carried w v (dust_level w) (stored_on next) p
      (feeding_sees_turned w v waking.turned p builds (λ q among isnt. sym (left.shows q (unbuilt q among) isnt)) none.turned)
      (links_see_built w v p builds) (λ q among. stores q (unbuilt q among)) (level_agrees (is_fed w) (links w) p)

  module _ (p : Pos) (away : has waking.besides p ≡ false) (none : ReadsNone next waking p) where
    unbuilt : (q : Pos) → IsAmong (reads p) q → has waking.rebuilt q ≡ false
    unbuilt q among = none_at (has waking.rebuilt) (reads p) q none.rebuilt among

    own_unbuilt : has waking.rebuilt p ≡ false
    own_unbuilt = unbuilt p (own_read p)

    as_dust : is_dust (w p) ≡ true → Stays next p
    unfolding is_restless
    as_dust dust =
        let is : v p ≡ Dust (dust_level w p) = left.parts p own_unbuilt ∙ dust_next w (dust_level w) p (w p) dust in
        record {
          part = dust_next v (stored_on next) p (v p) (ap is_dust is) ∙ ap Dust (sym (stores p own_unbuilt)) ∙ sym is;
          piston = dust_rests v (stored_on next) p (dust_level w p) (v p) is;
        }

    calm : is_restless w (dust_level w) p ≡ false
    calm = elim (cases_Bool (is_restless w (dust_level w) p)) [
      | inl is ↦ absurd (false≢true (sym away ∙ left.pistons p is))
      | inr isnt ↦ isnt
    ]

    -- what it heeds shows what it showed, and stores the level that it had
    shows_heeded : ShowHeeded w v p
    shows_heeded = record {
      own = sym (left.shows p own_unbuilt none.turned.own);
      beside = λ d. sym (left.shows (neighbor p d) (unbuilt (neighbor p d) (beside_read p d)) (none.turned.beside d));
      through = λ d e is.
          let n = neighbor p d in
          sym (left.shows (neighbor n e) (unbuilt (neighbor n e) (through_read p d e))
          (none.turned.through d e (built_conductor (v n) (w n) (left.builds n (unbuilt n (beside_read p d))) ∙ is)));
    }

    powers_heeded : PowerHeeded w (dust_level w) (stored_on next) p
    powers_heeded = record {
      own = ap (nat_lt 0) (stores p own_unbuilt);
      beside = λ d. ap (nat_lt 0) (stores (neighbor p d) (unbuilt (neighbor p d) (beside_read p d)));
      through = λ d e is. ap (nat_lt 0) (stores (neighbor (neighbor p d) e) (unbuilt (neighbor (neighbor p d) e) (through_read p d e)));
    }

    as_other : is_dust (w p) ≡ false → Stays next p
    as_other other =
        let own = sym (left.others p own_unbuilt none.turned.own away other) in
        let builds = same_built (reads p) none.rebuilt in
        record {
          part = sym (parts_heed w v (dust_level w) (stored_on next) p builds own shows_heeded powers_heeded (λ dust. stores p own_unbuilt))
              ∙ sym (left.parts p own_unbuilt);
          piston = sym (restless_heeds w v (dust_level w) (stored_on next) p builds own shows_heeded powers_heeded) ∙ calm;
        }

    parts_after : Stays next p
    parts_after = elim (cases_Bool (is_dust (w p))) [ inl dust ↦ as_dust dust | inr other ↦ as_other other ]

pub ticks_leave_still : TicksLeaveStill
ticks_leave_still m next waking left = record {
  levels = λ p dust none. levels_after m next waking left p none;
  parts = λ p away none. parts_after m next waking left p away none;
}

pub still_rests : StillRests
still_rests m waking p still away none levels =
    let stays = still.parts p away none in
    let w = cell_on m in
    let shows = shows_same w w p (λ q among. refl) in
    let powers = power_near w (stored_on m) (dust_level w) p (near_from (stored_on m) (dust_level w) 2 p levels) in
    record {
      part = sym (parts_heed w w (stored_on m) (dust_level w) p (λ q among. refl) refl shows powers (λ dust. levels p (own_seen p))) ∙ stays.part;
      piston = sym (restless_heeds w w (stored_on m) (dust_level w) p (λ q among. refl) refl shows powers) ∙ stays.piston;
    }

-- what is no dust heeds only which dust has power
pub parts_read_power : PartsReadPower
parts_read_power w a b p other powers =
    let shows = shows_same w w p (λ q among. refl) in (
      parts_heed w w a b p (λ q among. refl) refl shows powers (λ dust. absurd (false≢true (sym other ∙ dust))),
      restless_heeds w w a b p (λ q among. refl) refl shows powers,
    )

pub mirrors_agree : MirrorsAgree
unfolding pulled
mirrors_agree m waking level p still same dust none =
    let w = cell_on m in
    let seen : (q : Pos) → IsAmong (sees p) q → has waking.rebuilt q ≡ false =
    λ q among. none_at (has waking.rebuilt) (sees p) q none.rebuilt among in
    same p dust (seen p (own_seen p)) ∙ still.levels p dust none
    ∙ ap (λ n. if is_fed w p then 15 else n - 1)
    (sym (greatest_same level (stored_on m) (links w p)
    (λ q among. same q (links_to_dust w p q among) (seen q (link_seen w p q among)))))

pub ticks_mirror : TicksMirror
ticks_mirror m next waking level left exact p dust none =
    exact p (built_dust (cell_on m p) (cell_on next p) (sym (left.builds p none)) ∙ dust)
    ∙ stores m next waking left p none
