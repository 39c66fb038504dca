-- What a watch tells: that it stays one, and that all rests where it tells of nothing.
use Rattle.std.proofs.Common.{◌≡◌, ℕ, ◌≤◌, ◌%◌, true, inl, inr, ◌++◌, Some, refl, sym, ◌∙◌, arith}
use Rattle.std.proofs.lemmas.Bool.{cases_Bool}
use Rattle.std.proofs.lemmas.Option.{IfSome_then}
use Rattle.vx_geom.specs.declared.pos.Pos.{Pos}
use Rattle.vx_block.specs.Components.{is_dust}
use Rattle.vx_cells.specs.Maps.{MapData, cell_on}
use Rattle.vx_levels.specs.Consistency.{IsConsistent}
use Rattle.vx_levels.specs.Linked.{level_at}
use Rattle.vx_levels.specs.Repairs.{IsRight}
use Rattle.vx_levels.proofs.Agreeing.{consistent_is_exact}
use Rattle.vx_part.specs.Laws.{reads}
use Rattle.vx_power.specs.Laws.{dust_level}
use Rattle.vx_power.specs.Levels.{AreAllLevels, LevelTable, level_in}
use Rattle.vx_power.specs.Local.{sees}
use Rattle.vx_still.specs.Mirrored.{IsMirror}
use Rattle.vx_still.specs.Stillness.{stored_on}
use Rattle.vx_still.specs.Watching.{IsWatch, WritesKeepWatch, TicksLeaveWatch}
use Rattle.vx_still.proofs.Heeding.{no_store, no_dust_level}
use Rattle.vx_still.specs.declared.kept_dust.KeptDust.{KeptDust}
use Rattle.vx_still.specs.Unheeded.{IsKept}
use Rattle.vx_still.proofs.Mirroring.{none_of_none, writes_keep_mirror, ticks_leave_mirror}
use Rattle.vx_still.proofs.Stilling.{mirrors_agree, still_rests, ticks_leave_still, writes_keep_still}
use Rattle.vx_still.specs.Waking.{nowhere, Rests}

pub writes_keep_watch : WritesKeepWatch
writes_keep_watch m next watch written is kept = record {
  still = writes_keep_still m next watch.waking written is.still kept;
  mirror =
      IfSome_then watch.dust {P = IsMirror m watch.waking.rebuilt} {Q = IsMirror next (watch.waking.rebuilt ++ written)} is.mirror
      (λ dust mirror. writes_keep_mirror m next watch.waking.rebuilt written dust mirror kept);
}

pub ticks_leave_watch : TicksLeaveWatch
ticks_leave_watch m next watch left kept = record {
  still = ticks_leave_still m next watch.waking left;
  mirror =
      IfSome_then watch.dust {P = IsKept m} {Q = IsMirror next watch.waking.rebuilt} kept
      (λ dust kept. ticks_leave_mirror m next watch.waking dust left kept);
}

-- a table that is right has the levels of the map at every position
pub right_levels : (m : MapData) (table : LevelTable) → IsRight (cell_on m) table → AreAllLevels m (level_at table)
right_levels m table right p = elim (cases_Bool (is_dust (cell_on m p))) [
  | inl dust ↦ right.exact p dust
  | inr bare ↦ right.empty p bare ∙ sym (no_dust_level (cell_on m) p bare)
]

low : (n : ℕ) → n % 16 ≤ 15
low n = omega arith

-- where a watch tells of nothing all rests
module _ (m : MapData) (kept : KeptDust) (is : IsWatch m (record { waking = nowhere; dust = Some kept })) where
  abbrev table : LevelTable
  table = kept.levels

  agrees : (q : Pos) → is_dust (cell_on m q) ≡ true
      → (level_at table q ≤ 15) × IsConsistent (cell_on m) (level_at table) q
  agrees q dust = (
    low (level_in table q),
    mirrors_agree m nowhere (level_at table) q is.still is.mirror.levels dust
        (record { rebuilt = none_of_none (sees q); turned = refl }),
  )

  stored : (q : Pos) → stored_on m q ≡ dust_level (cell_on m) q
  stored q = elim (cases_Bool (is_dust (cell_on m q))) [
    | inl dust ↦ sym (is.mirror.levels q dust refl) ∙ consistent_is_exact (cell_on m) (level_at table) agrees q dust
    | inr bare ↦ no_store (cell_on m q) bare ∙ sym (no_dust_level (cell_on m) q bare)
  ]

  pub all_rests : (p : Pos) → Rests m p
  all_rests p =
      still_rests m nowhere p is.still refl (record {
        rebuilt = none_of_none (reads p);
        turned = record { own = refl; beside = λ d. refl; through = λ d e is. refl };
      })
      (λ q among. stored q)
