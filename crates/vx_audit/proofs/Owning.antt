-- What holds of each tick on record, and of the commands in the windows that are open.
use Rattle.std.specs.Prelude.{◌≡◌, List, ◌∷◌, ◌++◌}
use Rattle.vx_geom.specs.declared.pos.Pos.{Pos}
use Rattle.vx_cells.specs.MapLaws.{IsFilled}
use Rattle.vx_decide.specs.declared.rule.Rule.{Rule}
use Rattle.vx_record.proofs.Mapped.{commands_have_leave, acted_step_by_step}
use Rattle.vx_record.proofs.Owning.{all_filled, changes_have_leave, commands_denied_by_the_policy, moves_denied_by_the_policy, window_commands_denied}
use Rattle.vx_record.specs.Chronicles.{TickData}
use Rattle.vx_record.specs.Owners.{IsTickOf}
use Rattle.vx_audit.specs.Owners.{map_begun, next_tick, HasLeaveAt, AreDeniedBy, RecordsHaveLeave, RecordsDenyByThePolicy}
use Rattle.vx_audit.specs.Records.{RecordData, IsRecord}

module _ (r : RecordData) (is : IsRecord r) (filled : IsFilled r.chronicle.opening.terrain) where
  begun : IsFilled (map_begun r)
  begun = all_filled r.chronicle.opening.names r.chronicle.opening.terrain 1 r.chronicle.ticks filled is.run.ticks

  one_of : (before : List TickData) (tick : TickData) (later : List TickData) → r.chronicle.ticks ≡ before ++ tick ∷ later
      → IsTickOf r.chronicle before tick
  one_of before tick later all = record { later = later; all = all; run = is.run; filled = filled }

  has_leave : (p : Pos) → HasLeaveAt r p
  has_leave p = record {
    ticks = λ before tick later all. changes_have_leave r.chronicle before tick p (one_of before tick later all);
    behind = commands_have_leave r.chronicle.opening.names (map_begun r) (next_tick r) begun is.pending p;
    since = acted_step_by_step r.chronicle.opening.names (map_begun r) (next_tick r) begun is.pending p;
  }

  are_denied : (rule : Rule) → AreDeniedBy r rule
  are_denied rule = record {
    commands = λ before tick later entry all recorded.
        commands_denied_by_the_policy r.chronicle before tick entry rule (one_of before tick later all) recorded;
    moves = λ before tick later q p all. moves_denied_by_the_policy r.chronicle before tick q p rule (one_of before tick later all);
    behind = λ entry recorded. window_commands_denied r.chronicle.opening.names (map_begun r) (next_tick r) entry rule is.pending recorded;
  }

pub records_have_leave : RecordsHaveLeave
records_have_leave r p is filled = has_leave r is filled p

pub records_deny_by_the_policy : RecordsDenyByThePolicy
records_deny_by_the_policy r rule is filled = are_denied r is filled rule
