use Rattle.std.proofs.Common.{◌+◌, length, map, sym, subst}
use Rattle.vx_windows.specs.Sectors.{entries_of}
use Rattle.vx_record.specs.Chronicles.{TickData}
use Rattle.vx_keeper.specs.Keepers.{fates_next}
use Rattle.vx_audit.specs.Deeds.{Ticked}
use Rattle.vx_session.specs.Sessions.{SessionData, Does, edits_to, player_in, session_data}
use Rattle.vx_session.proofs.Passed.{ticked}
use Rattle.vx_session.proofs.session.Session.tick_by_what_is_shown.Goals as goal

pub returns-clause-ticked : goal.returns-clause-ticked
returns-clause-ticked g c =
    let i = c.self.inside in
    let k = c.tick_alone.new.keeper in
    let marks = c.push_reserved.new.self.items in
    let was : SessionData = session_data i.bounds i.keeper (map player_in i.players.items) (edits_to i.last) i.marks.items in
    let told = c.in_ok-fates.ensures.ok in
    let tick : TickData = record {
      number = length i.keeper.chronicle.ticks + 1;
      version = i.keeper.world.version;
      windows = map entries_of told.0;
      fates = fates_next i.keeper told.0;
    } in
    rw (← c.self.view_is)
    (subst (λ fates. Does was (Ticked fates) (record was { keeper = k; marks = marks })) (sym told.2)
    (ticked was k c.reserve.new.self.items marks tick told.1.chronicle c.in_ok-reserve.ensures.items c.push_reserved.ensures.items))
