-- The faults that end a run.
use Rattle.std.specs.Prelude.{◌≢◌}
use Rattle.vx_session.specs.declared.session_error.SessionError.{SessionError}
use Rattle.vx_session.specs.declared.session_error.SessionError.TheVariants as session
use Rattle.vx_json.specs.declared.record_error.RecordError.{RecordError}
use Rattle.vx_json.specs.declared.record_error.RecordError.TheVariants as record_error
use Rattle.vx_script.specs.declared.fault.Fault.{Fault}
use Rattle.vx_script.specs.declared.fault.Fault.TheVariants.{HistoryFull, NoMemory, Torn, PassMissing, ListsDiffer, NoView, BadRegionFile, ReadFailed, WriteFailed}

-- the fault where a session ends before all was done
abbrev pub by_session : SessionError → Fault
by_session session.HistoryFull = HistoryFull
by_session session.NoMemory = NoMemory
by_session (session.Torn sector) = Torn sector
by_session session.PassMissing = PassMissing
by_session (session.Differs seat sector) = ListsDiffer seat sector
by_session session.NoView = NoView

-- the fault where a record is not written to its end
abbrev pub by_record : RecordError → Fault
by_record record_error.NoMemory = NoMemory
by_record record_error.WriteFailed = WriteFailed

-- the fault is the script's own, and not one of memory, of a device or of the world
pub record IsOwn (fault : Fault) : Type 0 where
  pub memory : fault ≢ NoMemory
  pub read : fault ≢ ReadFailed
  pub write : fault ≢ WriteFailed
  pub session : (error : SessionError) → fault ≢ by_session error

-- the fault is one that a run may end by: a run reads no regions file
abbrev pub IsOfRun : Fault → Type 0
IsOfRun fault = fault ≢ BadRegionFile
