-- What is kept of a map between two ticks: where it is not still, and the levels of its dust.
use Rattle.std.specs.Prelude.{◌≡◌, false, List, Option, IfSome}
use Rattle.vx_geom.specs.declared.pos.Pos.{Pos}
use Rattle.vx_cells.specs.Maps.{MapData, cell_on}
use Rattle.vx_places.specs.Places.{is_at}
use Rattle.vx_power.specs.Levels.{has}
use Rattle.vx_still.specs.declared.look.Look.{Look}
use Rattle.vx_still.specs.Mirrored.{IsMirror}
use Rattle.vx_still.specs.Stillness.{IsStill, LeavesStill}
use Rattle.vx_still.specs.declared.kept_dust.KeptDust.{KeptDust}
use Rattle.vx_still.specs.Unheeded.{IsKept}
use Rattle.vx_still.specs.Waking.{with_rebuilt}
use Rattle.vx_still.specs.Waking.{IsSettled, WakingData}

pub record WatchData : Type 0 where
  pub waking : WakingData
  pub dust : Option KeptDust

-- the map is still but where that tells, and what is kept of its dust mirrors it
pub record IsWatch (m : MapData) (watch : WatchData) : Type 0 where
  pub still : IsStill m watch.waking
  pub mirror : IfSome watch.dust (IsMirror m watch.waking.rebuilt)

-- with more positions that were rebuilt
abbrev pub with_written : WatchData → List Pos → WatchData
with_written watch written = record watch { waking = with_rebuilt watch.waking written }

-- cells are written, with their places among those that were rebuilt
abbrev pub WritesKeepWatch : Type 0
WritesKeepWatch = (m next : MapData) (watch : WatchData) (written : List Pos) → IsWatch m watch
    → ((p : Pos) → has written p ≡ false → cell_on next p ≡ cell_on m p)
    → IsWatch next (with_written watch written)

-- after a tick, where this was kept of the dust before it
abbrev pub TicksLeaveWatch : Type 0
TicksLeaveWatch = (m next : MapData) (watch : WatchData)
    → LeavesStill m next watch.waking
    → IfSome watch.dust (IsKept m) → IsWatch next watch

-- all rests outside the places that are told
abbrev pub IsLook : MapData → Look → Type 0
IsLook m look =
    IfSome look.places (λ places. (places.sizes ≡ m.sizes) × IsSettled m (is_at places))
