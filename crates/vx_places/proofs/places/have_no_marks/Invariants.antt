use Rattle.std.proofs.Common.{◌≡◌, None, take}
use Rattle.std.specs.List.{All}
use Rattle.vx_places.proofs.places.have_no_marks.Given as goal

-- none of those so far has marks
abbrev pub invariant-loop-marks : goal.invariant-loop-marks
invariant-loop-marks l = All (λ marks. marks ≡ None) (take l.marks-index l.sectors)
