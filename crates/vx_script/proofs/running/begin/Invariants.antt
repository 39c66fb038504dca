-- the names that belong to this world: its books are those of its blanks
use Rattle.std.proofs.Common.{length}
use Rattle.vx_script.proofs.running.begin.Given as goal

abbrev pub ghosts-play-A-Ledger : goal.ghosts-play-A-Ledger
ghosts-play-A-Ledger g a = record { name = a.blanks.places.name; parts = a.blanks.places.parts }

abbrev pub ghosts-play-A-Naming : goal.ghosts-play-A-Naming
ghosts-play-A-Naming g a = record { first = a.opening.policy }

abbrev pub ghosts-play-A-Board : goal.ghosts-play-A-Board
ghosts-play-A-Board g a = record { edits = a.edits }

abbrev pub ghosts-play-A-History : goal.ghosts-play-A-History
ghosts-play-A-History g a = record { book = a.blanks.marks }

abbrev pub ghosts-play-A-Places : goal.ghosts-play-A-Places
ghosts-play-A-Places g a = record { all = length a.opening.terrain.sectors }

abbrev pub ghosts-play-B-Ledger : goal.ghosts-play-B-Ledger
ghosts-play-B-Ledger g a = record { name = a.blanks.seats.name; parts = a.blanks.seats.parts }

abbrev pub ghosts-play-B-Seats : goal.ghosts-play-B-Seats
ghosts-play-B-Seats g a = record { all = length a.opening.names }
