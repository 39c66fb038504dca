-- the names that belong to this world: its books are those of its blanks
use Rattle.std.proofs.Common.{length}
use Rattle.vx_world_tests.proofs.days.spend.Given as goal

abbrev pub ghosts-spend_in-A-Ledger : goal.ghosts-spend_in-A-Ledger
ghosts-spend_in-A-Ledger g a = record { name = a.blanks.places.name; parts = a.blanks.places.parts }

abbrev pub ghosts-spend_in-A-Naming : goal.ghosts-spend_in-A-Naming
ghosts-spend_in-A-Naming g a = record { first = a.opening.policy }

abbrev pub ghosts-spend_in-A-Board : goal.ghosts-spend_in-A-Board
ghosts-spend_in-A-Board g a = record { edits = a.edits }

abbrev pub ghosts-spend_in-A-History : goal.ghosts-spend_in-A-History
ghosts-spend_in-A-History g a = record { book = a.blanks.marks }

abbrev pub ghosts-spend_in-A-Places : goal.ghosts-spend_in-A-Places
ghosts-spend_in-A-Places g a = record { all = length a.opening.terrain.sectors }

abbrev pub ghosts-spend_in-B-Ledger : goal.ghosts-spend_in-B-Ledger
ghosts-spend_in-B-Ledger g a = record { name = a.blanks.seats.name; parts = a.blanks.seats.parts }

abbrev pub ghosts-spend_in-B-Seats : goal.ghosts-spend_in-B-Seats
ghosts-spend_in-B-Seats g a = record { all = length a.opening.names }
