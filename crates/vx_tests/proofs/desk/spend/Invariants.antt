-- the name of this desk: its first policy is the one that it is opened on, and its book the one of its edits
use Rattle.vx_tests.proofs.desk.spend.Given as goal

abbrev pub ghosts-spend_in-J-Naming : goal.ghosts-spend_in-J-Naming
ghosts-spend_in-J-Naming g a = record { first = a.policy }

abbrev pub ghosts-spend_in-J-Board : goal.ghosts-spend_in-J-Board
ghosts-spend_in-J-Board g a = record { edits = a.opened }
