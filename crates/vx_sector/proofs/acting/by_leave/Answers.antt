use Rattle.std.proofs.Common.{◌≡◌, subst}
use Rattle.vx_cells.specs.SectorCells.{cell_at}
use Rattle.vx_sector.specs.Commands.{place_of}
use Rattle.vx_sector.proofs.Leaving.{done_by, done_so, done_anywhere, done_there}
use Rattle.vx_sector.proofs.acting.by_leave.Goals as goal

pub returns-in-Place-clause-answer : goal.returns-in-Place-clause-answer
returns-in-Place-clause-answer c = rw c.in-Place.is (done_by _ _ _ _ _ c.done.ensures (c.placing.ensures c.args.cells.now c.in-Place.field-0 (subst (λ cmd. c.args.cell ≡ cell_at c.args.cells.now (place_of cmd)) c.in-Place.is c.requires.cell)))

pub returns-in-Place-clause-effect : goal.returns-in-Place-clause-effect
returns-in-Place-clause-effect c = rw c.in-Place.is (done_so _ _ _ _ _ c.done.ensures (c.placing.ensures c.args.cells.now c.in-Place.field-0 (subst (λ cmd. c.args.cell ≡ cell_at c.args.cells.now (place_of cmd)) c.in-Place.is c.requires.cell)))

pub returns-in-Place-clause-fits : goal.returns-in-Place-clause-fits
returns-in-Place-clause-fits c = done_anywhere _ _ _ _ _ _ _ c.done.ensures (c.placing.ensures c.args.cells.now c.in-Place.field-0 (subst (λ cmd. c.args.cell ≡ cell_at c.args.cells.now (place_of cmd)) c.in-Place.is c.requires.cell))

pub returns-in-Break-clause-answer : goal.returns-in-Break-clause-answer
returns-in-Break-clause-answer c = rw c.in-Break.is (done_by _ _ _ _ _ c.done-in-Break.ensures c.breaking.ensures)

pub returns-in-Break-clause-effect : goal.returns-in-Break-clause-effect
returns-in-Break-clause-effect c = rw c.in-Break.is (done_so _ _ _ _ _ c.done-in-Break.ensures c.breaking.ensures)

pub returns-in-Break-clause-fits : goal.returns-in-Break-clause-fits
returns-in-Break-clause-fits c = done_anywhere _ _ _ _ _ _ _ c.done-in-Break.ensures c.breaking.ensures

pub returns-in-Turn-clause-answer : goal.returns-in-Turn-clause-answer
returns-in-Turn-clause-answer c = rw c.in-Turn.is (done_by _ _ _ _ _ c.done-in-Turn.ensures (c.turning.ensures c.args.cells.now c.in-Turn.field-0 (subst (λ cmd. c.args.cell ≡ cell_at c.args.cells.now (place_of cmd)) c.in-Turn.is c.requires.cell)))

pub returns-in-Turn-clause-effect : goal.returns-in-Turn-clause-effect
returns-in-Turn-clause-effect c = rw c.in-Turn.is (done_so _ _ _ _ _ c.done-in-Turn.ensures (c.turning.ensures c.args.cells.now c.in-Turn.field-0 (subst (λ cmd. c.args.cell ≡ cell_at c.args.cells.now (place_of cmd)) c.in-Turn.is c.requires.cell)))

pub returns-in-Turn-clause-fits : goal.returns-in-Turn-clause-fits
returns-in-Turn-clause-fits c = done_anywhere _ _ _ _ _ _ _ c.done-in-Turn.ensures (c.turning.ensures c.args.cells.now c.in-Turn.field-0 (subst (λ cmd. c.args.cell ≡ cell_at c.args.cells.now (place_of cmd)) c.in-Turn.is c.requires.cell))

pub returns-in-Put-clause-answer : goal.returns-in-Put-clause-answer
returns-in-Put-clause-answer c = rw c.in-Put.is (done_by _ _ _ _ _ c.done-in-Put.ensures c.putting.ensures.effect)

pub returns-in-Put-clause-effect : goal.returns-in-Put-clause-effect
returns-in-Put-clause-effect c = rw c.in-Put.is (done_so _ _ _ _ _ c.done-in-Put.ensures c.putting.ensures.effect)

pub returns-in-Put-clause-fits : goal.returns-in-Put-clause-fits
returns-in-Put-clause-fits c = rw c.in-Put.is (done_there _ _ _ _ _ c.done-in-Put.ensures c.putting.ensures.fits)

pub returns-in-Take-clause-answer : goal.returns-in-Take-clause-answer
returns-in-Take-clause-answer c = rw c.in-Take.is (done_by _ _ _ _ _ c.done-in-Take.ensures c.taking.ensures.effect)

pub returns-in-Take-clause-effect : goal.returns-in-Take-clause-effect
returns-in-Take-clause-effect c = rw c.in-Take.is (done_so _ _ _ _ _ c.done-in-Take.ensures c.taking.ensures.effect)

pub returns-in-Take-clause-fits : goal.returns-in-Take-clause-fits
returns-in-Take-clause-fits c = rw c.in-Take.is (done_there _ _ _ _ _ c.done-in-Take.ensures c.taking.ensures.fits)
