use Rattle.vx_index.proofs.indexed.Indexed.tile_at.Goals as goal

pub returns-in_err-sector-clause-of : goal.returns-in_err-sector-clause-of
returns-in_err-sector-clause-of c = rw c.from_residual.ensures tt

pub returns-in_err-sector-clause-within : goal.returns-in_err-sector-clause-within
returns-in_err-sector-clause-within c = rw c.from_residual.ensures tt

pub returns-in_err-tile-clause-of : goal.returns-in_err-tile-clause-of
returns-in_err-tile-clause-of c = rw c.from_residual-in_err-tile.ensures tt

pub returns-in_err-tile-clause-within : goal.returns-in_err-tile-clause-within
returns-in_err-tile-clause-within c = rw c.from_residual-in_err-tile.ensures tt
