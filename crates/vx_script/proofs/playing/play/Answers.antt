use Rattle.vx_script.proofs.playing.play.Goals as goal

pub returns-clause-ok : goal.returns-clause-ok
returns-clause-ok g c = rw c.in_ok-session.ensures.opening at c.play_at-played.ensures.ok

pub returns-clause-err : goal.returns-clause-err
returns-clause-err g c fault same own = rw c.in_ok-session.ensures.opening at (c.play_at-played.ensures.err fault same own)
