-- The line at hand is answered by `later_of`, its answer is put by `say`, and the next line begins
-- empty: the definition's three parts.
use Rattle.session.specs.Feeding.{ended}
use Rattle.serving.specs.Serving.{going}
use Rattle.serving.proofs.ended.Goals as goal

pub returns : goal.returns
unfolding ended going
returns c =
    rw (← c.later_of-told.ensures, ← c.say.ensures)
