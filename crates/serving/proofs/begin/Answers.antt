-- `begin` meets its contract: the answer's code decides the stage, in `begun` as in the code.
use Rattle.serving.proofs.Served.{begun_so}
use Rattle.serving.proofs.begin.Goals as goal

pub returns : goal.returns
returns c = λ ls rs.
    begun_so _ _ _ _ _ _ _ _ _ _ _ _ _ _ _ _ _ c.first_of-opened.ensures c.say-used.ensures
    (rw c.from-m.ensures at c.after.ensures)
