-- `fill` meets its contract: the answer's code decides the stage, in `filled` as in the code.
use Rattle.export.proofs.Filled.{filled_so}
use Rattle.export.proofs.fill.Goals as goal

pub returns : goal.returns
returns c = λ line.
    filled_so _ _ _ _ _ _ _ _ _ _ _ _ _ _ _ _ (rw c.from-n.ensures at c.load_part-told.ensures)
    c.say-used.ensures _ c.after.ensures _
