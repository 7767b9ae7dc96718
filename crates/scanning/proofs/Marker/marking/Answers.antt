-- `marking` meets its contract: before each turn the steps that were made lead from the start to s.
-- `look_and_visit` leads on from there by some step, so the measure, what is left of cap, falls.
use Rattle.scanning.proofs.Marks.{goes_on}
use Rattle.scanning.proofs.Marker.marking.Goals as goal

pub loop-t-preserved : goal.loop-t-preserved
loop-t-preserved c =
    goes_on _ _ _ _ _ _ _ _ _ _ c.loop-t.invariant c.in-Some.ensures.1
