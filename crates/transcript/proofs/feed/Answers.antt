-- `feed` meets its contract: what the bytes from the next position on make of where the session
-- stands is the same after each turn.
use Rattle.transcript.proofs.Stands.{blocks}
use Rattle.transcript.proofs.feed.Goals as goal

pub returns-clause-stands : goal.returns-clause-stands
returns-clause-stands c =
    blocks _ _ _ _ _ (c.emptied-t.ensures _ _ _ _ _ _ _) c.loop-next.invariant.leads
    c.loop-next-test.false
