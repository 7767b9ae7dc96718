-- `closed` meets its contract: only an export that is not complete ends the run.
use Rattle.session.specs.Feeding.{standing, stopped}
use Rattle.transcript.proofs.closed.Goals as goal

pub returns-in-Loading : goal.returns-in-Loading
unfolding standing stopped
returns-in-Loading c =
    λ l r c₁ ls rs line. rw c.in-Loading.is (c.stop.ensures l r c₁ ls rs line)
