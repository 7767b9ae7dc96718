-- `stop` meets its contract: the answer is put into the output.
use Rattle.session.specs.Feeding.{standing, stopped}
use Rattle.export.proofs.stop.Goals as goal

pub returns : goal.returns
unfolding standing stopped
returns c = λ l r c₁ ls rs line. rw c.say-used.ensures
