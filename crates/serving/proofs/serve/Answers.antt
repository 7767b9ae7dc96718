-- `serve` meets its contract: the three parts that are lent are the table, and what lies behind
-- them stays.
use native.Mathlib.Omega.{arith}
use Rattle.session.proofs.Parts.{lent}
use Rattle.serving.proofs.Served.{served}
use Rattle.serving.proofs.serve.Goals as goal

pub returns : goal.returns
returns c =
    served _ _ _ _ _ _ _ _ _ _ _ _ _ _ _ _ _
    (lent _ _ _ _ c.min-a.ensures (omega arith))
    (lent _ _ _ _ c.min-b.ensures (omega arith))
    (lent _ _ _ _ c.min-c.ensures (omega arith)) c.feed-run.ensures
