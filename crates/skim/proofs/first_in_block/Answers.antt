-- `first_in_block` meets its contract: before each turn the colours before `first`, as far as they
-- were read, stop no look. `stop_at` is j where the next one stops a look, and `min` keeps the
-- smaller of the two.
use native.Mathlib.Omega.{arith}
use Rattle.skim.proofs.Counts.{upto_none, upto_next}
use Rattle.skim.proofs.first_in_block.Goals as goal

pub loop-j-init : goal.loop-j-init
loop-j-init c = (omega arith, upto_none _ _ _)

pub loop-j-preserved : goal.loop-j-preserved
loop-j-preserved c = (
  omega arith,
  upto_next _ _ _ _ c.loop-j.invariant.1
      (omega arith) (λ h. c.stop_at.ensures (omega arith)),
)
