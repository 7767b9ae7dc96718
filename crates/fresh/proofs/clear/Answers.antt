-- `clear` meets its contract: the edges from i up to n are 0, those from n on are as they were; at
-- i = 0 that is the contract.
use native.Mathlib.Omega.{arith}
use mathlib.Core.Path.{refl}
use Rattle.rules.specs.Fresh.{no_edge}
use Rattle.fresh.proofs.Fills.{down, done}
use Rattle.fresh.proofs.clear.Goals as goal

pub loop-i-init : goal.loop-i-init
loop-i-init c = rw c.from-i.ensures refl

pub loop-i-preserved : goal.loop-i-preserved
loop-i-preserved c = down no_edge _ _ _ _ _ (omega arith) (omega arith) refl c.loop-i.invariant

pub returns : goal.returns
returns c = done no_edge _ _ _ (omega arith) c.loop-i.invariant
