-- `whitening` meets its contract: before each turn the steps that were made lead from the start to
-- i. A black node is made white, which is one step more; any other ends the loop.
use mathlib.Core.Path.{refl, ◌≡◌}
use lib.ListN.{length-set}
use native.Mathlib.Omega.{arith}
use Rattle.in_order.proofs.Sweeps.{whitens_none, whitens_more}
use Rattle.in_order.proofs.whitening.Goals as goal

pub loop-i-init : goal.loop-i-init
loop-i-init c = (refl, whitens_none _ _ _)

pub returns-then-colour-i-ne-BLACK : goal.returns-then-colour-i-ne-BLACK
returns-then-colour-i-ne-BLACK c = (omega arith, c.loop-i.invariant.1)

pub loop-i-preserved : goal.loop-i-preserved
loop-i-preserved c = (
  simp length-set (omega arith),
  whitens_more _ _ _ _ _ _ c.loop-i.invariant.1 (omega arith) refl refl refl (omega arith),
)

pub returns : goal.returns
returns c =
    let at_end : c.loop-i.i ≡ c.args.end = omega arith in
    (omega arith, rw at_end at c.loop-i.invariant.1)
