-- `whiten` meets its contract: the colours from n on are white, and at n = 0 these are all.
use native.Mathlib.Omega.{arith}
use mathlib.Core.Path.{refl}
use Rattle.rules.specs.Fresh.{all_white}
use Rattle.fresh.proofs.Fills.{ahead, down, done}
use Rattle.fresh.proofs.whiten.Goals as goal

pub loop-n-init : goal.loop-n-init
loop-n-init c = ahead all_white c.args.colour.now _ refl

pub loop-n-preserved : goal.loop-n-preserved
loop-n-preserved c = down all_white _ _ _ _ _ (omega arith) (omega arith) refl c.loop-n.invariant

pub returns : goal.returns
returns c = done all_white _ _ _ (omega arith) c.loop-n.invariant
