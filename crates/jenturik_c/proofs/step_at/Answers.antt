-- The words of a step are those of the part that it is read from.
use native.Mathlib.Omega.{arith}
use Rattle.jenturik_c.proofs.Flats.{own_step}
use Rattle.jenturik_c.proofs.step_at.Goals as goal

pub returns : goal.returns
returns c = rw c.kind_of.ensures (own_step c.args.steps.now c.args.i _ (omega arith))
