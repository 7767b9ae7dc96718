-- The words that are copied stand first.
use mathlib.Core.Path.{refl}
use lib.ListN.{length-set}
use native.Mathlib.Omega.{arith}
use Rattle.jenturik_text.proofs.Parts.{one_more, first_words}
use Rattle.jenturik_text.proofs.record_part.Goals as goal

pub loop-k-init : goal.loop-k-init
loop-k-init c = (refl, refl)

pub loop-k-preserved : goal.loop-k-preserved
loop-k-preserved c = (
  simp length-set c.loop-k.invariant.0,
  one_more _ _ _ (omega arith) (omega arith) c.loop-k.invariant.1,
)

pub returns : goal.returns
returns c = first_words _ _ _ (omega arith) c.loop-k.invariant.0 c.loop-k.invariant.1
