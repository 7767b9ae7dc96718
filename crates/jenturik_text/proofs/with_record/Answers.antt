-- The words that are copied stand first; the rest is as it was made.
use mathlib.Core.Path.{refl}
use lib.ListN.{get_or, replicate, length-set}
use native.Mathlib.Omega.{arith}
use Rattle.jenturik_text.specs.Words.{WORDS}
use Rattle.jenturik_text.proofs.Parts.{one_more, behind, with_zeros}
use Rattle.jenturik_text.proofs.with_record.Goals as goal

pub loop-k-init : goal.loop-k-init
loop-k-init c = (refl, refl, refl)

pub loop-k-preserved : goal.loop-k-preserved
loop-k-preserved c = (
  simp length-set c.loop-k.invariant.0,
  one_more _ _ _ (omega arith) (omega arith) c.loop-k.invariant.1,
  behind c.loop-k.words c.args.v c.loop-k.k (get_or c.args.v c.loop-k.k 0) (replicate WORDS 0)
      c.loop-k.invariant.2,
)

pub returns : goal.returns
returns c =
    with_zeros _ _ _ _ (omega arith) (omega arith) refl c.loop-k.invariant.1
    c.loop-k.invariant.2
