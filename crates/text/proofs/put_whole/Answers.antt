-- Each turn stores one byte where there is room for it, so the bytes that are left, put behind
-- those that are there, make the same output as all of them at first.
use mathlib.Core.Path.{refl, sym, ◌∙◌, ap}
use lib.ListN.{length-set}
use native.Mathlib.Omega.{arith}
use native.Mathlib.Nat.{add-zero}
use Rattle.text.specs.Answers.{written}
use Rattle.text.proofs.Outputs.{put_next, put_done}
use Rattle.text.proofs.put_whole.Goals as goal

pub loop-k-init : goal.loop-k-init
loop-k-init c = (refl, rw (add-zero c.args.used) refl)

pub loop-k-preserved : goal.loop-k-preserved
loop-k-preserved c = (
  simp length-set (omega arith),
  c.loop-k.invariant.1 ∙ put_next _ _ _ _ c.loop-k-test.true (omega arith),
)

pub returns : goal.returns
returns c =
    ap (λ n. written c.loop-k.out n) (omega arith)
    ∙ put_done _ _ _ c.loop-k-test.false ∙ sym c.loop-k.invariant.1
