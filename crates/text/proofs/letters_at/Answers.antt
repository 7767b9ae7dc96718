-- Each turn reads one letter as the definition does and keeps word and bit below 4,096, so nothing
-- overflows; the first byte that is no letter ends it.
use mathlib.Core.Path.{◌∙◌}
use native.Mathlib.Omega.{arith}
use Rattle.text.proofs.Lines.{part, side_small, letters_stop, letters_next, letters_done}
use Rattle.text.proofs.letters_at.Goals as goal

pub returns-in_default : goal.returns-in_default
returns-in_default c =
    rw c.loop.invariant.3 (letters_stop _ _ _ _ _ c.in_default.ensures)

pub overflow_mul-word : goal.overflow_mul-word
overflow_mul-word c =
    let p = part _ _ (side_small _ _ c.in-Some.ensures) c.loop.invariant.2 in omega arith

pub overflow_add-word : goal.overflow_add-word
overflow_add-word c =
    let p = part _ _ (side_small _ _ c.in-Some.ensures) c.loop.invariant.2 in omega arith

pub loop-preserved : goal.loop-preserved
loop-preserved c = (
  omega arith,
  omega arith,
  omega arith,
  c.loop.invariant.3
      ∙ letters_next _ _ _ _ _ _ _ c.loop-test.true c.in-Some.ensures,
)

pub returns : goal.returns
returns c = rw c.loop.invariant.3 (letters_done _ _ _ _ _ (omega arith))
