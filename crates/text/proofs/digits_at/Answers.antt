-- Each turn reads one digit as the definition does, with one fewer to come; the number stays below
-- a power of ten, so it fits.
use mathlib.Core.Path.{◌∙◌}
use native.Mathlib.Omega.{arith}
use Rattle.text.proofs.Lines.{no_bytes, a_digit, no_digit, digit_is, small}
use Rattle.text.proofs.Lines.{longer, digits_out, digits_stop}
use Rattle.text.proofs.Lines.{digits_next, digits_done}
use Rattle.text.proofs.digits_at.Goals as goal

pub returns-in_default : goal.returns-in_default
returns-in_default c =
    rw (c.loop.invariant.1, no_bytes _ c.in_default.ensures.cases) (digits_out _ _)

pub returns-then-not-is_ascii_digit : goal.returns-then-not-is_ascii_digit
returns-then-not-is_ascii_digit c =
    rw (c.loop.invariant.1, c.in-Some.ensures.cases.0)
    (digits_stop _ _ _ _ (no_digit _ _ c.is_ascii_digit.ensures.value c.if-not-is_ascii_digit.true))

pub overflow_mul-n : goal.overflow_mul-n
overflow_mul-n c = let s = small _ _ c.loop-test.true c.loop.invariant.0 in omega arith

pub overflow_add-n : goal.overflow_add-n
overflow_add-n c = let s = small _ _ c.loop-test.true c.loop.invariant.0 in omega arith

pub loop-preserved : goal.loop-preserved
loop-preserved c =
    let d = a_digit _ _ c.is_ascii_digit.ensures.value c.if-not-is_ascii_digit.false in
    let e = digit_is _ d in (
      longer _ _ _ c.loop.invariant.0 (omega arith),
      c.loop.invariant.1
          ∙ rw c.in-Some.ensures.cases.0 (digits_next _ _ _ _ _ c.loop-test.true d c.from.ensures),
    )

pub returns : goal.returns
returns c = rw c.loop.invariant.1 (digits_done _ _ _ (omega arith))
